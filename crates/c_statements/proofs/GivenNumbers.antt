-- The numbers of a type's scalars, part by part.
use Rattle.std.proofs.Common.{◌≡◌, ℕ, zero, suc, ℤ, List, ◌++◌, Result, Ok, Err, refl, sym, ap, ◌∙◌, append_assoc}
use Rattle.type_trees.specs.Trees.{Many, Struct, End, Field}
use Rattle.type_trees.specs.Values.{Value, cells, cells_row}
use Rattle.c_memory.specs.Initializers.{Init, Braces, Inits, Done, More, zeros, zeros_row, initial, initial_row, elements, copies_of}
use Rattle.c_ast.specs.declared.Target.{Target}
use Rattle.c_ast.specs.Structs.{CTree, CRow}
use Rattle.c_ast.specs.Syntax.{Name}
use Rattle.c_meaning.specs.Initializers.{each_number, in_numbers, row_in_numbers}
use Rattle.c_meaning.specs.Memory.{nought}
use Rattle.c_meaning.specs.Values.{Trouble, CValue, on_ok}
use Rattle.c_statements.specs.Numbers.{numbers_given, elements_given, members_given}

-- ---- zeros

pub zero_elements_more : (z : Value ℤ) (rest less : ℕ) (out whole : List ℤ) → rest ≡ suc less → out ++ cells_row (copies_of rest z) ≡ whole → (out ++ cells z) ++ cells_row (copies_of less z) ≡ whole
zero_elements_more z rest less out whole e h = append_assoc out (cells z) (cells_row (copies_of less z)) ∙ ap (λ n. out ++ cells_row (copies_of n z)) (sym e) ∙ h

-- ---- one after another

pub numbers_more : (now r next all : Result (List ℤ) Trouble) (out more : List ℤ) → on_ok now (λ ns. Ok (out ++ ns)) ≡ all → now ≡ on_ok r (λ xs. on_ok next (λ ys. Ok (xs ++ ys))) → on_ok r (λ ns. Ok (out ++ ns)) ≡ Ok more → on_ok next (λ ns. Ok (more ++ ns)) ≡ all
numbers_more now r next all out more h e k = go r next (ap (λ x. on_ok x (λ ns. Ok (out ++ ns))) (sym e) ∙ h) k
  where
    go : (r next : Result (List ℤ) Trouble) → on_ok (on_ok r (λ xs. on_ok next (λ ys. Ok (xs ++ ys)))) (λ ns. Ok (out ++ ns)) ≡ all → on_ok r (λ ns. Ok (out ++ ns)) ≡ Ok more → on_ok next (λ ns. Ok (more ++ ns)) ≡ all
    go (Ok xs) (Ok ys) h k = let e : out ++ xs ≡ more = cc in ap (λ l. Ok (l ++ ys)) (sym e) ∙ ap Ok (append_assoc out xs ys) ∙ h
    go (Ok xs) (Err w) h k = h
    go (Err w) next h k = absurd (cc)

pub numbers_end : (now r next all : Result (List ℤ) Trouble) (out : List ℤ) (w : Trouble) → on_ok now (λ ns. Ok (out ++ ns)) ≡ all → now ≡ on_ok r (λ xs. on_ok next (λ ys. Ok (xs ++ ys))) → on_ok r (λ ns. Ok (out ++ ns)) ≡ Err w → all ≡ Err w
numbers_end now r next all out w h e k = go r next (ap (λ x. on_ok x (λ ns. Ok (out ++ ns))) (sym e) ∙ h) k
  where
    go : (r next : Result (List ℤ) Trouble) → on_ok (on_ok r (λ xs. on_ok next (λ ys. Ok (xs ++ ys)))) (λ ns. Ok (out ++ ns)) ≡ all → on_ok r (λ ns. Ok (out ++ ns)) ≡ Err w → all ≡ Err w
    go (Ok xs) next h k = absurd (cc)
    go (Err v) next h k = sym h ∙ k

module _ (t : Target) where
  pub element_more : (n : ℕ) (a : CTree) (i : Init CValue) (is : Inits CValue) → elements_given t (suc n) a (More i is) ≡ on_ok (numbers_given t a i) (λ xs. on_ok (elements_given t n a is) (λ ys. Ok (xs ++ ys)))
  element_more n a i is = go (in_numbers t a i) (each_number n (in_numbers t a) is)
    where
      go : (r : Result (Init ℤ) Trouble) (q : Result (Inits ℤ) Trouble) → on_ok (on_ok r (λ w. on_ok q (λ ws. Ok (More w ws)))) (λ ns. Ok (cells_row (elements (suc n) (initial nought a) (zeros nought a) ns)))
          ≡ on_ok (on_ok r (λ ns. Ok (cells (initial nought a ns)))) (λ xs. on_ok (on_ok q (λ ns. Ok (cells_row (elements n (initial nought a) (zeros nought a) ns)))) (λ ys. Ok (xs ++ ys)))
      go (Ok w) (Ok ws) = refl
      go (Ok w) (Err v) = refl
      go (Err w) q = refl

  pub no_element : (n : ℕ) (a : CTree) → elements_given t n a Done ≡ Ok (cells_row (copies_of n (zeros nought a)))
  no_element zero a = refl
  no_element (suc n) a = refl

  pub member_more : (f : Name) (a : CTree) (r : CRow) (i : Init CValue) (is : Inits CValue) → members_given t (Field f a r) (More i is) ≡ on_ok (numbers_given t a i) (λ xs. on_ok (members_given t r is) (λ ys. Ok (xs ++ ys)))
  member_more f a r i is = go (in_numbers t a i) (row_in_numbers t r is)
    where
      go : (x : Result (Init ℤ) Trouble) (q : Result (Inits ℤ) Trouble) → on_ok (on_ok x (λ w. on_ok q (λ ws. Ok (More w ws)))) (λ ns. Ok (cells_row (initial_row nought (Field f a r) ns)))
          ≡ on_ok (on_ok x (λ ns. Ok (cells (initial nought a ns)))) (λ xs. on_ok (on_ok q (λ ns. Ok (cells_row (initial_row nought r ns)))) (λ ys. Ok (xs ++ ys)))
      go (Ok w) (Ok ws) = refl
      go (Ok w) (Err v) = refl
      go (Err w) q = refl

  pub no_member : (r : CRow) → members_given t r Done ≡ Ok (cells_row (zeros_row nought r))
  no_member End = refl
  no_member (Field f a r) = refl

  pub braces_elements : (n : ℕ) (a : CTree) (is : Inits CValue) → numbers_given t (Many n a) (Braces is) ≡ elements_given t n a is
  braces_elements n a is = go (each_number n (in_numbers t a) is)
    where
      go : (q : Result (Inits ℤ) Trouble) → on_ok (on_ok q (λ ws. Ok (Braces ws))) (λ ns. Ok (cells (initial nought (Many n a) ns))) ≡ on_ok q (λ ns. Ok (cells_row (elements n (initial nought a) (zeros nought a) ns)))
      go (Ok ws) = refl
      go (Err w) = refl

  pub braces_members : (k : Name) (r : CRow) (is : Inits CValue) → numbers_given t (Struct k r) (Braces is) ≡ members_given t r is
  braces_members k r is = go (row_in_numbers t r is)
    where
      go : (q : Result (Inits ℤ) Trouble) → on_ok (on_ok q (λ ws. Ok (Braces ws))) (λ ns. Ok (cells (initial nought (Struct k r) ns))) ≡ on_ok q (λ ns. Ok (cells_row (initial_row nought r ns)))
      go (Ok ws) = refl
      go (Err w) = refl

-- What the parts of an initializer give, from a place on.
use Rattle.std.proofs.Common.{◌≡◌, ℕ, zero, suc, ◌+◌, ◌<◌, ◌≤◌, ℤ, List, [], ◌∷◌, ◌++◌, length, map, drop, get_or, Option, Some, None, Result, Ok, Err, refl, sym, ap, ◌∙◌, arith, length-drop}
use Rattle.std.specs.Prelude.{slice_get, OnOk}
use Rattle.std.specs.Option.{option_map}
use Rattle.iv_words.specs.declared.Memory.{Memory as NoRoom}
use Rattle.type_trees.specs.Trees.{End, Field as Member}
use Rattle.type_trees.specs.Values.{cells, cells_row}
use Rattle.c_memory.specs.Initializers.{zeros, copies_of}
use Rattle.c_ast.specs.declared.Target.{Target}
use Rattle.c_ast.specs.Structs.{CTree, CRow}
use Rattle.c_meaning.specs.Memory.{nought}
use Rattle.c_meaning.specs.Values as meaning
use Rattle.c_meaning.specs.Values.{on_ok}
use Rattle.c_objects.specs.Shapes.{field_of, row_from}
use Rattle.c_objects.specs.declared.Field.{Field}
use Rattle.c_objects.proofs.View.{fields_drop}
use Rattle.c_operators.specs.Values.{Gives}
use Rattle.run_world.proofs.Rests.{nothing_left}
use Rattle.c_statements.specs.Given.{given_of, givens_of}
use Rattle.c_statements.specs.Numbers.{numbers_given, elements_given, member_given, members_given}
use Rattle.c_statements.specs.Parts.{room}
use Rattle.c_statements.specs.declared.initial.Given.{Given}
use Rattle.c_statements.proofs.ConvertedArguments.{nothing_there, something_there}
use Rattle.c_statements.proofs.GivenNumbers.{element_more, no_element, member_more, no_member}

module _ (t : Target) where
  pub elements_at : (a : CTree) (n m : ℕ) (now rest : List Given) (g : Given) → n ≡ suc m → now ≡ g ∷ rest → elements_given t n a (givens_of now) ≡ on_ok (numbers_given t a (given_of g)) (λ xs. on_ok (elements_given t m a (givens_of rest)) (λ ys. Ok (xs ++ ys)))
  elements_at a n m now rest g e is = ap (λ k. elements_given t k a (givens_of now)) e ∙ ap (λ gs. elements_given t (suc m) a (givens_of gs)) is ∙ element_more t m a (given_of g) (givens_of rest)

  pub elements_end : (a : CTree) (n : ℕ) (now : List Given) → now ≡ [] → elements_given t n a (givens_of now) ≡ Ok (cells_row (copies_of n (zeros nought a)))
  elements_end a n now is = ap (λ gs. elements_given t n a (givens_of gs)) is ∙ no_element t n a

  past_none : {A : Type 0} (xs : List A) (i : ℕ) → slice_get xs i ≡ None → drop (i + 1) xs ≡ []
  past_none [] zero h = refl
  past_none [] (suc i) h = let e : suc i + 1 ≡ suc (i + 1) = omega arith in ap (λ n. drop n []) e
  past_none (x ∷ xs) zero h = absurd (cc)
  past_none (x ∷ xs) (suc i) h = let e : suc i + 1 ≡ suc (i + 1) = omega arith in ap (λ n. drop n (x ∷ xs)) e ∙ past_none xs i h

  pub members_at : (fs : List Field) (gs : List Given) (i : ℕ) (f : Field) (o : Option Given) → o ≡ slice_get gs i → i < length fs → f ≡ get_or fs i f
      → members_given t (row_from (map field_of (drop i fs))) (givens_of (drop i gs))
      ≡ on_ok (member_given t (field_of f).1 (option_map given_of o)) (λ xs. on_ok (members_given t (row_from (map field_of (drop (i + 1) fs))) (givens_of (drop (i + 1) gs))) (λ ys. Ok (xs ++ ys)))
  members_at fs gs i f (Some g) h lt is =
      ap (λ r. members_given t r (givens_of (drop i gs))) (fields_drop fs i f is lt)
      ∙ ap (λ l. members_given t (Member (field_of f).0 (field_of f).1 (row_from (map field_of (drop (i + 1) fs)))) (givens_of l)) (something_there gs i g (sym h))
      ∙ member_more t (field_of f).0 (field_of f).1 (row_from (map field_of (drop (i + 1) fs))) (given_of g) (givens_of (drop (i + 1) gs))
  members_at fs gs i f None h lt is =
      let r : CRow = row_from (map field_of (drop (i + 1) fs)) in
      let z : List ℤ = cells (zeros nought (field_of f).1) in
      ap (λ r. members_given t r (givens_of (drop i gs))) (fields_drop fs i f is lt)
      ∙ ap (λ l. members_given t (Member (field_of f).0 (field_of f).1 r) (givens_of l)) (nothing_there gs i (sym h))
      ∙ ap (λ q. on_ok q (λ ys. Ok (z ++ ys))) (sym (no_member t r))
      ∙ ap (λ l. on_ok (members_given t r (givens_of l)) (λ ys. Ok (z ++ ys))) (sym (past_none gs i (sym h)))

  more_left : (l : List Given) (gs : List Given) (i : ℕ) → l ≡ drop i gs → i < length gs → members_given t End (givens_of l) ≡ Err meaning.Stuck
  more_left [] gs i e h = absurd (omega (arith, ap length e, length-drop i gs))
  more_left (g ∷ rest) gs i e h = refl

  pub too_many : (fs : List Field) (gs : List Given) (i : ℕ) → length fs ≤ i → i < length gs → members_given t (row_from (map field_of (drop i fs))) (givens_of (drop i gs)) ≡ Err meaning.Stuck
  too_many fs gs i h k = ap (λ l. members_given t (row_from (map field_of l)) (givens_of (drop i gs))) (nothing_left fs i h) ∙ more_left (drop i gs) gs i refl k

-- ---- zeros at the end

pub zeros_end : (r : Result (Unit {0}) NoRoom) (all : Result (List ℤ) meaning.Trouble) (now new : List ℤ) → Ok now ≡ all → OnOk r (new ≡ now) → Gives (Unit {0}) (λ (done : Unit {0}). new) all (room r)
zeros_end (Ok done) all now new h e = sym h ∙ ap Ok (sym e)
zeros_end (Err memory) all now new h e = tt

-- ---- nothing before

pub from_nothing : (said r : Result (List ℤ) meaning.Trouble) → on_ok said (λ ns. Ok ([] ++ ns)) ≡ r → said ≡ r
from_nothing (Ok ns) r h = h
from_nothing (Err w) r h = h

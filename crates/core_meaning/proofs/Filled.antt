-- A value that is filled from a list of numbers has the form of its type, and its cells hold the numbers in order.
use Rattle.std.proofs.Common.{◌≡◌, ℕ, zero, suc, ◌+◌, ◌*◌, ◌≤◌, ℤ, List, [], ◌∷◌, ◌++◌, length, drop, refl, sym, ◌∙◌, ap, arith}
use Rattle.std.proofs.lemmas.List.{drop-drop, length-drop, append_assoc}
use Rattle.type_trees.specs.Trees.{Leaf, Many, Struct, End, Field, count, count_row}
use Rattle.type_trees.specs.Values.{Fits, FitsRow, EachOf, cells, cells_row}
use Rattle.area_types.specs.Syntax.{ValueType}
use Rattle.area_types.specs.Trees.{Written, WrittenRow}
use Rattle.core_meaning.specs.Areas.{Held, filled, filled_row, filled_each}
use Rattle.core_meaning.specs.Laws.{FilledValuesHold}

-- ---- form

abbrev Anything : ValueType → ℤ → Type 0
Anything t v = Unit {0}

each_has_form : (P : Held → Type 0) (n size : ℕ) (one : List ℤ → Held) → ((vs : List ℤ) → P (one vs)) → (vs : List ℤ) → EachOf n P (filled_each n size one vs)
each_has_form P zero size one h vs = tt
each_has_form P (suc n) size one h vs = (h vs, each_has_form P n size one h (drop size vs))

mutual
  pub filled_has_form : (a : Written) (vs : List ℤ) → Fits Anything a (filled a vs)
  filled_has_form (Leaf t) vs = tt
  filled_has_form (Many n a) vs = each_has_form (Fits Anything a) n (count a) (filled a) (filled_has_form a) vs
  filled_has_form (Struct k fields) vs = row_has_form fields vs

  row_has_form : (r : WrittenRow) (vs : List ℤ) → FitsRow Anything r (filled_row r vs)
  row_has_form End vs = tt
  row_has_form (Field f a r) vs = (filled_has_form a vs, row_has_form r (drop (count a) vs))

-- ---- cells

-- xs are the first a of the numbers, and ys the next b
joined : (xs ys vs : List ℤ) (a b c : ℕ) → a + b ≡ c → xs ++ drop a vs ≡ vs → ys ++ drop b (drop a vs) ≡ drop a vs → (xs ++ ys) ++ drop c vs ≡ vs
joined xs ys vs a b c e h g =
    ap (λ k. (xs ++ ys) ++ drop k vs) (sym e) ∙ ap (λ l. (xs ++ ys) ++ l) (sym (drop-drop b a vs)) ∙ append_assoc xs ys (drop b (drop a vs)) ∙ ap (λ l. xs ++ l) g ∙ h

-- so many numbers are there behind the first a
some_left : (vs : List ℤ) (a b c : ℕ) → a + b ≡ c → c ≤ length vs → b ≤ length (drop a vs)
some_left vs a b c e le = omega (arith, e, le, length-drop a vs)

each_holds : (n size : ℕ) (one : List ℤ → Held) → ((vs : List ℤ) → size ≤ length vs → cells (one vs) ++ drop size vs ≡ vs) → (vs : List ℤ) → n * size ≤ length vs
    → cells_row (filled_each n size one vs) ++ drop (n * size) vs ≡ vs
each_holds zero size one h vs le = let e : zero * size ≡ 0 = omega arith in ap (λ k. drop k vs) e
each_holds (suc n) size one h vs le =
    let e : size + n * size ≡ suc n * size = omega arith in
    joined (cells (one vs)) (cells_row (filled_each n size one (drop size vs))) vs size (n * size) (suc n * size) e (h vs (omega (arith, e, le)))
    (each_holds n size one h (drop size vs) (some_left vs size (n * size) (suc n * size) e le))

mutual
  pub filled_holds : (a : Written) (vs : List ℤ) → count a ≤ length vs → cells (filled a vs) ++ drop (count a) vs ≡ vs
  filled_holds (Leaf t) [] le = absurd (omega (arith, le))
  filled_holds (Leaf t) (v ∷ vs) le = refl
  filled_holds (Many n a) vs le = each_holds n (count a) (filled a) (filled_holds a) vs le
  filled_holds (Struct k fields) vs le = row_holds fields vs le

  row_holds : (r : WrittenRow) (vs : List ℤ) → count_row r ≤ length vs → cells_row (filled_row r vs) ++ drop (count_row r) vs ≡ vs
  row_holds End vs le = refl
  row_holds (Field f a r) vs le =
      joined (cells (filled a vs)) (cells_row (filled_row r (drop (count a) vs))) vs (count a) (count_row r) (count a + count_row r) refl (filled_holds a vs (omega (arith, le)))
      (row_holds r (drop (count a) vs) (some_left vs (count a) (count_row r) (count a + count_row r) refl le))

pub filled_values_hold : FilledValuesHold
filled_values_hold a vs enough = (filled_has_form a vs, filled_holds a vs enough)

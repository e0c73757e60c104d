-- The list of a type's scalars: it is that of each layout without the offsets, so those of a part stand in a row there too.
use Rattle.std.proofs.Common.{◌≡◌, ℕ, zero, suc, ◌+◌, ◌*◌, ◌≤◌, List, ◌++◌, length, map, Some, refl, ◌∙◌, ap, subst, arith, length-append}
use Rattle.std.proofs.Math.Nat.{mul-le-mul_left}
use Rattle.std.proofs.lemmas.List.{map-append, length-map}
use Rattle.type_trees.specs.Multiples.{up}
use Rattle.type_trees.specs.Trees.{Tree, Leaf, Many, Struct, Row, End, Field, repeated, scalars, scalars_row, count, count_row, first, part}
use Rattle.type_trees.specs.Layouts.{Metric, align, size, end_row, rows, lay, lay_row, offset}
use Rattle.type_trees.specs.Windows.{Window}
use Rattle.type_trees.proofs.Multiples.{up_from}
use Rattle.type_trees.proofs.Windows.{lay_window}

pub length_repeated : {A : Type 0} (n : ℕ) (xs : List A) → length (repeated n xs) ≡ n * length xs
length_repeated zero xs = omega arith
length_repeated (suc n) xs = omega (arith, length-append xs (repeated n xs), length_repeated n xs)

module _ {S N : Type 0} where
  mutual
    pub length_scalars : (a : Tree S N) → length (scalars a) ≡ count a
    length_scalars (Leaf s) = refl
    length_scalars (Many n a) = length_repeated n (scalars a) ∙ ap (λ k. n * k) (length_scalars a)
    length_scalars (Struct k r) = length_scalars_row r

    pub length_scalars_row : (r : Row S N) → length (scalars_row r) ≡ count_row r
    length_scalars_row End = refl
    length_scalars_row (Field f a r) = omega (arith, length-append (scalars a) (scalars_row r), length_scalars a, length_scalars_row r)

-- ---- without the offsets

abbrev scalar_at : {S : Type 0} → ℕ × S → S
scalar_at x = x.1

map_rows : {S : Type 0} (n : ℕ) (f : ℕ → List (ℕ × S)) (w b : ℕ) (xs : List S) → ((c : ℕ) → map scalar_at (f c) ≡ xs) → map scalar_at (rows n f w b) ≡ repeated n xs
map_rows zero f w b xs h = refl
map_rows (suc n) f w b xs h = map-append scalar_at (f b) (rows n f w (b + w)) ∙ ap (λ l. l ++ map scalar_at (rows n f w (b + w))) (h b) ∙ ap (λ l. xs ++ l) (map_rows n f w (b + w) xs h)

module _ {S N : Type 0} (m : Metric S) where
  mutual
    pub scalars_of_lay : (a : Tree S N) (b : ℕ) → map scalar_at (lay m a b) ≡ scalars a
    scalars_of_lay (Leaf s) b = refl
    scalars_of_lay (Many n a) b = map_rows n (lay m a) (size m a) b (scalars a) (λ c. scalars_of_lay a c)
    scalars_of_lay (Struct k r) b = scalars_of_lay_row r b 0

    scalars_of_lay_row : (r : Row S N) (b o : ℕ) → map scalar_at (lay_row m r b o) ≡ scalars_row r
    scalars_of_lay_row End b o = refl
    scalars_of_lay_row (Field f a r) b o =
        let at : ℕ = up o (align m a) in
        map-append scalar_at (lay m a (b + at)) (lay_row m r b (at + size m a)) ∙ ap (λ l. l ++ map scalar_at (lay_row m r b (at + size m a))) (scalars_of_lay a (b + at))
        ∙ ap (λ l. scalars a ++ l) (scalars_of_lay_row r b (at + size m a))

-- ---- parts

window_map : {A B : Type 0} (f : A → B) (whole inner : List A) (n : ℕ) → Window whole inner n → Window (map f whole) (map f inner) n
window_map f whole inner n w = record {
  before = map f w.before;
  after = map f w.after;
  is = ap (map f) w.is ∙ map-append f w.before (inner ++ w.after) ∙ ap (λ l. map f w.before ++ l) (map-append f inner w.after);
  number = length-map w.before f ∙ w.number;
}

abbrev pointless : {S : Type 0} → Metric S
pointless = record { width = λ s. 0; align = λ s. 1 }

pub scalars_window : {S N : Type 0} (a : Tree S N) (p : List ℕ) (b : Tree S N) → part a p ≡ Some b → Window (scalars a) (scalars b) (first a p)
scalars_window a p b h =
    let w = window_map scalar_at (lay pointless a 0) (lay pointless b (0 + offset pointless a p)) (first a p) (lay_window pointless a p b 0 (0 + offset pointless a p) h refl) in
    subst (λ l. Window l (scalars b) (first a p)) (scalars_of_lay pointless a 0) (subst (λ l. Window (map scalar_at (lay pointless a 0)) l (first a p)) (scalars_of_lay pointless b (0 + offset pointless a p)) w)

-- ---- bytes

-- where each scalar has a byte, a type has no more scalars than bytes
module _ {S N : Type 0} (m : Metric S) (some : (s : S) → 1 ≤ m.width s) where
  mutual
    pub count_size : (a : Tree S N) → count a ≤ size m a
    count_size (Leaf s) = some s
    count_size (Many n a) = mul-le-mul_left n (count_size a)
    count_size (Struct k r) = omega (arith, count_end r 0, up_from (end_row m r 0) (align m (Struct k r)))

    count_end : (r : Row S N) (o : ℕ) → o + count_row r ≤ end_row m r o
    count_end End o = omega arith
    count_end (Field f a r) o = omega (arith, up_from o (align m a), count_size a, count_end r (up o (align m a) + size m a))

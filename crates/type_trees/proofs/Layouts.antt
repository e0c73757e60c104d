-- The scalars of a layout stand in order, as many as the type has, and alignments are at least 1 where those of scalars are.
use Rattle.std.proofs.Common.{◌≡◌, ℕ, zero, suc, ◌+◌, ◌*◌, ◌≤◌, List, [], ◌∷◌, ◌++◌, length, refl, arith, length-append}
use Rattle.type_trees.specs.Multiples.{up}
use Rattle.type_trees.specs.Trees.{Tree, Leaf, Many, Struct, Row, End, Field, count, count_row}
use Rattle.type_trees.specs.Layouts.{Metric, align, align_row, size, end_row, rows, lay, lay_row, Ascends}
use Rattle.type_trees.proofs.Multiples.{up_from}

-- ---- order

module _ {S : Type 0} (m : Metric S) where
  pub ascends_from : (low lo hi : ℕ) (xs : List (ℕ × S)) → low ≤ lo → Ascends m lo xs hi → Ascends m low xs hi
  ascends_from low lo hi [] h k = omega (arith, h, k)
  ascends_from low lo hi (x ∷ xs) h k = (omega (arith, h, k.0), k.1)

  pub ascends_to : (lo hi top : ℕ) (xs : List (ℕ × S)) → hi ≤ top → Ascends m lo xs hi → Ascends m lo xs top
  ascends_to lo hi top [] h k = omega (arith, h, k)
  ascends_to lo hi top (x ∷ xs) h k = (k.0, ascends_to (x.0 + m.width x.1) hi top xs h k.1)

  pub reaches : (lo hi : ℕ) (xs : List (ℕ × S)) → Ascends m lo xs hi → lo ≤ hi
  reaches lo hi [] a = a
  reaches lo hi (x ∷ xs) a = omega (arith, a.0, reaches (x.0 + m.width x.1) hi xs a.1)

  pub ascends_append : (lo mid hi : ℕ) (xs ys : List (ℕ × S)) → Ascends m lo xs mid → Ascends m mid ys hi → Ascends m lo (xs ++ ys) hi
  ascends_append lo mid hi [] ys h k = ascends_from lo mid hi ys h k
  ascends_append lo mid hi (x ∷ xs) ys h k = (h.0, ascends_append (x.0 + m.width x.1) mid hi xs ys h.1 k)

  pub rows_ascend : (n : ℕ) (f : ℕ → List (ℕ × S)) (w b : ℕ) → ((c : ℕ) → Ascends m c (f c) (c + w)) → Ascends m b (rows n f w b) (b + n * w)
  rows_ascend zero f w b h = omega arith
  rows_ascend (suc n) f w b h = ascends_append b (b + w) (b + suc n * w) (f b) (rows n f w (b + w)) (h b) (ascends_to (b + w) (b + w + n * w) (b + suc n * w) (rows n f w (b + w)) (omega arith) (rows_ascend n f w (b + w) h))

module _ {S N : Type 0} (m : Metric S) where
  mutual
    -- the scalars of a tree stand one behind the other, from its begin to its end
    pub lay_ascends : (a : Tree S N) (b : ℕ) → Ascends m b (lay m a b) (b + size m a)
    lay_ascends (Leaf s) b = omega arith
    lay_ascends (Many n a) b = rows_ascend m n (lay m a) (size m a) b (λ c. lay_ascends a c)
    lay_ascends (Struct k r) b = ascends_from m b (b + 0) (b + size m (Struct k r)) (lay_row m r b 0) (omega arith) (ascends_to m (b + 0) (b + end_row m r 0) (b + size m (Struct k r)) (lay_row m r b 0) (omega (arith, up_from (end_row m r 0) (align m (Struct k r)))) (lay_row_ascends r b 0))

    pub lay_row_ascends : (r : Row S N) (b o : ℕ) → Ascends m (b + o) (lay_row m r b o) (b + end_row m r o)
    lay_row_ascends End b o = omega arith
    lay_row_ascends (Field f a r) b o =
        let at : ℕ = up o (align m a) in
        ascends_from m (b + o) (b + at) (b + end_row m r (at + size m a)) (lay m a (b + at) ++ lay_row m r b (at + size m a)) (omega (arith, up_from o (align m a)))
        (ascends_append m (b + at) (b + at + size m a) (b + end_row m r (at + size m a)) (lay m a (b + at)) (lay_row m r b (at + size m a))
        (lay_ascends a (b + at))
        (ascends_from m (b + at + size m a) (b + (at + size m a)) (b + end_row m r (at + size m a)) (lay_row m r b (at + size m a)) (omega arith) (lay_row_ascends r b (at + size m a))))

-- ---- number

length_rows : {A : Type 0} (n k : ℕ) (f : ℕ → List A) (w b : ℕ) → ((c : ℕ) → length (f c) ≡ k) → length (rows n f w b) ≡ n * k
length_rows zero k f w b h = omega arith
length_rows (suc n) k f w b h = omega (arith, length-append (f b) (rows n f w (b + w)), h b, length_rows n k f w (b + w) h)

module _ {S N : Type 0} (m : Metric S) where
  mutual
    pub length_lay : (a : Tree S N) (b : ℕ) → length (lay m a b) ≡ count a
    length_lay (Leaf s) b = refl
    length_lay (Many n a) b = length_rows n (count a) (lay m a) (size m a) b (λ c. length_lay a c)
    length_lay (Struct k r) b = length_lay_row r b 0

    pub length_lay_row : (r : Row S N) (b o : ℕ) → length (lay_row m r b o) ≡ count_row r
    length_lay_row End b o = refl
    length_lay_row (Field f a r) b o =
        let at : ℕ = up o (align m a) in
        omega (arith, length-append (lay m a (b + at)) (lay_row m r b (at + size m a)), length_lay a (b + at), length_lay_row r b (at + size m a))

-- ---- alignment

module _ {S N : Type 0} (m : Metric S) where
  pub align_row_some : (r : Row S N) → 1 ≤ align_row m r
  align_row_some End = omega arith
  align_row_some (Field f a r) = omega (arith, align_row_some r)

  pub align_some : ((s : S) → 1 ≤ m.align s) → (a : Tree S N) → 1 ≤ align m a
  align_some h (Leaf s) = h s
  align_some h (Many n a) = align_some h a
  align_some h (Struct k r) = align_row_some r

-- Paths one behind the other.
use Rattle.std.proofs.Common.{◌≡◌, ℕ, zero, suc, ◌+◌, List, [], ◌∷◌, ◌++◌, Some, None, if◌then◌else◌, ◌∙◌, ap, arith}
use Rattle.std.proofs.lemmas.Bool.{lt-ltb}
use Rattle.type_trees.specs.Trees.{Tree, Leaf, Many, Struct, Row, End, Field, part, part_row}
use Rattle.type_trees.specs.Multiples.{up}
use Rattle.type_trees.specs.Layouts.{Metric, align, size, offset, offset_row}
use Rattle.type_trees.proofs.Windows.{within}

module _ {S N : Type 0} where
  mutual
    pub part_append : (a : Tree S N) (p q : List ℕ) (b : Tree S N) → part a p ≡ Some b → part a (p ++ q) ≡ part b q
    part_append a [] q b h = (let e : a ≡ b = cc in ap (λ x. part x q) e)
    part_append (Leaf s) (i ∷ p) q b h = absurd (cc)
    part_append (Many n a) (i ∷ p) q b h = (let w = within n i a p b h in ap (λ x. if x then part a (p ++ q) else None) (lt-ltb i n w.low) ∙ part_append a p q b w.rest)
    part_append (Struct k r) (i ∷ p) q b h = part_row_append r i p q b h

    part_row_append : (r : Row S N) (i : ℕ) (p q : List ℕ) (b : Tree S N) → part_row r i p ≡ Some b → part_row r i (p ++ q) ≡ part b q
    part_row_append End i p q b h = absurd (cc)
    part_row_append (Field f a r) zero p q b h = part_append a p q b h
    part_row_append (Field f a r) (suc i) p q b h = part_row_append r i p q b h

  module _ (m : Metric S) where
    mutual
      pub offset_append : (a : Tree S N) (p q : List ℕ) (b : Tree S N) → part a p ≡ Some b → offset m a (p ++ q) ≡ offset m a p + offset m b q
      offset_append a [] q b h = (let e : a ≡ b = cc in omega (arith, ap (λ x. offset m x q) e))
      offset_append (Leaf s) (i ∷ p) q b h = absurd (cc)
      offset_append (Many n a) (i ∷ p) q b h = omega (arith, offset_append a p q b (within n i a p b h).rest)
      offset_append (Struct k r) (i ∷ p) q b h = offset_row_append r i p q b 0 h

      offset_row_append : (r : Row S N) (i : ℕ) (p q : List ℕ) (b : Tree S N) (o : ℕ) → part_row r i p ≡ Some b → offset_row m r i (p ++ q) o ≡ offset_row m r i p o + offset m b q
      offset_row_append End i p q b o h = absurd (cc)
      offset_row_append (Field f a r) zero p q b o h = omega (arith, offset_append a p q b h)
      offset_row_append (Field f a r) (suc i) p q b o h = offset_row_append r i p q b (up o (align m a) + size m a) h

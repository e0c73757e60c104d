-- Where the scalars of a type stand: members in order at the least offsets that their alignments allow, the alignment of a
-- struct the greatest of its members', its size a multiple of it, and the elements of an array without a gap (C99 6.2.5,
-- 6.2.6.1 and 6.7.2.1 leave this to the implementation).
use Rattle.std.specs.Prelude.{ℕ, zero, suc, ◌+◌, ◌*◌, ◌≤◌, List, [], ◌∷◌, ◌++◌, max}
use Rattle.type_trees.specs.Multiples.{up}
use Rattle.type_trees.specs.Trees.{Tree, Leaf, Many, Struct, Row, End, Field}

-- the bytes of a scalar, and its alignment
pub record Metric (S : Type 0) : Type 0 where
  pub width : S → ℕ
  pub align : S → ℕ

module _ {S N : Type 0} (m : Metric S) where
  abbrev mutual
    pub align : Tree S N → ℕ
    align (Leaf s) = m.align s
    align (Many n a) = align a
    align (Struct k r) = align_row r

    pub align_row : Row S N → ℕ
    align_row End = 1
    align_row (Field f a r) = max (align a) (align_row r)

  abbrev mutual
    pub size : Tree S N → ℕ
    size (Leaf s) = m.width s
    size (Many n a) = n * size a
    size (Struct k r) = up (end_row r 0) (align_row r)

    -- where the members end, if they may begin at o
    pub end_row : Row S N → ℕ → ℕ
    end_row End o = o
    end_row (Field f a r) o = end_row r (up o (align a) + size a)

-- n rows that f gives, w apart, from b on
abbrev pub rows : {A : Type 0} → ℕ → (ℕ → List A) → ℕ → ℕ → List A
rows zero f w b = []
rows (suc n) f w b = f b ++ rows n f w (b + w)

module _ {S N : Type 0} (m : Metric S) where
  abbrev mutual
    -- the scalars of a type that begins at b, each with its offset
    pub lay : Tree S N → ℕ → List (ℕ × S)
    lay (Leaf s) b = (b, s) ∷ []
    lay (Many n a) b = rows n (lay a) (size m a) b
    lay (Struct k r) b = lay_row r b 0

    -- those of members that may begin at o in a struct that begins at b
    pub lay_row : Row S N → ℕ → ℕ → List (ℕ × S)
    lay_row End b o = []
    lay_row (Field f a r) b o = lay a (b + up o (align m a)) ++ lay_row r b (up o (align m a) + size m a)

  -- the offset of the part to which a path leads
  abbrev mutual
    pub offset : Tree S N → List ℕ → ℕ
    offset a [] = 0
    offset (Leaf s) (i ∷ p) = 0
    offset (Many n a) (i ∷ p) = i * size m a + offset a p
    offset (Struct k r) (i ∷ p) = offset_row r i p 0

    pub offset_row : Row S N → ℕ → List ℕ → ℕ → ℕ
    offset_row End i p o = 0
    offset_row (Field f a r) zero p o = up o (align m a) + offset a p
    offset_row (Field f a r) (suc i) p o = offset_row r i p (up o (align m a) + size m a)

-- each scalar begins where the one before it ends, or later, from lo to hi
abbrev pub Ascends : {S : Type 0} → Metric S → ℕ → List (ℕ × S) → ℕ → Type 0
Ascends m lo [] hi = lo ≤ hi
Ascends m lo (x ∷ xs) hi = (lo ≤ x.0) × Ascends m (x.0 + m.width x.1) xs hi

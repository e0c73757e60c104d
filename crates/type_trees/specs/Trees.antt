-- Types with their structs written out, as trees: what a type is made of, its parts, and how many scalars, nodes and levels it has.
use Rattle.std.specs.Prelude.{ℕ, zero, suc, ◌+◌, ◌*◌, List, [], ◌∷◌, ◌++◌, Option, Some, None, max, nat_lt, if◌then◌else◌}

-- over scalars S and names N
mutual
  -- a scalar, an array of a length, or a struct of a name
  pub data Tree (S N : Type 0) : Type 0 where
    Leaf : S → Tree S N
    Many : (length : ℕ) → (element : Tree S N) → Tree S N
    Struct : N → Row S N → Tree S N

  -- the members of a struct, in order
  pub data Row (S N : Type 0) : Type 0 where
    End : Row S N
    Field : N → Tree S N → Row S N → Row S N

-- ---- what it is made of

abbrev pub repeated : {A : Type 0} → ℕ → List A → List A
repeated zero xs = []
repeated (suc n) xs = xs ++ repeated n xs

-- the scalars in order: those of an array's elements one after another, and those of a struct's members
abbrev mutual
  pub scalars : {S N : Type 0} → Tree S N → List S
  scalars (Leaf s) = s ∷ []
  scalars (Many n a) = repeated n (scalars a)
  scalars (Struct k r) = scalars_row r

  pub scalars_row : {S N : Type 0} → Row S N → List S
  scalars_row End = []
  scalars_row (Field f a r) = scalars a ++ scalars_row r

-- how many scalars
abbrev mutual
  pub count : {S N : Type 0} → Tree S N → ℕ
  count (Leaf s) = 1
  count (Many n a) = n * count a
  count (Struct k r) = count_row r

  pub count_row : {S N : Type 0} → Row S N → ℕ
  count_row End = 0
  count_row (Field f a r) = count a + count_row r

-- how many scalars, arrays and structs, each occurrence counted
abbrev mutual
  pub nodes : {S N : Type 0} → Tree S N → ℕ
  nodes (Leaf s) = 1
  nodes (Many n a) = 1 + n * nodes a
  nodes (Struct k r) = 1 + nodes_row r

  pub nodes_row : {S N : Type 0} → Row S N → ℕ
  nodes_row End = 0
  nodes_row (Field f a r) = nodes a + nodes_row r

-- how many arrays and structs stand one within the other
abbrev mutual
  pub levels : {S N : Type 0} → Tree S N → ℕ
  levels (Leaf s) = 0
  levels (Many n a) = 1 + levels a
  levels (Struct k r) = 1 + levels_row r

  pub levels_row : {S N : Type 0} → Row S N → ℕ
  levels_row End = 0
  levels_row (Field f a r) = max (levels a) (levels_row r)

-- ---- parts

-- the part to which a path of element and member numbers leads, where it does not leave the type
abbrev mutual
  pub part : {S N : Type 0} → Tree S N → List ℕ → Option (Tree S N)
  part a [] = Some a
  part (Leaf s) (i ∷ p) = None
  part (Many n a) (i ∷ p) = if nat_lt i n then part a p else None
  part (Struct k r) (i ∷ p) = part_row r i p

  pub part_row : {S N : Type 0} → Row S N → ℕ → List ℕ → Option (Tree S N)
  part_row End i p = None
  part_row (Field f a r) zero p = part a p
  part_row (Field f a r) (suc i) p = part_row r i p

-- how many scalars stand before that part
abbrev mutual
  pub first : {S N : Type 0} → Tree S N → List ℕ → ℕ
  first a [] = 0
  first (Leaf s) (i ∷ p) = 0
  first (Many n a) (i ∷ p) = i * count a + first a p
  first (Struct k r) (i ∷ p) = first_row r i p

  pub first_row : {S N : Type 0} → Row S N → ℕ → List ℕ → ℕ
  first_row End i p = 0
  first_row (Field f a r) zero p = first a p
  first_row (Field f a r) (suc i) p = count a + first_row r i p

-- Small types with scalars of one to eight bytes, and exactly what is said of them: examples that hold the definitions fast.
use Rattle.std.specs.Prelude.{◌≡◌, ℕ, [], ◌∷◌, Some, None}
use Rattle.type_trees.specs.Multiples.{up}
use Rattle.type_trees.specs.Trees.{Tree, Leaf, Many, Struct, End, Field, scalars, count, nodes, levels, part, first}
use Rattle.type_trees.specs.Layouts.{Metric, align, size, lay, offset}
use Rattle.type_trees.specs.Values.{Value, Cell, Parts, Nil, Cons, cells, at, put}

-- a scalar is its number of bytes, to which it is aligned; names are numbers
abbrev bytes : Metric ℕ
bytes = record { width = λ s. s; align = λ s. s }

-- a byte, then a scalar of four
abbrev pair : Tree ℕ ℕ
pair = Struct 7 (Field 0 (Leaf 1) (Field 1 (Leaf 4) End))

-- three of them, then a scalar of two
abbrev row : Tree ℕ ℕ
row = Struct 8 (Field 0 (Many 3 pair) (Field 1 (Leaf 2) End))

pub record MultipleExamples : Type 0 where
  pub there : up 8 4 ≡ 8
  pub further : up 9 4 ≡ 12
  pub begin : up 0 8 ≡ 0

pub record TreeExamples : Type 0 where
  pub in_order : scalars row ≡ 1 ∷ 4 ∷ 1 ∷ 4 ∷ 1 ∷ 4 ∷ 2 ∷ []
  pub number : count row ≡ 7
  pub all_nodes : nodes row ≡ 12
  pub depth : levels row ≡ 3
  pub element : part row (0 ∷ 2 ∷ []) ≡ Some pair
  pub past : part row (0 ∷ 3 ∷ []) ≡ None
  pub member : part row (0 ∷ 2 ∷ 1 ∷ []) ≡ Some (Leaf 4)
  pub before : first row (0 ∷ 2 ∷ 1 ∷ []) ≡ 5
  pub last : first row (1 ∷ []) ≡ 6

pub record LayoutExamples : Type 0 where
  pub greatest : align bytes pair ≡ 4
  pub padded : lay bytes pair 0 ≡ (0, 1) ∷ (4, 4) ∷ []
  pub multiple : size bytes pair ≡ 8
  pub elements : lay bytes row 0 ≡ (0, 1) ∷ (4, 4) ∷ (8, 1) ∷ (12, 4) ∷ (16, 1) ∷ (20, 4) ∷ (24, 2) ∷ []
  pub end_padded : size bytes row ≡ 28
  pub array : size bytes (Many 3 pair) ≡ 24
  pub place : offset bytes row (0 ∷ 2 ∷ 1 ∷ []) ≡ 20

-- two cells of two
abbrev value : Value ℕ
value = Parts (Cons (Cell 3) (Cons (Parts (Cons (Cell 4) (Cons (Cell 5) Nil))) Nil))

pub record ValueExamples : Type 0 where
  pub in_order : cells value ≡ 3 ∷ 4 ∷ 5 ∷ []
  pub there : at value (1 ∷ 0 ∷ []) ≡ Some (Cell 4)
  pub past : at value (2 ∷ []) ≡ None
  pub cell : cells (put value (1 ∷ 0 ∷ []) (Cell 9)) ≡ 3 ∷ 9 ∷ 5 ∷ []
  pub whole_part : cells (put value (1 ∷ []) (Cell 9)) ≡ 3 ∷ 9 ∷ []

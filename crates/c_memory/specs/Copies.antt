-- Several scalars, one after another in order of offset: what a part shows, values written to it, and a copy from part to part.
use Rattle.std.specs.Prelude.{ℕ, zero, suc, ◌+◌, ◌≤◌, ◌⊎◌, List, [], ◌∷◌, take, drop, Result, Ok}
use Rattle.type_trees.specs.Trees.{Tree, Leaf, Many, Struct, Row, End, Field, count}
use Rattle.type_trees.specs.Layouts.{Metric}
use Rattle.type_trees.specs.Values.{Value, Cell, Parts, Values, Nil, Cons}
use Rattle.c_memory.specs.Access.{Fault, and_then}

-- M is the memory, with its reads and writes
module _ {M S V : Type 0} (read : M → ℕ → ℕ × S → Result V Fault) where
  -- the values of scalars of object o, or the fault of the first that cannot be read
  abbrev pub read_each : M → ℕ → List (ℕ × S) → Result (List V) Fault
  read_each mem o [] = Ok []
  read_each mem o (x ∷ xs) = and_then (read mem o x) (λ v. and_then (read_each mem o xs) (λ vs. Ok (v ∷ vs)))

module _ {M S V : Type 0} (write : M → ℕ → ℕ × S → V → Result M Fault) where
  -- values written to scalars of object o
  abbrev pub write_each : M → ℕ → List (ℕ × S) → List V → Result M Fault
  write_each mem o [] vs = Ok mem
  write_each mem o (x ∷ xs) [] = Ok mem
  write_each mem o (x ∷ xs) (v ∷ vs) = and_then (write mem o x v) (λ next. write_each next o xs vs)

module _ {M S V : Type 0} (read : M → ℕ → ℕ × S → Result V Fault) (write : M → ℕ → ℕ × S → V → Result M Fault) where
  -- from scalars `ys` of object q to those `xs` of object o, scalar by scalar
  abbrev pub copy_each : M → (o : ℕ) (xs : List (ℕ × S)) (q : ℕ) (ys : List (ℕ × S)) → Result M Fault
  copy_each mem o [] q ys = Ok mem
  copy_each mem o (x ∷ xs) q [] = Ok mem
  copy_each mem o (x ∷ xs) q (y ∷ ys) = and_then (read mem q y) (λ v. and_then (write mem o x v) (λ next. copy_each next o xs q ys))

-- ---- where they stand

-- two scalars do not overlap
abbrev pub Apart : {S : Type 0} → Metric S → ℕ × S → ℕ × S → Type 0
Apart m x y = (x.0 + m.width x.1 ≤ y.0) ⊎ (y.0 + m.width y.1 ≤ x.0)

abbrev pub ApartFromAll : {S : Type 0} → Metric S → ℕ × S → List (ℕ × S) → Type 0
ApartFromAll m x [] = Unit {0}
ApartFromAll m x (y ∷ ys) = Apart m x y × ApartFromAll m x ys

-- each of xs is written after those that it overlaps are read
abbrev pub Clear : {S : Type 0} → Metric S → (xs ys : List (ℕ × S)) → Type 0
Clear m [] ys = Unit {0}
Clear m (x ∷ xs) [] = Unit {0}
Clear m (x ∷ xs) (y ∷ ys) = ApartFromAll m x ys × Clear m xs ys

-- ---- a value from its cells

abbrev pub rows_of : {W : Type 0} → (many each : ℕ) → (List W → Value W) → List W → Values W
rows_of zero k f ws = Nil
rows_of (suc n) k f ws = Cons (f (take k ws)) (rows_of n k f (drop k ws))

abbrev mutual
  -- the value of a type with these cells, as the reply of an import gives them
  pub rebuilt : {S N W : Type 0} → Tree S N → List W → Value W
  rebuilt (Leaf s) [] = Parts Nil
  rebuilt (Leaf s) (w ∷ ws) = Cell w
  rebuilt (Many n a) ws = Parts (rows_of n (count a) (rebuilt a) ws)
  rebuilt (Struct k r) ws = Parts (rebuilt_row r ws)

  pub rebuilt_row : {S N W : Type 0} → Row S N → List W → Values W
  rebuilt_row End ws = Nil
  rebuilt_row (Field f a r) ws = Cons (rebuilt a (take (count a) ws)) (rebuilt_row r (drop (count a) ws))

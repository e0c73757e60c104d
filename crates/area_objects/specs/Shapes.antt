-- The C type of an area, and where its parts stand: an array is a struct whose one member is the array itself, so that a path takes one step
-- more for each element.
use Rattle.std.specs.Prelude.{ℕ, zero, suc, List, [], ◌∷◌}
use Rattle.type_trees.specs.Trees.{Leaf, Many, Struct, End, Field}
use Rattle.type_trees.specs.Layouts.{Metric, lay, offset}
use Rattle.area_types.specs.Syntax.{ValueType}
use Rattle.area_types.specs.Trees.{Written, WrittenRow}
use Rattle.c_ast.specs.declared.CScalar.{CScalar}
use Rattle.c_ast.specs.declared.CBase.{CBase}
use Rattle.c_ast.specs.declared.CBase.TheVariants as base
use Rattle.c_ast.specs.Structs.{CTree, CRow}
use Rattle.c_ast.specs.Syntax.{Name}

-- What types of areas are in C: the scalar of a stored value, the tag of an array's struct and the name of its member, the tag of a struct by
-- its number, and the name of a field by the numbers of both.
pub record Naming : Type 0 where
  pub scalar : ValueType → CScalar
  pub array_tag : Written → Name
  pub elements : Name
  pub struct_tag : ℕ → Name
  pub member : ℕ → ℕ → Name

-- ---- types

module _ (g : Naming) where
  abbrev mutual
    pub shape : Written → CTree
    shape (Leaf s) = Leaf (g.scalar s)
    shape (Many n a) = Struct (g.array_tag (Many n a)) (Field g.elements (Many n (shape a)) End)
    shape (Struct k r) = Struct (g.struct_tag k) (members r k)

    -- those of the struct of number k
    pub members : WrittenRow → (k : ℕ) → CRow
    members End k = End
    members (Field f a r) k = Field (g.member k f) (shape a) (members r k)

  -- the type as a declaration names it
  abbrev pub base_of : Written → CBase
  base_of (Leaf s) = base.Scalar (g.scalar s)
  base_of (Many n a) = base.Struct (g.array_tag (Many n a))
  base_of (Struct k r) = base.Struct (g.struct_tag k)

-- ---- parts

-- the path to the same part in C: `.at[i]` for an element, `.f` for a field
abbrev mutual
  pub c_path : Written → List ℕ → List ℕ
  c_path a [] = []
  c_path (Leaf s) (i ∷ p) = i ∷ p
  c_path (Many n a) (i ∷ p) = 0 ∷ i ∷ c_path a p
  c_path (Struct k r) (i ∷ p) = i ∷ c_path_row r i p

  pub c_path_row : WrittenRow → ℕ → List ℕ → List ℕ
  c_path_row End i p = p
  c_path_row (Field f a r) zero p = c_path a p
  c_path_row (Field f a r) (suc i) p = c_path_row r i p

module _ (m : Metric CScalar) (g : Naming) where
  -- where the part to which a path leads begins in the object
  abbrev pub place : Written → List ℕ → ℕ
  place ty path = offset m (shape g ty) (c_path ty path)

  -- the scalars of that part, of type b
  abbrev pub part_scalars : Written → List ℕ → Written → List (ℕ × CScalar)
  part_scalars ty path b = lay m (shape g b) (place ty path)

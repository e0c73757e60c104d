-- A small area as an object, and exactly where its parts stand: examples that hold the definitions fast.
use Rattle.std.specs.Prelude.{◌≡◌, ℤ, pos, codes, [], ◌∷◌, ◌++◌, false, Ok}
use Rattle.iv_words.specs.declared.IntKind.TheVariants.{U16}
use Rattle.type_trees.specs.Trees.{Leaf, Many, Struct, End, Field}
use Rattle.type_trees.specs.Values.{Cell, Parts, Values, Nil, Cons, cells}
use Rattle.area_types.specs.Syntax as types
use Rattle.area_types.specs.Trees.{Written}
use Rattle.c_ast.specs.declared.CBase.TheVariants as base
use Rattle.c_ast.specs.declared.CScalar.TheVariants.{Truth, Int}
use Rattle.c_ast.specs.declared.Target.TheVariants.{T32}
use Rattle.c_ast.specs.Scalars.{metric_of}
use Rattle.c_meaning.specs.Memory.{CObjects, memory_of}
use Rattle.core_meaning.specs.Areas.{Held}
use Rattle.area_objects.specs.Shapes.{Naming, shape, base_of, c_path, place, part_scalars}
use Rattle.area_objects.specs.Copies.{mixed}
use Rattle.area_objects.specs.Scalars.{scalar_of}

abbrev pub names : Naming
names = record {
  scalar = scalar_of (U16 ∷ []);
  array_tag = λ a. codes "iva_0";
  elements = codes "at";
  struct_tag = λ k. codes "iv_S";
  member = λ k f. codes "iv_f" ++ f ∷ [];
}

-- a truth, three indexes, and bits of a word of 16
abbrev pub area : Written
area = Struct 0 (Field 0 (Leaf types.Truth) (Field 1 (Many 3 (Leaf (types.Ix 9))) (Field 2 (Leaf (types.Bits 0)) End)))

abbrev pub row : Values ℤ → Held
row vs = Parts vs

abbrev pub held : Held
held = row (Cons (Cell (pos 1)) (Cons (row (Cons (Cell (pos 5)) (Cons (Cell (pos 6)) (Cons (Cell (pos 7)) Nil)))) (Cons (Cell (pos 300)) Nil)))

pub record ShapeExamples : Type 0 where
  pub type : shape names area
      ≡ Struct (codes "iv_S")
      (Field (codes "iv_f" ++ 0 ∷ []) (Leaf Truth)
      (Field (codes "iv_f" ++ 1 ∷ []) (Struct (codes "iva_0") (Field (codes "at") (Many 3 (Leaf (Int U16))) End)) (Field (codes "iv_f" ++ 2 ∷ []) (Leaf (Int U16)) End)))
  pub array_base : base_of names (Many 3 (Leaf (types.Ix 9))) ≡ base.Struct (codes "iva_0")
  pub element : c_path area (1 ∷ 2 ∷ []) ≡ 1 ∷ 0 ∷ 2 ∷ []
  pub field : c_path area (2 ∷ []) ≡ 2 ∷ []

pub record PlaceExamples : Type 0 where
  pub first : place (metric_of T32) names area (0 ∷ []) ≡ 0
  pub element : place (metric_of T32) names area (1 ∷ 2 ∷ []) ≡ 6
  pub field : place (metric_of T32) names area (2 ∷ []) ≡ 8
  pub array : part_scalars (metric_of T32) names area (1 ∷ []) (Many 3 (Leaf (types.Ix 9))) ≡ (2, Int U16) ∷ (4, Int U16) ∷ (6, Int U16) ∷ []

-- the object that is made with the cells
abbrev pub object : CObjects
object = (memory_of T32).initialize [] (shape names area) false (cells held)

pub record HeldExamples : Type 0 where
  pub order : cells held ≡ pos 1 ∷ pos 5 ∷ pos 6 ∷ pos 7 ∷ pos 300 ∷ []
  pub element : (memory_of T32).read object 0 (6, Int U16) ≡ Ok (pos 7)
  pub field : (memory_of T32).read object 0 (8, Int U16) ≡ Ok (pos 300)

-- a copy of which two values are done
abbrev pub PartlyCopied : Type 0
PartlyCopied =
    mixed 2 (Cons (Cell (pos 1)) (Cons (Cell (pos 2)) (Cons (Cell (pos 3)) Nil))) (Cons (Cell (pos 7)) (Cons (Cell (pos 8)) (Cons (Cell (pos 9)) Nil)))
    ≡ Cons (Cell (pos 1)) (Cons (Cell (pos 2)) (Cons (Cell (pos 9)) Nil))

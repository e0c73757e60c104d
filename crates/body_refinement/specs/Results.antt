-- What a procedure gives back on both sides: the same number, or a reference to an area that there was before the call, and a pointer to
-- the same part. C converts a result to its function's type where the call ends.
use Rattle.std.specs.Prelude.{◌≡◌, ℕ, ◌<◌, List, Option, Some, None, Ok}
use Rattle.type_trees.specs.Trees.{part}
use Rattle.area_types.specs.Syntax.{ValueType}
use Rattle.area_types.specs.Trees.{Written}
use Rattle.core_meaning.specs.Areas.{Area, Areas}
use Rattle.core_meaning.specs.Values as source
use Rattle.core_meaning.specs.Values.{Value}
use Rattle.c_ast.specs.declared.CKind.TheVariants.{Scalar}
use Rattle.c_meaning.specs.Values.{CValue, Num, Ptr, as_assigned}
use Rattle.area_objects.specs.Both.{Map, LiveIn}
use Rattle.area_objects.specs.Located.{begins}
use Rattle.area_objects.specs.Shapes.{base_of}
use Rattle.region_soundness.specs.Fitting.{Entry}
use Rattle.lower_types.specs.Types.{table_for, scalar_for}
use Rattle.lower_values.specs.Frames.{type_in}
use Rattle.value_refinement.specs.Related.{is_constant}
use Rattle.lowered_surroundings.specs.Surroundings.{naming_for}
use Rattle.body_refinement.specs.Bodies.{Lowered, frame_in}

module _ (d : Lowered) (entry : Entry) (objects : Map) (areas : Areas) where
  pub record GivesPointer (ty : ValueType) (k : ℕ) (path : List ℕ) (c : CValue) : Type 0 where
    pub object : ℕ
    pub area : Area
    pub lives : LiveIn objects areas k object area
    -- so the call's end leaves it live
    pub earlier : k < entry.first
    pub content : Written
    pub leads : part area.ty path ≡ Some content
    pub is : as_assigned d.target (type_in (frame_in d) ty) c ≡ Ok (Ptr (is_constant ty) (base_of (naming_for d.core) content) (begins d.target (naming_for d.core) object area.ty path))

  abbrev pub ValueGiven : ValueType → Value → CValue → Type 0
  ValueGiven ty (source.Num n) c = as_assigned d.target (type_in (frame_in d) ty) c ≡ Ok (Num (Scalar (scalar_for (table_for d.core) ty)) n)
  ValueGiven ty (source.Ref k path) c = GivesPointer ty k path c

  -- for the type of the result, if it has one
  abbrev pub ResultGiven : Option ValueType → Option Value → Option CValue → Type 0
  ResultGiven None None None = Unit {0}
  ResultGiven (Some ty) (Some v) (Some c) = ValueGiven ty v c
  ResultGiven ty value c = ⊥

-- When a state of C is related to one of the source: its objects hold the areas, and each name in scope stands for its value.
use Rattle.std.specs.Prelude.{◌≡◌, ℕ, List, [], Contains, slice_get, Bool, false, Some, Ok}
use Rattle.type_trees.specs.Trees.{part}
use Rattle.area_types.specs.Syntax.{ValueType, Truth, Int, Ix, Bits, Ref}
use Rattle.area_types.specs.Tables.{written_out}
use Rattle.area_types.specs.Trees.{Written}
use Rattle.core_tree.specs.Syntax.{AreaCore}
use Rattle.c_ast.specs.StaticTypes.{Stored}
use Rattle.c_ast.specs.Syntax.{Expr, Place, At}
use Rattle.c_meaning.specs.Expressions.{eval, eval_place, static_place_type}
use Rattle.c_meaning.specs.State.{CState}
use Rattle.c_meaning.specs.Values.{Ptr}
use Rattle.core_meaning.specs.Areas.{Area, Areas}
use Rattle.core_meaning.specs.State.{State, value_of}
use Rattle.core_meaning.specs.Values as source
use Rattle.core_meaning.specs.Values.{Value}
use Rattle.area_objects.specs.Both.{Map, LiveIn}
use Rattle.area_objects.specs.Located.{begins, located}
use Rattle.area_objects.specs.PlaceLaws.{BothIn}
use Rattle.area_objects.specs.Shapes.{shape, base_of}
use Rattle.lower_types.specs.Types.{scalar_for}
use Rattle.lower_values.specs.Expressions.{area_place, local_place, local_value, reference_to}
use Rattle.value_refinement.specs.Settings.{Setting}
use Rattle.form_answers.specs.Standing.{HasScalar}

-- whether nothing may be written through a reference of the type
abbrev pub is_constant : ValueType → Bool
is_constant (Ref constant region area) = constant
is_constant Truth = false
is_constant (Int kind) = false
is_constant (Ix n) = false
is_constant (Bits k) = false

module _ (g : Setting) (objects : Map) (areas : Areas) (u : CState) where
  -- the expression is a pointer to the part of a live area to which the path leads
  pub record PointerIs (constant : Bool) (e : Expr) (k : ℕ) (path : List ℕ) : Type 0 where
    pub object : ℕ
    pub area : Area
    pub lives : LiveIn objects areas k object area
    pub content : Written
    pub leads : part area.ty path ≡ Some content
    pub is : eval g.program e u ≡ Ok (Ptr constant (base_of g.naming content) (begins g.program.target g.naming object area.ty path))

  -- the place is that part
  pub record PlaceIs (constant : Bool) (place : Place) (k : ℕ) (path : List ℕ) : Type 0 where
    pub pointer : PointerIs constant (reference_to place) k path
    pub is : eval_place g.program place u ≡ Ok (located g.program.target g.naming constant pointer.object pointer.area.ty path pointer.content)
    pub type : static_place_type g.program u place ≡ Some (Stored constant (shape g.naming pointer.content))

  -- a name, by the expression and the place that stand for it
  abbrev pub NameStands : ValueType → Expr → Place → Value → Type 0
  NameStands ty e place (source.Num n) = HasScalar g.program u (scalar_for g.frame.table ty) e n
  NameStands ty e place (source.Ref k path) = PlaceIs (is_constant ty) place k path

pub record Related (g : Setting) (objects : Map) (s : State) (u : CState) : Type 0 where
  pub both : BothIn g.program.target g.naming objects s.areas u.objects
  -- the areas of the module are live, each with the object of its own number
  pub own : (k : ℕ) (x : AreaCore) → slice_get g.frame.core.areas k ≡ Some x → (a : Area) × (a.ty ≡ written_out g.frame.core.structs x.area) × LiveIn objects s.areas k k a
  pub globals : (k : ℕ) (a : AreaCore) → slice_get g.frame.core.areas k ≡ Some a → PlaceIs g objects s.areas u a.constant (area_place g.frame k) k []
  pub locals : (x : ℕ) (ty : ValueType) (v : Value) → Contains g.scope x → slice_get g.env.locals x ≡ Some ty → value_of x s ≡ Some v → NameStands g objects s.areas u ty (local_value g.frame x) (local_place g.frame x) v
  pub result : (ty : ValueType) (v : Value) → g.env.outcome ≡ Some ty → g.outcome ≡ Some v → NameStands g objects s.areas u ty g.frame.outcome (At g.frame.outcome) v

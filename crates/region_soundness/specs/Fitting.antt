-- When a value fits a type in an open call: a number is one of the type, and a reference leads to a part of its type, in an area that is live
-- and that its region allows.
use Rattle.std.specs.Prelude.{◌≡◌, ℕ, ◌<◌, ◌≤◌, Bool, List, length, slice_get, Option, Some, None, IsTrue}
use Rattle.type_trees.specs.Trees.{part}
use Rattle.area_types.specs.Syntax as types
use Rattle.area_types.specs.Syntax.{ValueType}
use Rattle.area_types.specs.Tables.{written_out}
use Rattle.area_types.specs.declared.region.Region.{Region}
use Rattle.area_types.specs.declared.region.Region.TheVariants.{Global, Param, Own}
use Rattle.region_check.specs.Calls.{Reference, reference_of, may_stand_for}
use Rattle.core_tree.specs.Syntax.{ModuleCore}
use Rattle.core_tree.specs.Types.{is_value}
use Rattle.core_meaning.specs.Values.{Value, Num, Ref}
use Rattle.core_meaning.specs.Areas.{Area, Areas, Live}

-- How a call was entered: the types of its parameters, its arguments, and the number that its first own area has.
pub record Entry : Type 0 where
  pub params : List ValueType
  pub args : List Value
  pub first : ℕ

-- an argument for that region parameter referred to the area k when the call was entered
pub record Referred (entry : Entry) (j k : ℕ) : Type 0 where
  pub place : ℕ
  pub constant : Bool
  pub target : types.Area
  pub path : List ℕ
  pub param_is : slice_get entry.params place ≡ Some (types.Ref constant (Param j) target)
  pub arg_is : slice_get entry.args place ≡ Some (Ref k path)

-- The areas to which a reference of a region may refer: those of the module, which come first; those to which the arguments referred; or the
-- call's own.
abbrev pub Allows : (globals : ℕ) → Entry → Region → ℕ → Type 0
Allows globals entry Global k = k < globals
Allows globals entry (Param j) k = Referred entry j k
Allows globals entry Own k = entry.first ≤ k

-- a reference to the part of the area k to which the path leads
pub record Refers (core : ModuleCore) (entry : Entry) (areas : Areas) (r : Reference) (k : ℕ) (path : List ℕ) : Type 0 where
  pub area : Area
  pub live : slice_get areas k ≡ Some (Live area)
  pub leads : part area.ty path ≡ Some (written_out core.structs r.area)
  -- a mutable reference leads to no const area
  pub access : IsTrue (may_stand_for area.constant r.constant)
  pub allowed : Allows (length core.areas) entry r.region k

abbrev pub RefersAs : ModuleCore → Entry → Areas → Option Reference → (k : ℕ) → (path : List ℕ) → Type 0
RefersAs core entry areas None k path = ⊥
RefersAs core entry areas (Some r) k path = Refers core entry areas r k path

-- the value fits the type in the call that was entered so, over these areas; no number is a value of a reference's type
abbrev pub ValueFits : ModuleCore → Entry → Areas → ValueType → Value → Type 0
ValueFits core entry areas ty (Num v) = IsTrue (is_value core.structs ty v)
ValueFits core entry areas ty (Ref k path) = RefersAs core entry areas (reference_of ty) k path

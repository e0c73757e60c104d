-- When a state is scoped: its areas hold values of their types, those of the module come first and are live, and each name in scope in each
-- open call has a value that fits its type.
use Rattle.std.specs.Prelude.{◌<◌, ◌≤◌, length, ◌≡◌, ℕ, List, [], ◌∷◌, ◌==◌, take, slice_get, Contains, Option, Some, IsTrue}
use Rattle.std.specs.List.{find}
use Rattle.std.specs.Option.{option_map}
use Rattle.type_trees.specs.Values.{Fits}
use Rattle.area_types.specs.Syntax.{ValueType}
use Rattle.area_types.specs.Tables.{Table, written_out}
use Rattle.area_types.specs.Trees.{Written}
use Rattle.core_tree.specs.Syntax.{ModuleCore, AreaCore}
use Rattle.core_tree.specs.Types.{is_value}
use Rattle.core_meaning.specs.Values.{Value}
use Rattle.core_meaning.specs.Areas.{Held, Area, Areas, Live, area_at}
use Rattle.core_meaning.specs.State.{Frame, State}
use Rattle.region_soundness.specs.Fitting.{Entry, Referred, ValueFits}

-- ---- areas

-- a value of the type: it has the type's form, and in each cell a value of the cell's type
abbrev pub HeldFits : Table → Written → Held → Type 0
HeldFits table ty held = Fits (λ t v. IsTrue (is_value table t v)) ty held

-- each area that is in the map holds a value of its type
abbrev pub AreasFit : Table → Areas → Type 0
AreasFit table areas = (k : ℕ) (a : Area) → area_at areas k ≡ Some a → HeldFits table a.ty a.held

-- an area of the module is live, with the type and the access of its declaration
pub record IsGlobal (table : Table) (g : AreaCore) (areas : Areas) (k : ℕ) : Type 0 where
  pub area : Area
  pub live : slice_get areas k ≡ Some (Live area)
  pub type : area.ty ≡ written_out table g.area
  pub access : area.constant ≡ g.constant

abbrev pub GlobalsFirst : ModuleCore → Areas → Type 0
GlobalsFirst core areas = (k : ℕ) (g : AreaCore) → slice_get core.areas k ≡ Some g → IsGlobal core.structs g areas k

-- ---- calls that are open

-- the types of a call's locals, which of them are in scope, and how it was entered
pub record Activation : Type 0 where
  pub locals : List ValueType
  pub scope : List ℕ
  pub entry : Entry

abbrev pub name_in : List (ℕ × Value) → ℕ → Option Value
name_in names number = option_map (λ x. x.1) (find (λ x. x.0 == number) names)

-- the name has a value that fits
pub record NameFits (core : ModuleCore) (entry : Entry) (areas : Areas) (names : List (ℕ × Value)) (number : ℕ) (ty : ValueType) : Type 0 where
  pub value : Value
  pub has : name_in names number ≡ Some value
  pub fits : ValueFits core entry areas ty value

abbrev pub NamesFit : ModuleCore → Areas → Activation → List (ℕ × Value) → Type 0
NamesFit core areas a names = (number : ℕ) (ty : ValueType) → Contains a.scope number → slice_get a.locals number ≡ Some ty → NameFits core a.entry areas names number ty

-- The names in scope, and no others, have values, which fit. The first locals are the parameters, which have the arguments at entry. The areas of
-- the module and those to which the arguments referred come before the call's own.
pub record FrameFits (core : ModuleCore) (areas : Areas) (a : Activation) (frame : Frame) : Type 0 where
  pub names : NamesFit core areas a frame.names
  pub named : (number : ℕ) (v : Value) → name_in frame.names number ≡ Some v → Contains a.scope number
  pub params : (k : ℕ) (t : ValueType) → slice_get a.entry.params k ≡ Some t → slice_get a.locals k ≡ Some t
  pub args : (k : ℕ) (v : Value) → slice_get a.entry.args k ≡ Some v → name_in frame.names k ≡ Some v
  pub first : frame.first ≡ a.entry.first
  pub referred : (j k : ℕ) → Referred a.entry j k → k < a.entry.first
  pub globals : length core.areas ≤ a.entry.first
  pub room : a.entry.first ≤ length areas

-- The frames of calls that wait for another, the nearest first. Each fits the areas that there were when it made its call: those before the
-- first own area of the call that it made.
abbrev pub CallersFit : ModuleCore → Areas → (first : ℕ) → List Activation → List Frame → Type 0
CallersFit core areas first [] [] = Unit {0}
CallersFit core areas first [] (f ∷ fs) = ⊥
CallersFit core areas first (a ∷ more) [] = ⊥
CallersFit core areas first (a ∷ more) (f ∷ fs) = FrameFits core (take first areas) a f × CallersFit core areas f.first more fs

-- The state is scoped, where these calls are open.
pub record Scoped (core : ModuleCore) (own : Activation) (waiting : List Activation) (s : State) : Type 0 where
  pub areas : AreasFit core.structs s.areas
  pub globals : GlobalsFirst core s.areas
  pub frame : FrameFits core s.areas own s.frames.own
  pub callers : CallersFit core s.areas s.frames.own.first waiting s.frames.callers

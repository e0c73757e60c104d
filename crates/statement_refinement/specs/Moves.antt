-- How far both sides may have moved on from related states within a block: areas and objects came, cells changed, later names were declared;
-- what the names in scope stand for is still there.
use Rattle.std.specs.Prelude.{◌≡◌, ℕ, ◌<◌, ◌≤◌, length, slice_get, Contains, None, Some}
use Rattle.step_semantics.specs.Control.{Falls}
use Rattle.area_types.specs.Syntax.{ValueType}
use Rattle.core_tree.specs.Syntax.{ExprCore}
use Rattle.c_memory.specs.Abstract.{Same}
use Rattle.c_ast.specs.Names.{named}
use Rattle.c_ast.specs.Scalars.{metric_of}
use Rattle.c_ast.specs.Syntax.{Name}
use Rattle.c_meaning.specs.Memory.{memory_of}
use Rattle.c_meaning.specs.State.{Program, CState}
use Rattle.core_meaning.specs.Areas.{Area, Areas, Live}
use Rattle.core_meaning.specs.State.{State, value_of}
use Rattle.area_objects.specs.Both.{Map, Extends}
use Rattle.area_objects.specs.PlaceLaws.{BothIn}
use Rattle.lower_values.specs.Frames.{name_of}
use Rattle.value_refinement.specs.Related.{Related}
use Rattle.value_refinement.specs.Settings.{Setting, IsOld}
use Rattle.value_refinement.specs.Lets.{LetDone}
use Rattle.statement_refinement.specs.Apart.{OfNoArea, CountersApart}
use Rattle.statement_refinement.specs.Stores.{HasStored}

-- an area that was live is live, with its type and its access
pub record StillLive (areas : Areas) (k : ℕ) (a : Area) : Type 0 where
  pub area : Area
  pub live : slice_get areas k ≡ Some (Live area)
  pub type : area.ty ≡ a.ty
  pub access : area.constant ≡ a.constant

-- `next` is the number of the next local in the text: names from there on may have come
pub record Moved (p : Program) (next : ℕ) (objects : Map) (s : State) (t : CState) (more : Map) (later : State) (u : CState) : Type 0 where
  pub extends : Extends objects more
  pub live : (k : ℕ) (a : Area) → slice_get s.areas k ≡ Some (Live a) → StillLive later.areas k a
  pub count : length t.objects ≤ length u.objects
  -- an object of no area that there was is as it was, and no later area has it
  pub same : (o : ℕ) → o < length t.objects → OfNoArea objects o → Same (metric_of p.target) (memory_of p.target) t.objects u.objects o
  pub apart : (o : ℕ) → o < length t.objects → OfNoArea objects o → OfNoArea more o
  pub names : (x : Name) → IsOld next x → named u.frames.own x ≡ named t.frames.own x
  pub callers : u.frames.callers ≡ t.frames.callers
  pub values : (x : ℕ) → x < next → value_of x later ≡ value_of x s

-- each local in scope stands before the place in the text, and its name is older
abbrev pub ScopeBefore : Setting → ℕ → Type 0
ScopeBefore g next = (x : ℕ) (ty : ValueType) → Contains g.scope x → slice_get g.env.locals x ≡ Some ty → (x < next) × IsOld next (name_of g.frame x)

-- in the body of a procedure
abbrev pub StatesMove : Type 0
StatesMove =
    (g : Setting) → g.env.outcome ≡ None → (next : ℕ) → ScopeBefore g next → (objects : Map) (s : State) (t : CState) → Related g objects s t → CountersApart g objects s t
    → (more : Map) (later : State) (u : CState) → Moved g.program next objects s t more later u → BothIn g.program.target g.naming more later.areas u.objects → Related g more later u × CountersApart g more later u

-- what moves on twice moves on
abbrev pub MovesJoin : Type 0
MovesJoin =
    (p : Program) (next later_next : ℕ) → next ≤ later_next → (o1 o2 o3 : Map) (s1 s2 s3 : State) (t1 t2 t3 : CState)
    → Moved p next o1 s1 t1 o2 s2 t2 → Moved p later_next o2 s2 t2 o3 s3 t3 → Moved p next o1 s1 t1 o3 s3 t3

-- a store moves both sides
abbrev pub StoresMove : Type 0
StoresMove =
    (g : Setting) (next from : ℕ) → next ≤ from → (objects : Map) (s : State) (target value : ExprCore) (t : CState) (s2 : State) (u : CState)
    → HasStored g objects s target value from t s2 u → Moved g.program next objects s t objects s2 u

-- a `let` moves both sides, up to its own name
abbrev pub LetsMove : Type 0
LetsMove =
    (g : Setting) (objects : Map) (s : State) (x : ℕ) (e : ExprCore) (t : CState) (s2 : State) (u : CState)
    → LetDone g objects s x e t Falls s2 Falls u → Moved g.program x objects s t objects s2 u

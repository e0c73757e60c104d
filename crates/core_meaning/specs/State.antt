-- The state of a run: the areas, and a frame for each call that is open. The replies that are left and the events so far are its world.
use Rattle.std.specs.Prelude.{ℕ, suc, List, [], ◌∷◌, ◌++◌, length, map, ◌==◌, Option, false}
use Rattle.std.specs.List.{find, zip}
use Rattle.std.specs.Option.{option_map, option_map_or}
use Rattle.run_records.specs.declared.AreaCells.{AreaCells}
use Rattle.step_semantics.specs.Frames.{Frames, push_frame, pop_frame}
use Rattle.type_trees.specs.Values.{cells}
use Rattle.area_types.specs.Tables.{written_out}
use Rattle.area_types.specs.Trees.{Written}
use Rattle.core_tree.specs.Syntax.{ModuleCore, AreaCore}
use Rattle.core_meaning.specs.Values.{Value, Ref}
use Rattle.core_meaning.specs.Areas.{Held, Areas, AreaState, Live, in_map, filled, mark_from, take_from, put_at}

-- The names in scope in a call, by number, with their values, the latest first. Its local areas are those in the map from `first` on, up to
-- the `first` of the call that it is making, if there is one: numbers are taken in order, and the areas of calls that have ended are gone.
pub record Frame : Type 0 where
  pub names : List (ℕ × Value)
  pub first : ℕ

pub record State : Type 0 where
  pub areas : Areas
  pub frames : Frames Frame

-- ---- names and areas come

abbrev pub value_of : ℕ → State → Option Value
value_of number s = option_map (λ x. x.1) (find (λ x. x.0 == number) s.frames.own.names)

-- every name that comes into scope in a body
abbrev pub with_name : ℕ → Value → State → State
with_name number v s = record s { frames = record s.frames { own = record s.frames.own { names = (number, v) ∷ s.frames.own.names } } }

-- an `alloc`: a new area of this type with this value, and the name for it
abbrev pub with_area : ℕ → Written → Held → State → State
with_area number ty held s = with_name number (Ref (length s.areas) []) (record s { areas = s.areas ++ Live (record { ty = ty; constant = false; held = held }) ∷ [] })

-- a part of an area now holds that
abbrev pub holding : ℕ → List ℕ → Held → State → State
holding k path held s = record s { areas = put_at k path held s.areas }

-- ---- and go

-- at the end of a block its names are out of scope, and its areas are marked
abbrev pub leave : State → State → State
leave before end = record {
  areas = mark_from (length before.areas) end.areas;
  frames = record end.frames { own = record end.frames.own { names = before.frames.own.names } };
}

-- values by number, from this one on
abbrev pub numbered : ℕ → List Value → List (ℕ × Value)
numbered k [] = []
numbered k (v ∷ vs) = (k, v) ∷ numbered (suc k) vs

-- a call begins with its parameters alone in scope
abbrev pub enter : List Value → State → State
enter args s = record s { frames = push_frame (record { names = numbered 0 args; first = length s.areas }) s.frames }

-- at the end of a call its areas are taken out of the map, and its caller's names are in scope again
abbrev pub back : State → State
back s = record { areas = take_from s.frames.own.first s.areas; frames = pop_frame s.frames }

-- ---- the module's own areas

-- each has its first value
abbrev pub first_area : ModuleCore → AreaCore → AreaState
first_area core a = Live (record { ty = written_out core.structs a.area; constant = a.constant; held = filled (written_out core.structs a.area) a.first })

-- Before the first entry call they are all that there is, and so they have the first numbers. The outermost frame is the outside's, without
-- names and areas.
abbrev pub first_state : ModuleCore → State
first_state core = record { areas = map (first_area core) core.areas; frames = record { own = record { names = []; first = length core.areas }; callers = [] } }

abbrev pub seen_as : AreaCore × AreaState → AreaCells
seen_as x = record { name = x.0.name; cells = option_map_or (λ a. cells a.held) (in_map x.1) [] }

-- what the outside sees of a state: the cells of each, in order of declaration, const ones too
abbrev pub seen : ModuleCore → State → List AreaCells
seen core s = map seen_as (zip core.areas s.areas)

-- What an import may write by its parameters, as one list; the shape of its replies by that list, and what a reply writes.
use Rattle.std.specs.Prelude.{◌≡◌, ◌∷◌, ◌++◌, [], ℤ, List, map, Option, Some, None}
use Rattle.std.specs.List.{flat_map}
use Rattle.std.specs.Option.{option_map, option_and_then, option_to_list}
use Rattle.run_records.specs.declared.Piece.{Piece}
use Rattle.run_records.specs.declared.Plain.{Plain}
use Rattle.step_semantics.specs.Imports.{import_call}
use Rattle.step_semantics.specs.Steps.{Part, bind, tick, change}
use Rattle.area_types.specs.Trees as trees
use Rattle.core_tree.specs.Exports.{plain_of}
use Rattle.core_tree.specs.Syntax.{ModuleCore, ImportCore}
use Rattle.core_meaning.specs.Areas.{Areas}
use Rattle.core_meaning.specs.Checks.{on_some}
use Rattle.core_meaning.specs.Imports as imports
use Rattle.core_meaning.specs.Imports.{scalars_of, behind, written, result_in, cells_in, reply_shape}
use Rattle.core_meaning.specs.State.{State, seen}
use Rattle.core_meaning.specs.Values.{Value}
use Rattle.core_state.specs.Types.{written_of}
use Rattle.core_state.specs.declared.Written.{Written}

-- the areas that are written, one for each parameter, or none
abbrev pub targets_of : List (Option Written) → List (Option trees.Written)
targets_of targets = map (option_map written_of) targets

-- all of them, where none is missing
abbrev pub all_some : List (Option Plain) → Option (List Plain)
all_some [] = Some []
all_some (p ∷ ps) = option_and_then (λ q. option_map (λ qs. q ∷ qs) (all_some ps)) p

-- the types of their cells outside
abbrev pub plains_in : List (Option trees.Written) → List (Option Plain)
plains_in targets = flat_map (λ t. map plain_of (scalars_of t)) targets

abbrev pub shape_of : Option Plain → List (Option trees.Written) → Option (List Plain)
shape_of result targets = option_map (λ cells. option_to_list result ++ cells) (all_some (plains_in targets))

-- the areas of a state become those that are said, and all else stays
abbrev pub Writes : (Areas → Areas) → (old new : State) → Type 0
Writes to old new = new ≡ record old { areas = to old.areas }

abbrev pub written_all : List (Option trees.Written) → List Value → List ℤ → Areas → Areas
written_all [] args reply areas = areas
written_all (t ∷ targets) [] reply areas = areas
written_all (t ∷ targets) (v ∷ args) reply areas = written_all targets args (behind t reply) (written t v reply areas)

abbrev pub after_reply : ImportCore → List (Option trees.Written) → List Value → List ℤ → State → State
after_reply i targets args reply s = record s { areas = written_all targets args (cells_in i.result reply) s.areas }

-- the call's step, and then the outside sees the call and replies
abbrev pub asking : ModuleCore → ImportCore → List (Option trees.Written) → List Value → List Piece → List Plain → Part State (Option Value)
asking core i targets args pieces shape = tick (bind (import_call (seen core) i.name pieces shape) (λ reply. change (result_in i.result reply) (after_reply i targets args reply)))

-- where its replies have a shape
abbrev pub asking_by : ModuleCore → ImportCore → List Value → List Piece → Part State (Option Value)
asking_by core i args pieces = on_some core (reply_shape core i) (imports.asking core i args pieces)

-- The call of an import: the outside sees its arguments, with the cells behind each reference as they are then, and replies. A reply has
-- the result, if there is one, and then the cells of each mutable reference in the order of the parameters; they are written in that order.
use Rattle.std.specs.Prelude.{ℤ, List, [], ◌∷◌, ◌++◌, drop, Option, Some, None, false}
use Rattle.std.specs.List.{flat_map}
use Rattle.std.specs.Option.{option_to_list, option_map, option_and_then}
use Rattle.run_records.specs.declared.Piece.{Piece}
use Rattle.run_records.specs.declared.Piece.TheVariants as piece
use Rattle.run_records.specs.declared.Plain.{Plain}
use Rattle.step_semantics.specs.Steps.{Part, bind, tick, by_state, change}
use Rattle.step_semantics.specs.Imports.{import_call}
use Rattle.type_trees.specs.Trees.{count, scalars}
use Rattle.area_types.specs.Syntax as syntax
use Rattle.area_types.specs.Syntax.{ValueType}
use Rattle.area_types.specs.Tables.{written_out}
use Rattle.area_types.specs.Trees.{Written}
use Rattle.core_tree.specs.Exports.{plain_of}
use Rattle.core_tree.specs.Syntax.{ModuleCore, ImportCore}
use Rattle.core_meaning.specs.Values.{Value, Num, Ref}
use Rattle.core_meaning.specs.Areas.{Areas, cells_at, put_at, filled}
use Rattle.core_meaning.specs.State.{State, seen}
use Rattle.core_meaning.specs.Checks.{on_some}

-- an argument, as the outside sees it
abbrev pub piece_of : Areas → Value → Option Piece
piece_of areas (Num v) = Some (piece.Value v)
piece_of areas (Ref k path) = option_map piece.Cells (cells_at areas k path)

-- of all arguments; none where a reference leads to no part
abbrev pub pieces_of : Areas → List Value → Option (List Piece)
pieces_of areas [] = Some []
pieces_of areas (v ∷ vs) = option_and_then (λ p. option_map (λ ps. p ∷ ps) (pieces_of areas vs)) (piece_of areas v)

-- the area that an import may write by a parameter
abbrev pub writable : ModuleCore → ValueType → Option Written
writable core (syntax.Ref false region target) = Some (written_out core.structs target)
writable core _ = None

abbrev pub scalars_of : Option Written → List ValueType
scalars_of None = []
scalars_of (Some ty) = scalars ty

-- an import writes truths and numbers of a kind alone: there is no shape where it would write something else
abbrev pub plains_of : List ValueType → Option (List Plain)
plains_of [] = Some []
plains_of (t ∷ ts) = option_and_then (λ p. option_map (λ ps. p ∷ ps) (plains_of ts)) (plain_of t)

abbrev pub reply_shape : ModuleCore → ImportCore → Option (List Plain)
reply_shape core i = option_map (λ cells. option_to_list i.result ++ cells) (plains_of (flat_map (λ t. scalars_of (writable core t)) i.params))

-- what is left of a reply behind the cells of a parameter
abbrev pub behind : Option Written → List ℤ → List ℤ
behind None reply = reply
behind (Some ty) reply = drop (count ty) reply

-- the cells of a parameter's area, where it may be written, are the first values of the reply
abbrev pub written : Option Written → Value → List ℤ → Areas → Areas
written (Some ty) (Ref k path) reply areas = put_at k path (filled ty reply) areas
written _ _ reply areas = areas

abbrev pub all_written : ModuleCore → List ValueType → List Value → List ℤ → Areas → Areas
all_written core [] args reply areas = areas
all_written core (t ∷ params) [] reply areas = areas
all_written core (t ∷ params) (v ∷ args) reply areas = all_written core params args (behind (writable core t) reply) (written (writable core t) v reply areas)

-- the result is the first value of the reply, where there is one, and the cells are behind it
abbrev pub result_in : Option Plain → List ℤ → Option Value
result_in (Some t) (v ∷ reply) = Some (Num v)
result_in _ _ = None

abbrev pub cells_in : Option Plain → List ℤ → List ℤ
cells_in (Some t) reply = drop 1 reply
cells_in None reply = reply

abbrev pub after_reply : ModuleCore → ImportCore → List Value → List ℤ → State → State
after_reply core i args reply s = record s { areas = all_written core i.params args (cells_in i.result reply) s.areas }

-- the call's step, and then the outside sees the call and replies
abbrev pub asking : ModuleCore → ImportCore → List Value → List Piece → (shape : List Plain) → Part State (Option Value)
asking core i args pieces shape = tick (bind (import_call (seen core) i.name pieces shape) (λ reply. change (result_in i.result reply) (after_reply core i args reply)))

-- once the arguments are there
abbrev pub outside : ModuleCore → ImportCore → List Value → Part State (Option Value)
outside core i args = by_state (λ s. on_some core (pieces_of s.areas args) (λ pieces. on_some core (reply_shape core i) (asking core i args pieces)))

-- What an expression is evaluated in, in the words of the meaning, and what it is that code gives what a part of a run does.
use Rattle.std.specs.Prelude.{Option, Result}
use Rattle.std.specs.Option.{option_map}
use Rattle.step_semantics.specs.Steps.{Part, Progress, after}
use Rattle.core_tree.specs.Cores.{core_of}
use Rattle.core_tree.specs.Syntax.{ModuleCore, ExprCore}
use Rattle.core_meaning.specs.Expressions.{eval}
use Rattle.core_meaning.specs.State as meaning
use Rattle.core_meaning.specs.Values.{Value}
use Rattle.core_state.specs.declared.Value.{Value as CodeValue}
use Rattle.core_state.specs.State.{value_of, state_of}
use Rattle.core_expressions.specs.Reads.{Reads}
use Rattle.core_expressions.specs.declared.scope.Scope.{Scope}
use Rattle.run_world.specs.Comes.{Comes}
use Rattle.run_world.specs.declared.Stopped.{Stopped}
use Rattle.run_world.specs.declared.World.{World}

abbrev pub core_in : Scope → ModuleCore
core_in x = core_of x.program.now

abbrev pub state_in : Scope → meaning.State
state_in x = state_of x.state.now

abbrev pub outcome_in : Scope → Option Value
outcome_in x = option_map value_of x.outcome.now

abbrev pub part_of : Scope → ExprCore → Part meaning.State Value
part_of x e = eval (core_in x) (outcome_in x) e

abbrev pub Gives : {A B : Type 0} → Scope → (B → A) → Part meaning.State A → (old : World) → Result B Stopped → (new : World) → Type 0
Gives x view part old result new = Reads x.program.now view part x.state.now old result new

-- for no step, in every world
abbrev pub Finds : {A B : Type 0} → Scope → (B → A) → Part meaning.State A → Result B Stopped → Type 0
Finds x view part result = (w : World) → Gives x view part w result w

-- an operand that came out so is there, and then what comes behind its value
abbrev pub Behind : Scope → Result CodeValue Stopped → (old : World) → (Value → Part meaning.State Value) → Result CodeValue Stopped → (new : World) → Type 0
Behind x operand old next result new =
    (said : Progress meaning.State Value)
    → Comes (meaning.seen (core_in x)) value_of said operand old (state_in x) → Comes (meaning.seen (core_in x)) value_of (after said next) result new (state_in x)

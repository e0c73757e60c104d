-- What it is that code comes out of a part of a run as the meaning of that part does, and leaves the state as it was; a part that goes on with
-- a truth, and the conditions of a procedure.
use Rattle.std.specs.Prelude.{Bool, not, if◌then◌else◌, List, Result}
use Rattle.std.specs.List.{filter}
use Rattle.step_semantics.specs.Steps.{Part, bind, tick}
use Rattle.core_tree.specs.Cores.{Parts, core_of}
use Rattle.core_tree.specs.Syntax.{ModuleCore, ContractCore}
use Rattle.core_meaning.specs.Checks.{on_truth}
use Rattle.core_meaning.specs.State as meaning
use Rattle.core_meaning.specs.Values.{Value}
use Rattle.core_state.specs.State.{state_of}
use Rattle.core_state.specs.declared.State.{State}
use Rattle.run_world.specs.Comes.{world_of, Comes}
use Rattle.run_world.specs.declared.Stopped.{Stopped}
use Rattle.run_world.specs.declared.World.{World}

abbrev pub Reads : {A B : Type 0} → Parts → (B → A) → Part meaning.State A → State → (old : World) → Result B Stopped → (new : World) → Type 0
Reads parts view part s old result new = Comes (meaning.seen (core_of parts)) view (part old.steps (world_of old) (state_of s)) result new (state_of s)

-- a truth, then a step, and then what comes with it: of this form are the choice of `if` and of `?:`
abbrev pub with_truth : {A : Type 0} → ModuleCore → Part meaning.State Value → (Bool → Part meaning.State A) → Part meaning.State A
with_truth core test next = bind test (λ x. on_truth core x (λ holds. tick (next holds)))

-- the conditions of a procedure that stand before its body, or those behind it
abbrev pub standing : Bool → List ContractCore → List ContractCore
standing before cs = filter (λ c. if before then c.before else not c.before) cs

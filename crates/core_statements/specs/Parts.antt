-- How control leaves the code's statements, and what it is that code comes out as a part of a run does.
use Rattle.std.specs.Prelude.{Option, Result}
use Rattle.std.specs.Option.{option_map}
use Rattle.step_semantics.specs.Control as control
use Rattle.step_semantics.specs.Steps.{Part}
use Rattle.core_tree.specs.Cores.{Parts, core_of}
use Rattle.core_meaning.specs.State as meaning
use Rattle.core_meaning.specs.Statements.{Flow}
use Rattle.core_state.specs.State.{value_of, state_of}
use Rattle.run_world.specs.Comes.{world_of, Comes}
use Rattle.run_world.specs.declared.Stopped.{Stopped}
use Rattle.core_statements.specs.declared.parts.Run.{Run}
use Rattle.core_statements.specs.declared.parts.Control.{Control}
use Rattle.core_statements.specs.declared.parts.Control.TheVariants.{Falls, Broke, Returned}

abbrev pub control_of : Control → Flow
control_of Falls = control.Falls
control_of Broke = control.Broke
control_of (Returned v) = control.Returned (option_map value_of v)

-- a run of the core, from one moment to another, comes out as the part does
abbrev pub Does : {A B : Type 0} → Parts → (B → A) → Part meaning.State A → (old new : Run) → Result B Stopped → Type 0
Does p view part old new r = Comes (meaning.seen (core_of p)) view (part old.world.steps (world_of old.world) (state_of old.state)) r new.world (state_of new.state)

-- What the steps so far leave to the rest.
use Rattle.std.proofs.Common.{◌≡◌, drop, map}
use Rattle.ivory_tree.specs.View.{step_of}
use Rattle.rule_checker.specs.Chains.{steps_type}
use Rattle.rule_checker.specs.Contexts.{context_of}
use Rattle.rule_checker.specs.View.{type_seen}
use Rattle.rule_checker.proofs.typing.steps_type.Given as goal

abbrev pub invariant-loop-step : goal.invariant-loop-step
invariant-loop-step l = steps_type (context_of l.context) (type_seen l.so_far) (map step_of (drop l.step-index l.steps)) ≡ steps_type (context_of l.context) (type_seen l.t) (map step_of l.steps)

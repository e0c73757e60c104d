use Rattle.std.proofs.Common.{◌≡◌, map, drop}
use Rattle.core_state.specs.State.{value_of, state_of}
use Rattle.core_statements.specs.Replies.{targets_of, written_all}
use Rattle.core_statements.proofs.replies.write_all.Given as goal

abbrev pub invariant-loop-i : goal.invariant-loop-i
invariant-loop-i l = record {
  areas : written_all (targets_of (drop l.i l.targets)) (map value_of (drop l.i l.args)) l.left.rest.now (state_of l.state).areas ≡ written_all (targets_of l.targets) (map value_of l.args) l.numbers (state_of l.initial.state).areas;
  frames : (state_of l.state).frames ≡ (state_of l.initial.state).frames;
}

use Rattle.std.proofs.Common.{◌≡◌, ◌+◌, ◌++◌, length, map}
use Rattle.core_meaning.specs.State.{numbered}
use Rattle.core_state.specs.Changes.{names_of}
use Rattle.core_state.specs.State.{value_of}
use Rattle.core_state.proofs.changes.parameters.Given as goal

abbrev pub invariant-loop : goal.invariant-loop
invariant-loop l = record {
  names : numbered 0 (map value_of l.left) ++ names_of l.names ≡ numbered 0 (map value_of l.fn.args);
  length : length l.left + l.counter ≡ length l.fn.args;
}

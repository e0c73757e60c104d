use Rattle.std.proofs.Common.{◌≡◌, take}
use Rattle.core_state.proofs.held.+copies.Given as goal

abbrev pub invariant-copied_all-loop-part : goal.invariant-copied_all-loop-part
invariant-copied_all-loop-part l = l.items ≡ take l.part-index l.part-items

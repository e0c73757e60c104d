use Rattle.std.proofs.Common.{◌≡◌, take}
use Rattle.core_state.proofs.written.+copies.Given as goal

abbrev pub invariant-copied_all-loop-ty : goal.invariant-copied_all-loop-ty
invariant-copied_all-loop-ty l = l.items ≡ take l.ty-index l.ty-items

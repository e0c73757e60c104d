use Rattle.std.proofs.Common.{◌≡◌, take}
use Rattle.core_tree.proofs.init.+copies.Given as goal

abbrev pub invariant-copied_inits-loop-init : goal.invariant-copied_inits-loop-init
invariant-copied_inits-loop-init l = l.items ≡ take l.init-index l.init-items

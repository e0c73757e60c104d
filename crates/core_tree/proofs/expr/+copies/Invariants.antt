use Rattle.std.proofs.Common.{◌≡◌, take}
use Rattle.core_tree.proofs.expr.+copies.Given as goal

abbrev pub invariant-copied_links-loop-link : goal.invariant-copied_links-loop-link
invariant-copied_links-loop-link l = l.items ≡ take l.link-index l.link-items

abbrev pub invariant-copied_steps-loop-step : goal.invariant-copied_steps-loop-step
invariant-copied_steps-loop-step l = l.items ≡ take l.step-index l.step-items

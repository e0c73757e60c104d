use Rattle.std.proofs.Common.{◌≡◌, ◌++◌, map, drop}
use Rattle.core_tree.specs.View.{link_of, step_of}
use Rattle.contract_checks.specs.Parts.{links_checks, steps_checks}
use Rattle.contract_checks.proofs.exprs.+exprs.Given as goal

abbrev pub invariant-add_links-loop-link : goal.invariant-add_links-loop-link
invariant-add_links-loop-link l = l.found ++ links_checks (map link_of (drop l.link-index l.link-items)) ≡ l.initial.found ++ links_checks (map link_of l.link-items)

abbrev pub invariant-add_steps-loop-step : goal.invariant-add_steps-loop-step
invariant-add_steps-loop-step l = l.found ++ steps_checks (map step_of (drop l.step-index l.step-items)) ≡ l.initial.found ++ steps_checks (map step_of l.step-items)

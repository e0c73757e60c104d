-- No initializer so far has a fault.
use Rattle.std.proofs.Common.{◌≡◌, drop}
use Rattle.ivory_tree.specs.View.{inits_of}
use Rattle.rule_faults.specs.ExpressionRows.{inits_row}
use Rattle.rule_faults.specs.FirstFault.{first_of}
use Rattle.rule_checker.specs.Contexts.{context_of}
use Rattle.rule_checker.specs.View.{area_seen}
use Rattle.rule_checker.proofs.inits.+inits.Given as goal

abbrev pub invariant-inits_fault-loop-at : goal.invariant-inits_fault-loop-at
invariant-inits_fault-loop-at l = first_of (inits_row (context_of l.context) l.global (area_seen l.area) l.at (inits_of (drop l.at l.inits))) ≡ first_of (inits_row (context_of l.context) l.global (area_seen l.area) 0 (inits_of l.inits))

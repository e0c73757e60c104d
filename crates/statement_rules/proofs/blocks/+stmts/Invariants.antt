-- No statement so far has a fault, and what they name is in scope.
use Rattle.std.proofs.Common.{◌≡◌, true, drop}
use Rattle.ivory_tree.specs.View.{stmts_of}
use Rattle.rule_faults.specs.FirstFault.{first_of}
use Rattle.rule_faults.specs.StatementRows.{stmts_row}
use Rattle.rule_checker.specs.Contexts.{context_of}
use Rattle.statement_rules.specs.Kept.{Kept}
use Rattle.statement_rules.proofs.blocks.+stmts.Given as goal

abbrev pub invariant-stmts_fault-loop-stmt : goal.invariant-stmts_fault-loop-stmt
invariant-stmts_fault-loop-stmt l = record {
  rest : first_of (stmts_row (context_of l.context) l.reached (stmts_of (drop l.stmt-index l.stmts))) ≡ first_of (stmts_row (context_of l.initial.context) true (stmts_of l.stmts));
  kept : Kept l.initial.context l.context;
}

use Rattle.std.proofs.Common.{drop}
use Rattle.c_rules.specs.Depths.{depth}
use Rattle.c_rules.specs.Kept.{Kept}
use Rattle.c_scopes.specs.Scope.{names_view}
use Rattle.c_scopes.specs.Views.{type_view}
use Rattle.c_scopes.proofs.Rows.{Going}
use Rattle.c_rules.proofs.StmtRows.{text, item, next}
use Rattle.c_rules.proofs.stmt.+stmts.Given as goal

abbrev pub invariant-check_stmts-loop-stmt : goal.invariant-check_stmts-loop-stmt
invariant-check_stmts-loop-stmt l = record {
  going : Going (text (depth l.braces)) (item l.initial.names.target (type_view l.wanted) l.in_loop (depth l.braces)) next l.initial.walk l.walk (names_view l.initial.names) (names_view l.names) l.stmts (drop l.stmt-index l.stmts);
  kept : Kept l.initial.names l.names;
}

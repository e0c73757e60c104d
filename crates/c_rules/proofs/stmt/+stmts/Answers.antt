use Rattle.std.proofs.Common.{◌≡◌, ◌+◌, ◌++◌, ◌∙◌, sym, ap, subst, Some, None, true, drop}
use Rattle.c_ast.specs.declared.stmt.CStmt.TheVariants as stmt
use Rattle.c_ast.specs.View.{expr_of, stmt_of, stmts_of}
use Rattle.c_ast.proofs.View.{if_is, if_else_is, forever_is, block_is, call_is}
use Rattle.c_text.specs.ExpressionText.{expr_text}
use Rattle.c_text.specs.ExpressionRules.{tested_demands}
use Rattle.c_text.specs.Rules.{behind}
use Rattle.c_text.specs.StatementText.{indent, stmt_text, stmts_text}
use Rattle.c_text.specs.StatementRules.{stmt_demands, stmts_demands}
use Rattle.std.specs.Prelude.{codes}
use Rattle.c_text.specs.TypeText.{line}
use Rattle.c_rules.specs.Depths.{depth}
use Rattle.c_rules.specs.Forms.{form_text}
use Rattle.c_scopes.specs.Scope.{names_view}
use Rattle.c_scopes.specs.Views.{type_view}
use Rattle.c_scopes.specs.Walks.{Walks}
use Rattle.c_rules.proofs.FormLines.{form_is, else_begins}
use Rattle.c_scopes.proofs.Rows.{Going, going_on, all_gone}
use Rattle.c_rules.proofs.Scopes.{on_ok, kept_both}
use Rattle.c_rules.proofs.StmtRows.{text, item, next, stmts_are, texts_are}
use Rattle.c_scopes.proofs.Walks.{followed, passed, as_demands, as_text}
use Rattle.c_rules.proofs.stmt.+stmts.Goals as goal

pub check_form-returns-in-None-clause-walks : goal.check_form-returns-in-None-clause-walks
check_form-returns-in-None-clause-walks t c =
    let whole : c.args.stmt.now ≡ stmt.If c.in-If.test c.in-If.first None = c.in-If.is ∙ ap (λ x. stmt.If c.in-If.test c.in-If.first x) c.in-None.is in
    rw whole (rw (if_is c.in-If.test c.in-If.first)
    (passed (followed (λ at. stmts_demands c.args.names.now.target (type_view c.args.wanted.now) c.args.in_loop (depth c.args.braces.now + 1) (names_view c.args.names.now) at (stmts_of c.in-If.first)) c.check_test.ensures (rw c.as_slice.ensures at c.in_ok-check_body-in-If.ensures.walks)) c.pass.ensures))

pub check_form-returns-in_ok-check_body-in-Some-clause-walks : goal.check_form-returns-in_ok-check_body-in-Some-clause-walks
check_form-returns-in_ok-check_body-in-Some-clause-walks t c =
    let whole : c.args.stmt.now ≡ stmt.If c.in-If.test c.in-If.first (Some c.in-Some.second) = c.in-If.is ∙ ap (λ x. stmt.If c.in-If.test c.in-If.first x) c.in-Some.is in
    rw whole (rw (if_else_is c.in-If.test c.in-If.first c.in-Some.second)
    (as_demands
    (ap (λ x. tested_demands c.args.names.now.target (names_view c.args.names.now) (behind c.args.walk.now.at (codes "if (")) (expr_of c.in-If.test) ++ stmts_demands c.args.names.now.target (type_view c.args.wanted.now) c.args.in_loop (depth c.args.braces.now + 1) (names_view c.args.names.now) (behind c.args.walk.now.at (codes "if (" ++ expr_text (expr_of c.in-If.test) ++ line (codes ") {"))) (stmts_of c.in-If.first)
    ++ stmts_demands c.args.names.now.target (type_view c.args.wanted.now) c.args.in_loop (depth c.args.braces.now + 1) (names_view c.args.names.now) (behind c.args.walk.now.at x) (stmts_of c.in-Some.second))
    (else_begins (depth c.args.braces.now) (expr_text (expr_of c.in-If.test)) (stmts_text (depth c.args.braces.now + 1) (stmts_of c.in-If.first))))
    (passed
    (followed (λ at. stmts_demands c.args.names.now.target (type_view c.args.wanted.now) c.args.in_loop (depth c.args.braces.now + 1) (names_view c.args.names.now) at (stmts_of c.in-Some.second))
    (passed (followed (λ at. stmts_demands c.args.names.now.target (type_view c.args.wanted.now) c.args.in_loop (depth c.args.braces.now + 1) (names_view c.args.names.now) at (stmts_of c.in-If.first)) c.check_test.ensures (rw c.as_slice.ensures at c.in_ok-check_body-in-If.ensures.walks)) c.pass-in-Some.ensures)
    (rw (c.as_slice-in-Some.ensures, c.in_ok-check_body-in-If.ensures.same) at c.in_ok-check_body-in-Some.ensures.walks))
    c.pass-in-Some-2.ensures)))

pub check_form-returns-in_ok-check_body-in-Forever-clause-walks : goal.check_form-returns-in_ok-check_body-in-Forever-clause-walks
check_form-returns-in_ok-check_body-in-Forever-clause-walks t c =
    rw c.in-Forever.is (rw (forever_is c.in-Forever.body)
    (passed (followed (λ at. stmts_demands c.args.names.now.target (type_view c.args.wanted.now) true (depth c.args.braces.now + 1) (names_view c.args.names.now) at (stmts_of c.in-Forever.body)) c.pass-in-Forever.ensures (rw c.as_slice-in-Forever.ensures at c.in_ok-check_body-in-Forever.ensures.walks)) c.pass-in-Forever-2.ensures))

pub check_form-returns-in_ok-check_body-in-Block-clause-walks : goal.check_form-returns-in_ok-check_body-in-Block-clause-walks
check_form-returns-in_ok-check_body-in-Block-clause-walks t c =
    rw c.in-Block.is (rw (block_is c.in-Block.body)
    (passed (followed (λ at. stmts_demands c.args.names.now.target (type_view c.args.wanted.now) c.args.in_loop (depth c.args.braces.now + 1) (names_view c.args.names.now) at (stmts_of c.in-Block.body)) c.pass-in-Block.ensures (rw c.as_slice-in-Block.ensures at c.in_ok-check_body-in-Block.ensures.walks)) c.pass-in-Block-2.ensures))

pub check_form-returns-in-Call-clause-walks : goal.check_form-returns-in-Call-clause-walks
check_form-returns-in-Call-clause-walks t c = rw c.in-Call.is (rw (call_is c.in-Call.call) (passed c.check_call.ensures c.pass-in-Call.ensures))

pub check_stmt-returns-clause-walks : goal.check_stmt-returns-clause-walks
check_stmt-returns-clause-walks t c =
    let behind_spaces : Walks c.pass_indent.new.walk c.check_form.new.walk (form_text (depth c.args.braces.now) (stmt_of c.args.stmt.now)) (stmt_demands c.args.names.now.target (type_view c.args.wanted.now) c.args.in_loop (depth c.args.braces.now) (names_view c.args.names.now) c.pass_indent.new.walk.at (stmt_of c.args.stmt.now))
    → Walks c.args.walk.now c.check_form.new.walk (stmt_text (depth c.args.braces.now) (stmt_of c.args.stmt.now)) (stmt_demands c.args.names.now.target (type_view c.args.wanted.now) c.args.in_loop (depth c.args.braces.now) (names_view c.args.names.now) (behind c.args.walk.now.at (indent (depth c.args.braces.now))) (stmt_of c.args.stmt.now)) =
    λ w. as_text (form_is (depth c.args.braces.now) (stmt_of c.args.stmt.now)) (followed (λ at. stmt_demands c.args.names.now.target (type_view c.args.wanted.now) c.args.in_loop (depth c.args.braces.now) (names_view c.args.names.now) at (stmt_of c.args.stmt.now)) c.pass_indent.ensures w) in
    on_ok c.check_form.result behind_spaces c.check_form.ensures.walks

pub check_stmts-loop-stmt-preserved : goal.check_stmts-loop-stmt-preserved
check_stmts-loop-stmt-preserved t c =
    let same_target : c.loop-stmt.names.target ≡ c.args.names.now.target = ap (λ n. n.target) c.loop-stmt.invariant.kept.others in
    let one : Walks c.loop-stmt.walk c.check_stmt.new.walk (text (depth c.args.braces.now) c.stmt-item.result) (item c.args.names.now.target (type_view c.args.wanted.now) c.args.in_loop (depth c.args.braces.now) (names_view c.loop-stmt.names) c.loop-stmt.walk.at c.stmt-item.result) =
    subst (λ x. Walks c.loop-stmt.walk c.check_stmt.new.walk (text (depth c.args.braces.now) c.stmt-item.result) (item x (type_view c.args.wanted.now) c.args.in_loop (depth c.args.braces.now) (names_view c.loop-stmt.names) c.loop-stmt.walk.at c.stmt-item.result)) same_target c.in_ok-check_stmt.ensures.walks in
    record {
      going = subst (λ s. Going (text (depth c.args.braces.now)) (item c.args.names.now.target (type_view c.args.wanted.now) c.args.in_loop (depth c.args.braces.now)) next c.args.walk.now c.check_stmt.new.walk (names_view c.args.names.now) s c.args.stmts.now (drop (c.loop-stmt.stmt-index + 1) c.args.stmts.now)) (sym c.in_ok-check_stmt.ensures.view)
          (going_on (text (depth c.args.braces.now)) (item c.args.names.now.target (type_view c.args.wanted.now) c.args.in_loop (depth c.args.braces.now)) next c.args.walk.now (names_view c.args.names.now) (names_view c.loop-stmt.names) c.args.stmts.now c.loop-stmt.stmt-index c.stmt-item.result c.loop-stmt-test.true c.stmt-item.is c.loop-stmt.invariant.going one);
      kept = kept_both c.args.names.now c.loop-stmt.names c.check_stmt.new.names c.loop-stmt.invariant.kept c.in_ok-check_stmt.ensures.kept;
    }

pub check_stmts-returns-clause-walks : goal.check_stmts-returns-clause-walks
check_stmts-returns-clause-walks t c =
    as_text (texts_are (depth c.args.braces.now) c.args.stmts.now) (as_demands (stmts_are c.args.names.now.target (type_view c.args.wanted.now) c.args.in_loop (depth c.args.braces.now) (names_view c.args.names.now) c.args.walk.now.at c.args.stmts.now)
    (all_gone (text (depth c.args.braces.now)) (item c.args.names.now.target (type_view c.args.wanted.now) c.args.in_loop (depth c.args.braces.now)) next (names_view c.args.names.now) (names_view c.loop-stmt.names) c.args.stmts.now c.loop-stmt.stmt-index c.loop-stmt-test.false c.loop-stmt.invariant.going))

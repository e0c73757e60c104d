use Rattle.std.proofs.lemmas.Result.{err_from_is_err_and}
use Rattle.std.proofs.Common.{◌≡◌, ◌∙◌, Err, ap, refl, arith, rules}
use Rattle.c_ast.specs.View.{stmt_of}
use Rattle.c_grammar.specs.StatementRules as statements
use Rattle.c_lexemes.proofs.Turned.{turned_init, turned_after, turned_fault}
use Rattle.c_statement_parser.proofs.stmts.+statements.Goals as goal

pub statement_lines-loop-turn-init : goal.statement_lines-loop-turn-init
statement_lines-loop-turn-init t c = turned_init stmt_of c.args.depth statements.statement_line c.args.bytes.now _ _ refl (omega arith) c.new-lines.ensures

pub statement_lines-loop-turn-preserved : goal.statement_lines-loop-turn-preserved
statement_lines-loop-turn-preserved t c = turned_after stmt_of _ c.in_ok-next.next _ _ _ c.loop-turn.invariant (omega arith) (search rules) c.in_ok-next.ensures c.in_ok-push.ensures.ok

pub statement_lines-returns-in_err-next : goal.statement_lines-returns-in_err-next
statement_lines-returns-in_err-next t c =
    let p = err_from_is_err_and c.from_residual.result c.from_residual.ensures.1 in
    let e : c.from_residual.result ≡ Err c.in_err-next.field-0.0 = p.1 ∙ ap Err p.2 in
    rw e (turned_fault _ c.loop-turn.invariant (λ z. omega arith) (search rules) c.in_err-next.ensures)

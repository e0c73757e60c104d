use Rattle.std.proofs.Common.{Err, List, map, ap, sym, subst, ◌∙◌}
use Rattle.std.specs.List.{AllZip}
use Rattle.std.proofs.lemmas.Result.{err_from_is_err_and}
use Rattle.ivory_tree.specs.Syntax.{StmtSyntax}
use Rattle.ivory_tree.specs.View.{stmt_of}
use Rattle.first_form.specs.Stands.{StmtStands}
use Rattle.first_form.proofs.Bodies.{stmts_are}
use Rattle.first_form.proofs.Refusals.{refused_on}
use Rattle.first_form.proofs.procedure.first_body.Goals as goal

pub returns-in_err-calls-clause-refused : goal.returns-in_err-calls-clause-refused
returns-in_err-calls-clause-refused c =
    let p = err_from_is_err_and c.from_residual.result c.from_residual.ensures.1 in
    refused_on c.from_residual.result c.in_err-calls.field-0.0 (p.1 ∙ ap Err p.2) c.in_err-calls.ensures.refused
    (λ none q s. none q.calls (subst (λ (xs : List StmtSyntax). AllZip (StmtStands c.args.imports.now) xs q.calls)
    (stmts_are c.args.proc.now.body s.span s.stmts s.body ∙ ap (map stmt_of) (sym c.deref.ensures)) s.calls))

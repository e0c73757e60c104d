use Rattle.std.proofs.Common.{Err, ap, ◌∙◌, arith}
use Rattle.std.proofs.lemmas.Result.{err_from_is_err_and}
use Rattle.ivory_tree.specs.View.{item_of}
use Rattle.first_form.specs.Stands.{ProcStands}
use Rattle.first_form.proofs.Lists.{each_taken, not_each}
use Rattle.first_form.proofs.Refusals.{refused_on}
use Rattle.first_form.proofs.procedure.first_procs.Goals as goal

pub returns-in_err-first_proc-clause-refused : goal.returns-in_err-first_proc-clause-refused
returns-in_err-first_proc-clause-refused c =
    let p = err_from_is_err_and c.from_residual-in_err-first_proc.result c.from_residual-in_err-first_proc.ensures.1 in
    refused_on c.from_residual-in_err-first_proc.result c.in_err-first_proc.field-0.0 (p.1 ∙ ap Err p.2) c.in_err-first_proc.ensures.refused
    (not_each item_of (ProcStands c.args.imports.now) _ _ c.proc-item.result (omega arith) c.proc-item.is)

pub loop-proc-preserved : goal.loop-proc-preserved
loop-proc-preserved c =
    each_taken item_of (ProcStands c.args.imports.now) _ _ _ _ c.proc-item.result c.in_ok-first_proc.field-0 c.loop-proc.invariant (omega arith) c.proc-item.is c.in_ok-first_proc.ensures.ok c.in_ok-push.ensures.ok

use Rattle.std.proofs.Common.{Err, ap, ◌∙◌, arith}
use Rattle.std.proofs.lemmas.Result.{err_from_is_err_and}
use Rattle.ivory_tree.specs.View.{item_of}
use Rattle.first_form.specs.Stands.{ImportStands}
use Rattle.first_form.proofs.Lists.{each_taken, not_each}
use Rattle.first_form.proofs.Refusals.{refused_on}
use Rattle.first_form.proofs.import.first_imports.Goals as goal

pub returns-in_err-first_import-clause-refused : goal.returns-in_err-first_import-clause-refused
returns-in_err-first_import-clause-refused c =
    let p = err_from_is_err_and c.from_residual-in_err-first_import.result c.from_residual-in_err-first_import.ensures.1 in
    refused_on c.from_residual-in_err-first_import.result c.in_err-first_import.field-0.0 (p.1 ∙ ap Err p.2) c.in_err-first_import.ensures.refused
    (not_each item_of (ImportStands c.args.items.now) _ _ c.import-item.result (omega arith) c.import-item.is)

pub loop-import-preserved : goal.loop-import-preserved
loop-import-preserved c =
    each_taken item_of (ImportStands c.args.items.now) _ _ _ _ c.import-item.result c.in_ok-first_import.field-0 c.loop-import.invariant (omega arith) c.import-item.is c.in_ok-first_import.ensures.ok c.in_ok-push.ensures.ok

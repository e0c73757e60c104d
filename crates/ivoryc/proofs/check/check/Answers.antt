use Rattle.std.proofs.Common.{◌≡◌, ◌∙◌, ap, Err, refl}
use Rattle.std.proofs.lemmas.Result.{err_from_is_err_and}
use Rattle.ivoryc.specs.declared.command.Command.TheVariants.{Check}
use Rattle.ivoryc.proofs.Steps.{one_load, check_unloaded, check_does}
use Rattle.ivoryc.proofs.check.check.Goals as goal

pub returns-in_err-text-clause-loads : goal.returns-in_err-text-clause-loads
returns-in_err-text-clause-loads g c = one_load (Check c.args.file.now) _ refl (λ files. refl) c.in_err-text.ensures.once

pub returns-in_err-text-clause-performed : goal.returns-in_err-text-clause-performed
returns-in_err-text-clause-performed g c =
    let p = err_from_is_err_and c.from_residual.result c.from_residual.ensures.1 in
    let e : c.from_residual.result ≡ Err c.in_err-text.field-0.0 = p.1 ∙ ap Err p.2 in
    rw e (check_unloaded c.args.file.now _ _ c.in_err-text.field-0.0 c.in_err-text.ensures.loaded refl)

pub returns-clause-loads : goal.returns-clause-loads
returns-clause-loads g c = one_load (Check c.args.file.now) _ refl (λ files. refl) c.in_ok-text.ensures.once

pub returns-clause-performed : goal.returns-clause-performed
returns-clause-performed g c =
    check_does c.args.file.now c.in_ok-text.text c.as_slice.result.now _ _ c.check_text.result c.in_ok-text.ensures.loaded c.as_slice.ensures c.check_text.ensures

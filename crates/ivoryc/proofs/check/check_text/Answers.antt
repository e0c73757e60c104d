use Rattle.std.proofs.Common.{◌≡◌, ◌∙◌, ap, Err, refl}
use Rattle.std.proofs.lemmas.Result.{err_from_is_err_and}
use Rattle.ivoryc.specs.Allowed.{Gives}
use Rattle.ivoryc.specs.Texts.{ok_line}
use Rattle.ivoryc.specs.ModuleAnswers.{Checks, checked, not_checked}
use Rattle.ivoryc.proofs.TextSteps.{none_does, written_does}
use Rattle.ivoryc.proofs.check.check_text.Goals as goal

pub returns-in_err-read_well_typed : goal.returns-in_err-read_well_typed
returns-in_err-read_well_typed g c =
    let p = err_from_is_err_and c.from_residual.result c.from_residual.ensures.1 in
    let e : c.from_residual.result ≡ Err c.in_err-read_well_typed.field-0.0 = p.1 ∙ ap Err p.2 in
    rw e (none_does (Checks c.args.text.now) c.args.text.now _ c.in_err-read_well_typed.field-0.0 (λ s line not. not_checked not) c.in_err-read_well_typed.ensures refl)

pub returns : goal.returns
returns g c = written_does (Checks c.args.text.now) _ (Gives ok_line) ok_line c.put.result (checked c.in_ok-read_well_typed.ensures) refl c.put.ensures

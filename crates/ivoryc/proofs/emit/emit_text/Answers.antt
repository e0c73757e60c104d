use Rattle.std.proofs.Common.{◌≡◌, ◌∙◌, ap, Err, refl}
use Rattle.std.proofs.lemmas.Result.{err_from_is_err_and}
use Rattle.ivoryc.proofs.TextSteps.{no_unit_does, compiled_does}
use Rattle.ivoryc.proofs.emit.emit_text.Goals as goal

pub returns-in_err-unit : goal.returns-in_err-unit
returns-in_err-unit g c =
    let p = err_from_is_err_and c.from_residual.result c.from_residual.ensures.1 in
    let e : c.from_residual.result ≡ Err c.in_err-unit.field-0.0 = p.1 ∙ ap Err p.2 in
    rw e (no_unit_does c.args.text.now _ c.in_err-unit.field-0.0 c.in_err-unit.ensures refl)

pub returns : goal.returns
returns g c = compiled_does c.args.text.now _ c.in_ok-unit.unit c.write-written.result c.in_ok-unit.ensures c.write-written.ensures

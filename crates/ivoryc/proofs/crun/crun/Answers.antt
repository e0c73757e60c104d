use Rattle.std.proofs.Common.{◌≡◌, ◌∙◌, ap, Err, refl}
use Rattle.std.proofs.lemmas.Result.{err_from_is_err_and}
use Rattle.c_reader.specs.Answers.{text_limit}
use Rattle.ivoryc.specs.declared.command.Command.TheVariants.{CRun}
use Rattle.ivoryc.proofs.Steps.{two_loads, crun_unloaded, crun_does}
use Rattle.ivoryc.proofs.crun.crun.Goals as goal

pub returns-in_err-text-clause-loads : goal.returns-in_err-text-clause-loads
returns-in_err-text-clause-loads g c = two_loads (CRun c.args.file.now c.args.script.now c.args.steps) c.args.file.now text_limit _ refl (λ files. refl) c.in_err-text.ensures.loads

pub returns-in_err-text-clause-performed : goal.returns-in_err-text-clause-performed
returns-in_err-text-clause-performed g c =
    let p = err_from_is_err_and c.from_residual.result c.from_residual.ensures.1 in
    let e : c.from_residual.result ≡ Err c.in_err-text.field-0.0 = p.1 ∙ ap Err p.2 in
    rw e (crun_unloaded c.args.file.now c.args.script.now c.args.steps _ _ c.in_err-text.field-0.0 c.in_err-text.ensures.loaded refl)

pub returns-clause-loads : goal.returns-clause-loads
returns-clause-loads g c = two_loads (CRun c.args.file.now c.args.script.now c.args.steps) c.args.file.now text_limit _ refl (λ files. refl) c.in_ok-text.ensures.loads

pub returns-clause-performed : goal.returns-clause-performed
returns-clause-performed g c =
    crun_does c.args.file.now c.args.script.now c.in_ok-text.text c.in_ok-text.said c.as_slice.result.now c.as_slice-2.result.now c.args.steps _ _ c.run_texts.result
    c.in_ok-text.ensures.loaded c.as_slice.ensures c.as_slice-2.ensures c.run_texts.ensures

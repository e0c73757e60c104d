use Rattle.std.proofs.Common.{◌≡◌, ◌∙◌, ap, subst, List, Err, refl}
use Rattle.std.proofs.lemmas.Result.{err_from_is_err_and}
use Rattle.run_records.specs.declared.Export.{Export}
use Rattle.c_ast.specs.Exports.{c_exports}
use Rattle.c_ast.specs.View.{unit_of}
use Rattle.ivoryc.specs.RunAnswers.{RunsUnit, c_ran, unit_report}
use Rattle.ivoryc.specs.Steps.{IsScript, ScriptFor}
use Rattle.ivoryc.proofs.TextSteps.{c_unread_does, script_does, run_written}
use Rattle.ivoryc.proofs.crun.run_texts.Goals as goal

pub returns-in_err-unit : goal.returns-in_err-unit
returns-in_err-unit g c =
    let p = err_from_is_err_and c.from_residual.result c.from_residual.ensures.1 in
    let e : c.from_residual.result ≡ Err c.in_err-unit.field-0.0 = p.1 ∙ ap Err p.2 in
    rw e (c_unread_does c.args.text.now c.args.said.now c.args.steps _ c.in_err-unit.field-0.0 c.in_err-unit.ensures refl)

pub returns-in_err-script : goal.returns-in_err-script
returns-in_err-script g c =
    let p = err_from_is_err_and c.from_residual-in_err-script.result c.from_residual-in_err-script.ensures.1 in
    let e : c.from_residual-in_err-script.result ≡ Err c.in_err-script.field-0.0 = p.1 ∙ ap Err p.2 in
    let u = unit_of c.in_ok-unit.unit in
    let Of : List Export → Type 0 = λ x. ScriptFor x c.args.said.now (Err c.in_err-script.field-0.0) in
    rw e
    (script_does (RunsUnit c.args.text.now c.args.said.now c.args.steps) (c_exports u) (unit_report u c.args.steps) c.args.said.now _ c.in_err-script.field-0.0
    (λ a is. c_ran c.in_ok-unit.ensures is) (subst Of c.in_ok-exports.ensures c.in_err-script.ensures) refl)

pub returns : goal.returns
returns g c =
    let u = unit_of c.in_ok-unit.unit in
    let Of : List Export → Type 0 = λ x. IsScript x c.args.said.now c.in_ok-script.script in
    run_written (RunsUnit c.args.text.now c.args.said.now c.args.steps) (c_exports u) (unit_report u c.args.steps) c.args.said.now _ c.in_ok-script.script c.run_unit.result
    (λ a is. c_ran c.in_ok-unit.ensures is) (subst Of c.in_ok-exports.ensures c.in_ok-script.ensures) c.run_unit.ensures

use Rattle.std.proofs.Common.{◌≡◌, ◌∙◌, ap, subst, List, Err, refl}
use Rattle.std.proofs.lemmas.Result.{err_from_is_err_and}
use Rattle.run_records.specs.declared.Export.{Export}
use Rattle.core_tree.specs.Cores.{core_of}
use Rattle.core_tree.specs.Exports.{exports_of}
use Rattle.ivoryc.specs.RunAnswers.{RunsModule, ran, not_ran, module_report}
use Rattle.ivoryc.specs.Steps.{IsScript, ScriptFor}
use Rattle.ivoryc.proofs.TextSteps.{none_does, script_does, run_written}
use Rattle.ivoryc.proofs.run.run_texts.Goals as goal

pub returns-in_err-core : goal.returns-in_err-core
returns-in_err-core g c =
    let p = err_from_is_err_and c.from_residual.result c.from_residual.ensures.1 in
    let e : c.from_residual.result ≡ Err c.in_err-core.field-0.0 = p.1 ∙ ap Err p.2 in
    rw e
    (none_does (RunsModule c.args.text.now c.args.said.now c.args.steps) c.args.text.now _ c.in_err-core.field-0.0 (λ s line not. not_ran not) c.in_err-core.ensures refl)

pub returns-in_err-script : goal.returns-in_err-script
returns-in_err-script g c =
    let p = err_from_is_err_and c.from_residual-in_err-script.result c.from_residual-in_err-script.ensures.1 in
    let e : c.from_residual-in_err-script.result ≡ Err c.in_err-script.field-0.0 = p.1 ∙ ap Err p.2 in
    let m = core_of c.in_ok-core.core in
    let Of : List Export → Type 0 = λ x. ScriptFor x c.args.said.now (Err c.in_err-script.field-0.0) in
    rw e
    (script_does (RunsModule c.args.text.now c.args.said.now c.args.steps) (exports_of m) (module_report m c.args.steps) c.args.said.now _ c.in_err-script.field-0.0
    (λ a is. ran c.in_ok-core.ensures is) (subst Of c.in_ok-exports.ensures c.in_err-script.ensures) refl)

pub returns : goal.returns
returns g c =
    let m = core_of c.in_ok-core.core in
    let Of : List Export → Type 0 = λ x. IsScript x c.args.said.now c.in_ok-script.script in
    run_written (RunsModule c.args.text.now c.args.said.now c.args.steps) (exports_of m) (module_report m c.args.steps) c.args.said.now _ c.in_ok-script.script c.run_core.result
    (λ a is. ran c.in_ok-core.ensures is) (subst Of c.in_ok-exports.ensures c.in_ok-script.ensures) c.run_core.ensures

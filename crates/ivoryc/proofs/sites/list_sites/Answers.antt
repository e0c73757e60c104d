use Rattle.std.proofs.Common.{◌≡◌, ◌∙◌, ap, map, Err, refl}
use Rattle.std.proofs.lemmas.Result.{err_from_is_err_and}
use Rattle.contract_checks.specs.Sites.{check_of}
use Rattle.ivoryc.specs.Texts.{sites_text}
use Rattle.ivoryc.specs.Allowed.{Gives}
use Rattle.ivoryc.specs.ModuleAnswers.{ListsSites, listed, not_listed}
use Rattle.ivoryc.proofs.TextSteps.{none_does, written_does}
use Rattle.ivoryc.proofs.sites.list_sites.Goals as goal

pub returns-in_err-core : goal.returns-in_err-core
returns-in_err-core g c =
    let p = err_from_is_err_and c.from_residual.result c.from_residual.ensures.1 in
    let e : c.from_residual.result ≡ Err c.in_err-core.field-0.0 = p.1 ∙ ap Err p.2 in
    rw e (none_does (ListsSites c.args.text.now) c.args.text.now _ c.in_err-core.field-0.0 (λ s line not. not_listed not) c.in_err-core.ensures refl)

pub returns : goal.returns
returns g c =
    let checks = map check_of c.in_ok-sites.sites in
    written_does (ListsSites c.args.text.now) _ (Gives (sites_text c.args.text.now checks)) c.as_slice.result.now c.put.result
    (listed c.in_ok-core.ensures c.in_ok-sites.ensures) (c.as_slice.ensures ∙ c.in_ok-lines.ensures) c.put.ensures

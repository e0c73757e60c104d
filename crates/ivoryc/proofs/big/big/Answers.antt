use Rattle.std.proofs.Common.{◌≡◌, ◌∙◌, ap, ◌++◌, length, Err, refl}
use Rattle.std.proofs.lemmas.Result.{err_from_is_err_and}
use Rattle.core_tree.specs.Cores.{core_of}
use Rattle.ivoryc.specs.Texts.{size_text}
use Rattle.ivoryc.proofs.TextSteps.{big_none_does, big_does}
use Rattle.ivoryc.proofs.big.big.Goals as goal

pub returns-in_err-core : goal.returns-in_err-core
returns-in_err-core g c =
    let p = err_from_is_err_and c.from_residual-in_err-core.result c.from_residual-in_err-core.ensures.1 in
    let e : c.from_residual-in_err-core.result ≡ Err c.in_err-core.field-0.0 = p.1 ∙ ap Err p.2 in
    rw e (big_none_does c.args.k c.as_slice.result.now _ c.in_err-core.field-0.0 (c.as_slice.ensures ∙ c.in_ok-text.ensures) c.in_err-core.ensures refl)

pub returns : goal.returns
returns g c =
    let sizes = size_text c.args.k (length c.in_ok-text.text) (length c.in_ok-sites.sites) in
    let head : c.as_bytes.result.now ≡ sizes = c.as_bytes.ensures.value ∙ c.deref.ensures.0 ∙ c.sizes.ensures in
    let whole : c.as_slice-3.result.now ≡ sizes ++ c.in_ok-report.report =
    c.as_slice-3.ensures ∙ c.in_ok-whole.ensures ∙ ap (λ h. h ++ c.as_slice-2.result.now) head ∙ ap (λ r. sizes ++ r) c.as_slice-2.ensures in
    big_does c.args.k c.in_ok-text.text c.as_slice.result.now c.in_ok-report.report c.as_slice-3.result.now (core_of c.in_ok-core.core) c.in_ok-sites.sites _ c.put.result
    c.in_ok-text.ensures c.as_slice.ensures c.in_ok-core.ensures c.in_ok-sites.ensures whole c.in_ok-report.ensures c.put.ensures

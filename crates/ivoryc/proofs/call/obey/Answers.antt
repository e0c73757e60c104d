use Rattle.std.proofs.Common.{◌≡◌, ◌∙◌, sym, ap, Err, refl}
use Rattle.std.proofs.lemmas.Result.{err_from_is_err_and}
use Rattle.ivoryc.specs.Steps.{Ran}
use Rattle.ivoryc.specs.declared.refusal.Refusal.TheVariants as refusal
use Rattle.ivoryc.proofs.call.obey.Goals as goal

pub returns-in_err-command : goal.returns-in_err-command
returns-in_err-command g c =
    let p = err_from_is_err_and c.from_residual.result c.from_residual.ensures.1 in
    let e : c.from_residual.result ≡ Err refusal.Memory = p.1 ∙ ap Err p.2 in
    rw e (Ran.no_memory refl refl)

pub returns-in-Some : goal.returns-in-Some
returns-in-Some g c = Ran.performed c.in-Some.command (sym c.in_ok-command.ensures.found ∙ c.in-Some.is) c.perform.ensures.loads c.perform.ensures.performed

pub returns-in-None : goal.returns-in-None
returns-in-None g c = Ran.no_command (sym c.in_ok-command.ensures.found ∙ c.in-None.is) refl refl

use Rattle.std.proofs.Common.{◌≡◌, ◌∙◌, ap, Err}
use Rattle.std.proofs.lemmas.Result.{err_from_is_err_and}
use Rattle.ivoryc.specs.Causes.{refusal_of_text}
use Rattle.ivoryc.proofs.TextSteps.{unread_is_none}
use Rattle.ivoryc.proofs.read.read_core.Goals as goal

pub returns-in_err-tree : goal.returns-in_err-tree
returns-in_err-tree c =
    let p = err_from_is_err_and c.from_residual.result c.from_residual.ensures.1 in
    let e : c.from_residual.result ≡ Err (refusal_of_text c.in_err-tree.field-0.0) = p.1 ∙ ap Err p.2 in
    rw e (unread_is_none c.args.text.now c.in_err-tree.field-0.0 c.in_err-tree.ensures.read)

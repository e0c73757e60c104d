use Rattle.std.proofs.Common.{◌≡◌, ◌∙◌, ap, Err}
use Rattle.std.proofs.lemmas.Result.{err_from_is_err_and}
use Rattle.ivory_tree.specs.View.{module_of}
use Rattle.first_form.proofs.Sound.{valid}
use Rattle.ivoryc.specs.Causes.{refusal_of_text}
use Rattle.ivoryc.proofs.ModuleTexts.{no_form_of_tree}
use Rattle.ivoryc.proofs.TextSteps.{unread_is_no_unit}
use Rattle.ivoryc.proofs.emit.compile.Goals as goal

pub returns-in_err-tree : goal.returns-in_err-tree
returns-in_err-tree c =
    let p = err_from_is_err_and c.from_residual.result c.from_residual.ensures.1 in
    let e : c.from_residual.result ≡ Err (refusal_of_text c.in_err-tree.field-0.0) = p.1 ∙ ap Err p.2 in
    rw e (unread_is_no_unit c.args.text.now c.in_err-tree.field-0.0 c.in_err-tree.ensures.read)

pub lower-requires : goal.lower-requires
lower-requires c =
    valid (module_of c.in_ok-tree.tree) c.in-Some.module c.in_ok-tree.ensures.of_text.text_like (rw c.in-Some.is at c.in_ok-module.ensures.found)

pub why_not-requires-clause-none : goal.why_not-requires-clause-none
why_not-requires-clause-none c =
    no_form_of_tree c.args.text.now c.in_ok-tree.tree c.in_ok-tree.ensures.read (rw c.in-None.is at c.in_ok-module.ensures.none)

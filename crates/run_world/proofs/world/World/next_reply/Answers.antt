use Rattle.run_records.specs.Scripts.{values_fit}
use Rattle.run_world.proofs.Rests.{no_reply, some_reply, fit_reply, unfit_reply}
use Rattle.std.proofs.Common.{◌≡◌, ◌∙◌, get_or, sym, ap, subst, arith}
use Rattle.run_world.proofs.world.World.next_reply.Goals as goal

pub returns-then-self-len : goal.returns-then-self-len
returns-then-self-len c = no_reply c.args.shape.now c.args.self.now.replies c.args.self.now.taken _ _ (omega arith)

pub returns-then-values_fit : goal.returns-then-values_fit
returns-then-values_fit c =
    let s = c.args.self.now in
    let v = c.in_ok-values.values in
    let found : v ≡ get_or s.replies s.taken v =
    subst (λ x. x ≡ get_or s.replies s.taken x) (sym c.in_ok-values.ensures) (c.index-deref-self.is ∙ ap (λ xs. get_or xs s.taken c.index-deref-self.result) c.deref.ensures) in
    some_reply c.args.shape.now s.replies s.taken s.steps s.events v (omega arith) found
    ∙ fit_reply c.args.shape.now v s.steps _ (ap (values_fit c.args.shape.now) (sym c.as_slice.ensures) ∙ sym c.values_fit.ensures ∙ c.if-values_fit.true)

pub returns-else-values_fit : goal.returns-else-values_fit
returns-else-values_fit c =
    let s = c.args.self.now in
    let v = c.in_ok-values.values in
    let found : v ≡ get_or s.replies s.taken v =
    subst (λ x. x ≡ get_or s.replies s.taken x) (sym c.in_ok-values.ensures) (c.index-deref-self.is ∙ ap (λ xs. get_or xs s.taken c.index-deref-self.result) c.deref.ensures) in
    some_reply c.args.shape.now s.replies s.taken s.steps s.events v (omega arith) found
    ∙ unfit_reply c.args.shape.now v s.steps _ (ap (values_fit c.args.shape.now) (sym c.as_slice.ensures) ∙ sym c.values_fit.ensures ∙ c.if-values_fit.false)

-- The type that an expression carries.
use Rattle.std.proofs.Common.{◌≡◌, refl, ap, ◌∙◌}
use Rattle.area_types.specs.View as types
use Rattle.core_tree.specs.Syntax.{Label, ExprCore, label_of, type_of}
use Rattle.core_tree.specs.View.{LinkCore, StepCore, kind_step, step_step, kind_of, expr_of, link_of, step_of}
use Rattle.core_tree.specs.declared.CoreExpr.{CoreExpr, fold_out-CoreExpr}
use Rattle.core_tree.specs.declared.CoreKind.{CoreKind, map-CoreKind, out-CoreKind, fold_out-CoreKind}
use Rattle.core_tree.specs.declared.CoreLink.{CoreLink}
use Rattle.core_tree.specs.declared.CoreStep.{CoreStep}
use Rattle.core_tree.specs.declared.CoreKind.TheOpen.{CoreKind-F}
use Rattle.core_tree.proofs.View.{label}

labelled : (z : CoreKind-F (Label → ExprCore) StepCore ExprCore LinkCore) (l : Label) → label_of (kind_step z l) ≡ l
labelled (CoreKind-F.Number value) l = refl
labelled CoreKind-F.Outcome l = refl
labelled (CoreKind-F.Local number) l = refl
labelled (CoreKind-F.AreaName number) l = refl
labelled (CoreKind-F.Cast e) l = refl
labelled (CoreKind-F.ToIx e) l = refl
labelled (CoreKind-F.WrapIx e) l = refl
labelled (CoreKind-F.MakeBits e) l = refl
labelled (CoreKind-F.Raw e) l = refl
labelled (CoreKind-F.Set e field value) l = refl
labelled (CoreKind-F.Prefix op e) l = refl
labelled (CoreKind-F.Chain first links) l = refl
labelled (CoreKind-F.Postfix base steps) l = refl
labelled (CoreKind-F.Cond test first second) l = refl

pub type_is : (e : CoreExpr) → type_of (expr_of e) ≡ types.type_of e.ty
type_is e =
    ap type_of (fold_out-CoreExpr (Label → ExprCore) StepCore ExprCore LinkCore kind_step step_step (λ x. x.kind (record { ty = types.type_of x.ty; checks = x.checks })) (λ l. record { label = record { ty = types.type_of l.ty; checks = l.checks }; op = l.op; right = l.right }) e)
    ∙ ap (λ (f : Label → ExprCore). type_of (f (label e.ty e.checks))) (fold_out-CoreKind (Label → ExprCore) StepCore ExprCore LinkCore kind_step step_step (λ x. x.kind (record { ty = types.type_of x.ty; checks = x.checks })) (λ l. record { label = record { ty = types.type_of l.ty; checks = l.checks }; op = l.op; right = l.right }) e.kind)
    ∙ ap (λ (l : Label). l.ty) (labelled (map-CoreKind CoreKind CoreStep CoreExpr CoreLink (Label → ExprCore) StepCore ExprCore LinkCore kind_of step_of expr_of link_of (out-CoreKind e.kind)) (label e.ty e.checks))

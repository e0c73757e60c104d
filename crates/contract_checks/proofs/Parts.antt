-- The checks of a chain are those of its operand and then of its links, and likewise of a postfix.
use Rattle.std.proofs.Common.{◌≡◌, List, [], ◌∷◌, ◌++◌, map, refl, sym, ap, ◌∙◌}
use Rattle.std.proofs.lemmas.List.{append_assoc, append-nil}
use Rattle.core_tree.specs.declared.Check.{Check}
use Rattle.core_tree.specs.Syntax.{ExprCore, Binary}
use Rattle.core_tree.specs.Checks.{expr_checks}
use Rattle.core_tree.specs.View.{LinkCore, StepCore, FieldStep, IndexStep, linked, stepped, part_of, expr_of, link_of, step_of}
use Rattle.core_tree.specs.declared.CoreExpr.{CoreExpr}
use Rattle.core_tree.specs.declared.CoreLink.{CoreLink}
use Rattle.core_tree.specs.declared.CoreStep.{CoreStep}
use Rattle.core_tree.specs.declared.CoreKind.TheVariants as expr
use Rattle.core_tree.proofs.View.{expr_with, chain_is, postfix_is, cond_is}
use Rattle.contract_checks.specs.Parts.{links_checks, step_checks, steps_checks}

pub linked_checks : (first : ExprCore) (links : List LinkCore) → expr_checks (linked first links) ≡ expr_checks first ++ links_checks links
linked_checks first [] = sym (append-nil (expr_checks first))
linked_checks first (l ∷ links) = linked_checks (Binary l.label l.op first l.right) links ∙ append_assoc (expr_checks first) (l.label.checks ++ expr_checks l.right) (links_checks links)

pub part_checks : (base : ExprCore) (step : StepCore) → expr_checks (part_of base step) ≡ expr_checks base ++ step_checks step
part_checks base (FieldStep ty field) = refl
part_checks base (IndexStep ty index) = refl

pub stepped_checks : (base : ExprCore) (steps : List StepCore) → expr_checks (stepped base steps) ≡ expr_checks base ++ steps_checks steps
stepped_checks base [] = sym (append-nil (expr_checks base))
stepped_checks base (t ∷ steps) =
    stepped_checks (part_of base t) steps
    ∙ ap (λ cs. cs ++ steps_checks steps) (part_checks base t)
    ∙ append_assoc (expr_checks base) (step_checks t) (steps_checks steps)

-- ---- of expressions of the code

pub chain_checks : (e : CoreExpr) (first : CoreExpr) (links : List CoreLink) → e.kind ≡ expr.Chain first links → expr_checks (expr_of e) ≡ expr_checks (expr_of first) ++ links_checks (map link_of links) ++ e.checks
chain_checks e first links is = ap expr_checks (ap (λ k. expr_with k e.ty e.checks) is ∙ chain_is first links e.ty e.checks) ∙ ap (λ cs. cs ++ e.checks) (linked_checks (expr_of first) (map link_of links))

pub postfix_checks : (e : CoreExpr) (base : CoreExpr) (steps : List CoreStep) → e.kind ≡ expr.Postfix base steps → expr_checks (expr_of e) ≡ expr_checks (expr_of base) ++ steps_checks (map step_of steps) ++ e.checks
postfix_checks e base steps is = ap expr_checks (ap (λ k. expr_with k e.ty e.checks) is ∙ postfix_is base steps e.ty e.checks) ∙ ap (λ cs. cs ++ e.checks) (stepped_checks (expr_of base) (map step_of steps))

pub cond_checks : (e : CoreExpr) (test first second : CoreExpr) → e.kind ≡ expr.Cond test first second → expr_checks (expr_of e) ≡ expr_checks (expr_of test) ++ (e.checks ++ expr_checks (expr_of first)) ++ expr_checks (expr_of second)
cond_checks e test first second is =
    ap expr_checks (ap (λ k. expr_with k e.ty e.checks) is ∙ cond_is test first second e.ty e.checks)
    ∙ sym (append_assoc (expr_checks (expr_of test)) (e.checks ++ expr_checks (expr_of first)) (expr_checks (expr_of second)) ∙ ap (λ cs. expr_checks (expr_of test) ++ cs) (append_assoc e.checks (expr_checks (expr_of first)) (expr_checks (expr_of second))))

-- three parts, added one after another
pub three : (f f1 f2 f3 a b c all : List Check) → f1 ≡ f ++ a → f2 ≡ f1 ++ b → f3 ≡ f2 ++ c → all ≡ a ++ b ++ c → f3 ≡ f ++ all
three f f1 f2 f3 a b c all e1 e2 e3 e =
    e3 ∙ ap (λ x. x ++ c) e2 ∙ ap (λ x. (x ++ b) ++ c) e1 ∙ ap (λ x. x ++ c) (append_assoc f a b) ∙ append_assoc f (a ++ b) c ∙ ap (λ x. f ++ x) (sym e)

-- What a match that found another form tells of the abstract syntax.
use Rattle.std.proofs.Common.{◌≡◌, ℕ, pos, false, List, [], ◌∷◌, map, ap, refl, sym, ◌∙◌, subst}
use Rattle.iv_words.specs.declared.IntKind.{IntKind}
use Rattle.iv_words.specs.declared.Span.{Span}
use Rattle.ivory_tree.specs.Syntax as syntax
use Rattle.ivory_tree.specs.Syntax.{TypeSyntax, AreaSyntax, ExprSyntax}
use Rattle.ivory_tree.specs.Places.{expr_span}
use Rattle.ivory_tree.specs.View.{RefSyntax, type_step, area_step, type_kind_of, area_kind_of, ref_of, type_of, area_of, LinkSyntax, StepSyntax, FieldStep, IndexStep, prefix_span, linked, chain_from, step_span, part_of, stepped, postfix_from, expr_step, step_step, expr_kind_of, expr_of, link_of, step_of}
use Rattle.ivory_tree.specs.declared.types.TypeText.{TypeText, fold_out-TypeText}
use Rattle.ivory_tree.specs.declared.types.TypeKind.{TypeKind, map-TypeKind, out-TypeKind, roll-TypeKind, roll-out-TypeKind, fold_out-TypeKind}
use Rattle.ivory_tree.specs.declared.types.TypeKind.TheVariants as type
use Rattle.ivory_tree.specs.declared.types.AreaKind.TheOpen.{TypeKind-F}
use Rattle.ivory_tree.specs.declared.types.RefText.{RefText}
use Rattle.ivory_tree.specs.declared.types.AreaText.{AreaText}
use Rattle.ivory_tree.specs.declared.types.AreaKind.{AreaKind}
use Rattle.ivory_tree.specs.declared.expr.Expr.{Expr, fold_out-Expr}
use Rattle.ivory_tree.specs.declared.expr.ExprKind.{ExprKind, map-ExprKind, out-ExprKind, roll-ExprKind, roll-out-ExprKind, fold_out-ExprKind}
use Rattle.ivory_tree.specs.declared.expr.ExprKind.TheVariants as expr
use Rattle.ivory_tree.specs.declared.expr.ExprKind.TheOpen.{ExprKind-F}
use Rattle.ivory_tree.specs.declared.expr.Link.{Link}
use Rattle.ivory_tree.specs.declared.expr.Step.{Step}
use Rattle.first_form.specs.Stands.{is_uint8, ByteStands}

-- ---- types

-- what a form of a type says at a place
type_said : TypeKind-F AreaKind TypeKind AreaText RefText TypeText → Span → TypeSyntax
type_said z s = type_step (map-TypeKind AreaKind TypeKind AreaText RefText TypeText (Span → AreaSyntax) (Span → TypeSyntax) AreaSyntax RefSyntax TypeSyntax area_kind_of type_kind_of area_of ref_of type_of z) s

type_opened : (t : TypeText) → type_of t ≡ type_said (out-TypeKind t.kind) t.span
unfolding type_said
type_opened t =
    fold_out-TypeText (Span → AreaSyntax) (Span → TypeSyntax) AreaSyntax RefSyntax TypeSyntax area_step type_step (λ a. a.kind a.span) (λ r. record { constant = r.constant; region = r.region; area = r.area }) (λ t. t.kind t.span) t
    ∙ ap (λ (f : Span → TypeSyntax). f t.span) (fold_out-TypeKind (Span → AreaSyntax) (Span → TypeSyntax) AreaSyntax RefSyntax TypeSyntax area_step type_step (λ a. a.kind a.span) (λ r. record { constant = r.constant; region = r.region; area = r.area }) (λ t. t.kind t.span) t.kind)

no_uint8 : (z : TypeKind-F AreaKind TypeKind AreaText RefText TypeText) (s : Span) → ((kind : IntKind) → z ≡ TypeKind-F.Int kind → ⊥) → is_uint8 (type_said z s) ≡ false
unfolding type_said
no_uint8 (TypeKind-F.Int kind) s no_int = absurd (no_int kind refl)
no_uint8 z s no_int = refl

pub other_type : (t : TypeText) → ((kind : IntKind) → t.kind ≡ type.Int kind → ⊥) → is_uint8 (type_of t) ≡ false
other_type t no_int =
    ap is_uint8 (type_opened t)
    ∙ no_uint8 (out-TypeKind t.kind) t.span (λ kind e. no_int kind (sym (roll-out-TypeKind t.kind) ∙ ap roll-TypeKind e ∙ type.rolls-Int kind))

-- ---- expressions; a chain is never a literal, and nor is a postfix

expr_said : ExprKind-F ExprKind Step Expr Link → Span → ExprSyntax
expr_said z s = expr_step (map-ExprKind ExprKind Step Expr Link (Span → ExprSyntax) StepSyntax ExprSyntax LinkSyntax expr_kind_of step_of expr_of link_of z) s

expr_opened : (e : Expr) → expr_of e ≡ expr_said (out-ExprKind e.kind) e.span
unfolding expr_said
expr_opened e =
    fold_out-Expr (Span → ExprSyntax) StepSyntax ExprSyntax LinkSyntax expr_step step_step (λ e. e.kind e.span) (λ l. record { op = l.op; at = l.at; right = l.right }) e
    ∙ ap (λ (f : Span → ExprSyntax). f e.span) (fold_out-ExprKind (Span → ExprSyntax) StepSyntax ExprSyntax LinkSyntax expr_step step_step (λ e. e.kind e.span) (λ l. record { op = l.op; at = l.at; right = l.right }) e.kind)

no_chain : (s : Span) (left : ExprSyntax) (l : LinkSyntax) (ls : List LinkSyntax) (v : ℕ) → ByteStands (linked s left (l ∷ ls)) v → ⊥
no_chain s left l [] v h = h
no_chain s left l (k ∷ ls) v h = no_chain s (syntax.Binary (prefix_span s (expr_span l.right) (k ∷ ls)) l.op l.at left l.right) k ls v h

no_links : (s : Span) (first : ExprSyntax) (ls : List LinkSyntax) (v : ℕ) → ByteStands (chain_from s first ls) v → ⊥
no_links s first [] v h = h
no_links s first (l ∷ ls) v h = no_chain s first l ls v h

no_part : (s : Span) (base : ExprSyntax) (t : StepSyntax) (ts : List StepSyntax) (v : ℕ) → ByteStands (stepped s base (t ∷ ts)) v → ⊥
no_part s base (FieldStep field) [] v h = h
no_part s base (IndexStep index brackets) [] v h = h
no_part s base t (u ∷ ts) v h = no_part s (part_of (prefix_span s (step_span t) (u ∷ ts)) base t) u ts v h

no_steps : (s : Span) (base : ExprSyntax) (ts : List StepSyntax) (v : ℕ) → ByteStands (postfix_from s base ts) v → ⊥
no_steps s base [] v h = h
no_steps s base (t ∷ ts) v h = no_part s base t ts v h

only_literal : (z : ExprKind-F ExprKind Step Expr Link) (s : Span) (v : ℕ) → ByteStands (expr_said z s) v → z ≡ ExprKind-F.Lit (pos v)
unfolding expr_said
only_literal (ExprKind-F.Lit value) s v h = ap ExprKind-F.Lit h.0
only_literal (ExprKind-F.Chain first links) s v h = absurd (no_links s (expr_of first) (map link_of links) v h)
only_literal (ExprKind-F.Postfix base steps) s v h = absurd (no_steps s (expr_of base) (map step_of steps) v h)
only_literal z s v h = absurd h

pub byte_literal : (e : Expr) (v : ℕ) → ByteStands (expr_of e) v → e.kind ≡ expr.Lit (pos v)
byte_literal e v h =
    sym (roll-out-ExprKind e.kind) ∙ ap roll-ExprKind (only_literal (out-ExprKind e.kind) e.span v (subst (λ x. ByteStands x v) (expr_opened e) h)) ∙ expr.rolls-Lit (pos v)

-- The core of a postfix is what its steps give one after another.
use Rattle.std.proofs.Common.{◌≡◌, ℕ, List, [], ◌∷◌, Bool, true, false, Option, Some, None, option_and_then, nat_eq, eq-eqb, refl, ap, ap₂, ◌∙◌}
use Rattle.iv_words.specs.declared.Name.{Name}
use Rattle.iv_words.specs.declared.Span.{Span}
use Rattle.ivory_tree.specs.Syntax as syntax
use Rattle.ivory_tree.specs.Syntax.{ExprSyntax}
use Rattle.ivory_tree.specs.View.{StepSyntax, FieldStep, IndexStep, prefix_span, step_span, part_of, stepped}
use Rattle.area_types.specs.Syntax.{ValueType}
use Rattle.core_tree.specs.Syntax as core
use Rattle.core_tree.specs.Syntax.{ExprCore, type_of}
use Rattle.source_types.specs.Parts.{element_type, field_type}
use Rattle.source_types.specs.Environments.{Earlier}
use Rattle.rule_faults.specs.Types.{own_type}
use Rattle.typing_rules.specs.Environments.{Env}
use Rattle.typing_rules.specs.Contexts.{context_of}
use Rattle.typing_rules.specs.Sites.{unchecked}
use Rattle.typing_rules.specs.Wholes.{is_postfix_prefix, part}
use Rattle.typing_rules.specs.ExpressionCores.{type_or, number_or, number_in, own, core_of}
use Rattle.check_numbers.specs.Numbered.{expr_from, expr_after}
use Rattle.ivory_tree.specs.Places.{expr_span}
use Rattle.ivory_tree.specs.declared.BinOp.{BinOp}
use Rattle.core_maker.specs.Opened.{Form, AfterLink, AfterStep, closed, based, alone, opened, kept, first_of}
use Rattle.core_maker.specs.Postfixes.{step_own, index_core, with_step, after_step, after_steps, postfix_base, postfix_form, postfix_after, form_by}
use Rattle.core_maker.proofs.Parts.{part_from, whole_after}

alone_based : (b : Bool) (c : ExprCore) → c ≡ based (kept b (alone c) c)
alone_based true c = refl
alone_based false c = refl

step_based : (b : Bool) (u : ValueType) (y : ExprCore) → part b (core.Whole (unchecked u) y) ≡ based (kept b (record { core = y; tail = AfterStep u }) (core.Whole (unchecked u) y))
step_based true u y = refl
step_based false u y = refl

link_based : (b : Bool) (op : BinOp) (u : ValueType) (y : ExprCore) → core.Whole (unchecked u) y ≡ based (kept b (record { core = y; tail = AfterLink op u }) (core.Whole (unchecked u) y))
link_based true op u y = refl
link_based false op u y = refl

part_is : (env : Env) (w : ValueType) (n : ℕ) (s : Span) (e : ExprSyntax) → part (is_postfix_prefix s e) (expr_from n (core_of env w e)) ≡ postfix_base env w n s e
part_is env w n s (syntax.Field t e field) = step_based (nat_eq s.start t.start) _ _
part_is env w n s (syntax.Element t brackets e index) = step_based (nat_eq s.start t.start) _ _
part_is env w n s (syntax.Binary t op at left right) = link_based (nat_eq s.start t.start) op _ _
part_is env w n s (syntax.Literal t value) = alone_based (nat_eq s.start t.start) _
part_is env w n s (syntax.Truth t value) = alone_based (nat_eq s.start t.start) _
part_is env w n s (syntax.Outcome t) = alone_based (nat_eq s.start t.start) _
part_is env w n s (syntax.Variable t name) = alone_based (nat_eq s.start t.start) _
part_is env w n s (syntax.Cast t kind e) = alone_based (nat_eq s.start t.start) _
part_is env w n s (syntax.ToIndex t m e) = alone_based (nat_eq s.start t.start) _
part_is env w n s (syntax.WrapIndex t m e) = alone_based (nat_eq s.start t.start) _
part_is env w n s (syntax.MakeBits t name e) = alone_based (nat_eq s.start t.start) _
part_is env w n s (syntax.Raw t e) = alone_based (nat_eq s.start t.start) _
part_is env w n s (syntax.SetField t e field value) = alone_based (nat_eq s.start t.start) _
part_is env w n s (syntax.Prefix t mark e) = alone_based (nat_eq s.start t.start) _
part_is env w n s (syntax.Cond t test first second) = alone_based (nat_eq s.start t.start) _
part_is env w n s (syntax.Bare t e) = alone_based (nat_eq s.start t.start) _

alike : (s p : Span) (e : ExprSyntax) (c : ExprCore) → p.start ≡ s.start → first_of p e c ≡ first_of s e c
alike s p e c h = ap (λ (x : ℕ). kept (nat_eq x (expr_span e).start) (opened e c) c) h

after_part : (env : Env) (w : ValueType) (n : ℕ) (s : Span) (e : ExprSyntax) → expr_after n (part (is_postfix_prefix s e) (core_of env w e)) ≡ expr_after n (core_of env w e)
after_part env w n s (syntax.Field t e field) = whole_after n (nat_eq s.start t.start) _ _
after_part env w n s (syntax.Element t brackets e index) = whole_after n (nat_eq s.start t.start) _ _
after_part env w n s (syntax.Literal t value) = refl
after_part env w n s (syntax.Truth t value) = refl
after_part env w n s (syntax.Outcome t) = refl
after_part env w n s (syntax.Variable t name) = refl
after_part env w n s (syntax.Cast t kind e) = refl
after_part env w n s (syntax.ToIndex t m e) = refl
after_part env w n s (syntax.WrapIndex t m e) = refl
after_part env w n s (syntax.MakeBits t name e) = refl
after_part env w n s (syntax.Raw t e) = refl
after_part env w n s (syntax.SetField t e field value) = refl
after_part env w n s (syntax.Prefix t op e) = refl
after_part env w n s (syntax.Binary t op at left right) = refl
after_part env w n s (syntax.Cond t test first second) = refl
after_part env w n s (syntax.Bare t e) = refl

field_own : (earlier : Earlier) (name : Name) (o : Option ValueType) → type_or (option_and_then (λ t. field_type earlier t name.text) o) ≡ type_or (field_type earlier (type_or o) name.text)
field_own earlier name None = refl
field_own earlier name (Some t) = refl

element_own : (o : Option ValueType) → type_or (option_and_then element_type o) ≡ type_or (element_type (type_or o))
element_own None = refl
element_own (Some t) = refl

own_part : (env : Env) (s : Span) (base : ExprSyntax) (t : StepSyntax) → own env (part_of s base t) ≡ step_own env (own env base) t
own_part env s base (FieldStep name) = field_own env.earlier name (own_type (context_of env) base)
own_part env s base (IndexStep index brackets) = element_own (own_type (context_of env) base)

-- ---- one step

abbrev base_of : Env → ValueType → ℕ → Span → ExprSyntax → ExprCore
base_of env w n s base = postfix_base env w n s base

one_step : (env : Env) (w : ValueType) (n : ℕ) (s : Span) (base : ExprSyntax) (t : StepSyntax)
    → expr_from n (core_of env w (part_of s base t)) ≡ core.Whole (unchecked (step_own env (own env base) t)) (with_step env (own env base) (expr_after n (core_of env w base)) (base_of env w n s base) t)
one_step env w n s base (FieldStep name) =
    ap₂ (λ (u : ValueType) (x : ExprCore). core.Whole (unchecked u) (core.Field (unchecked u) x (number_or (number_in env (own env base) name.text)))) (own_part env s base (FieldStep name))
    (part_from n (is_postfix_prefix s base) (core_of env w base) ∙ part_is env w n s base)
one_step env w n s base (IndexStep index brackets) =
    let i = index_core env (own env base) index in
    let prefix = part (is_postfix_prefix s base) (core_of env w base) in
    ap₂ (λ (u : ValueType) (x : ExprCore). core.Whole (unchecked u) (core.Element (unchecked u) x (expr_from (expr_after n prefix) i))) (own_part env s base (IndexStep index brackets))
    (part_from n (is_postfix_prefix s base) (core_of env w base) ∙ part_is env w n s base)
    ∙ ap (λ (m : ℕ). core.Whole (unchecked (type_or (element_type (own env base)))) (core.Element (unchecked (type_or (element_type (own env base)))) (base_of env w n s base) (expr_from m i))) (after_part env w n s base)

one_after : (env : Env) (w : ValueType) (n : ℕ) (s : Span) (base : ExprSyntax) (t : StepSyntax) → expr_after n (core_of env w (part_of s base t)) ≡ after_step env (own env base) (expr_after n (core_of env w base)) t
one_after env w n s base (FieldStep name) = after_part env w n s base
one_after env w n s base (IndexStep index brackets) = ap (λ (m : ℕ). expr_after m (index_core env (own env base) index)) (after_part env w n s base)

opened_part : (s : Span) (base : ExprSyntax) (t : StepSyntax) (c : ExprCore) → opened (part_of s base t) c ≡ record { core = part true c; tail = AfterStep (type_of c) }
opened_part s base (FieldStep name) c = refl
opened_part s base (IndexStep index brackets) c = refl

begins : (s p : Span) (base : ExprSyntax) (t : StepSyntax) → s.start ≡ p.start → nat_eq s.start (expr_span (part_of p base t)).start ≡ true
begins s p base (FieldStep name) h = eq-eqb s.start p.start h
begins s p base (IndexStep index brackets) h = eq-eqb s.start p.start h

-- what ends with a step, open
open_step : (env : Env) (w : ValueType) (n : ℕ) (s p : Span) (base : ExprSyntax) (t : StepSyntax) → s.start ≡ p.start → p.start ≡ s.start
    → first_of s (part_of p base t) (expr_from n (core_of env w (part_of p base t)))
    ≡ record { core = with_step env (own env base) (expr_after n (core_of env w base)) (base_of env w n s base) t; tail = AfterStep (step_own env (own env base) t) }
open_step env w n s p base t h k =
    let c = expr_from n (core_of env w (part_of p base t)) in
    ap (λ (b : Bool). kept b (opened (part_of p base t) c) c) (begins s p base t h)
    ∙ opened_part p base t c
    ∙ ap (λ (x : ExprCore). record { core = part true x; tail = AfterStep (type_of x) }) (one_step env w n p base t)
    ∙ ap (λ (f : Form). record { core = with_step env (own env base) (expr_after n (core_of env w base)) (based f) t; tail = AfterStep (step_own env (own env base) t) }) (alike s p base (expr_from n (core_of env w base)) k)

-- ---- all steps

pub record Steps (env : Env) (w : ValueType) (n : ℕ) (s : Span) (base : ExprSyntax) (ts : List StepSyntax) : Type 0 where
  pub form : first_of s (stepped s base ts) (expr_from n (core_of env w (stepped s base ts))) ≡ postfix_form env w n s base ts
  pub core : expr_from n (core_of env w (stepped s base ts)) ≡ closed (postfix_form env w n s base ts)
  pub after : expr_after n (core_of env w (stepped s base ts)) ≡ postfix_after env w n base ts
  pub opens : opened (stepped s base ts) (expr_from n (core_of env w (stepped s base ts))) ≡ postfix_form env w n s base ts

pub steps_are : (env : Env) (w : ValueType) (n : ℕ) (s : Span) (base : ExprSyntax) (t : StepSyntax) (ts : List StepSyntax) → Steps env w n s base (t ∷ ts)
steps_are env w n s base t [] = record {
  form = open_step env w n s s base t refl refl;
  core = one_step env w n s base t;
  after = one_after env w n s base t;
  opens = opened_part s base t (expr_from n (core_of env w (part_of s base t))) ∙ ap (λ (x : ExprCore). record { core = part true x; tail = AfterStep (type_of x) }) (one_step env w n s base t);
}
steps_are env w n s base t (u ∷ ts) =
    let p = prefix_span s (step_span t) (u ∷ ts) in
    let next = part_of p base t in
    let more = steps_are env w n s next u ts in
    let o = own env base in
    let m = expr_after n (core_of env w base) in
    let same : form_by env (u ∷ ts) (own env next) (expr_after n (core_of env w next)) (postfix_base env w n s next) ≡ postfix_form env w n s base (t ∷ u ∷ ts) =
    ap (λ (v : ValueType). form_by env (u ∷ ts) v (expr_after n (core_of env w next)) (postfix_base env w n s next)) (own_part env p base t)
    ∙ ap₂ (λ (k : ℕ) (x : ExprCore). form_by env (u ∷ ts) (step_own env o t) k x) (one_after env w n p base t) (ap based (open_step env w n s p base t refl refl)) in
    record {
      form = more.form ∙ same;
      core = more.core ∙ ap closed same;
      after = more.after ∙ ap₂ (λ (v : ValueType) (k : ℕ). after_steps env v k (u ∷ ts)) (own_part env p base t) (one_after env w n p base t);
      opens = more.opens ∙ same;
    }

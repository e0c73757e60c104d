-- The core of a chain is what its links give one after another.
use Rattle.std.proofs.Common.{◌≡◌, ℕ, List, [], ◌∷◌, Bool, true, false, cond, not, ◌&&◌, ◌||◌, Option, Some, nat_eq, eq-eqb, refl, ap, ap₂, ◌∙◌}
use Rattle.iv_words.specs.declared.Span.{Span}
use Rattle.ivory_tree.specs.Syntax as syntax
use Rattle.ivory_tree.specs.Syntax.{ExprSyntax, Binary}
use Rattle.ivory_tree.specs.Places.{expr_span}
use Rattle.ivory_tree.specs.View.{LinkSyntax, prefix_span, linked}
use Rattle.ivory_tree.specs.declared.BinOp.{BinOp}
use Rattle.area_types.specs.Syntax as types
use Rattle.area_types.specs.Syntax.{ValueType}
use Rattle.core_tree.specs.Syntax as core
use Rattle.core_tree.specs.Syntax.{ExprCore}
use Rattle.source_types.specs.Operators.{is_logic, gives_truth}
use Rattle.source_types.specs.Settled.{settled}
use Rattle.rule_faults.specs.Types.{own_type}
use Rattle.typing_rules.specs.Environments.{Env}
use Rattle.typing_rules.specs.Contexts.{context_of}
use Rattle.typing_rules.specs.Sites.{unchecked}
use Rattle.typing_rules.specs.Wholes.{level, is_chain_prefix, part}
use Rattle.core_tree.specs.Operators.{result_type}
use Rattle.typing_rules.specs.ExpressionCores.{type_or, own, operand, core_of}
use Rattle.check_numbers.specs.Numbered.{label_from, label_after, expr_from, expr_after}
use Rattle.core_maker.specs.Opened.{Form, AfterLink, AfterStep, closed, joined, alone, opened, kept, first_of}
use Rattle.core_maker.specs.Chains.{link_settled, link_own, want_of, link_label, with_link, after_link, with_links, after_links, first_want, chain_form, chain_after}
use Rattle.core_maker.proofs.Parts.{part_from, whole_after}

-- ---- what stands before a link

alike : (s p : Span) (e : ExprSyntax) (c : ExprCore) → p.start ≡ s.start → first_of p e c ≡ first_of s e c
alike s p e c h = ap (λ (x : ℕ). kept (nat_eq x (expr_span e).start) (opened e c) c) h

after_part : (env : Env) (w : ValueType) (n : ℕ) (s : Span) (op : BinOp) (e : ExprSyntax) → expr_after n (part (is_chain_prefix s op e) (core_of env w e)) ≡ expr_after n (core_of env w e)
after_part env w n s op (syntax.Binary t prior at left right) = whole_after n (nat_eq (level op) (level prior) && nat_eq s.start t.start) _ _
after_part env w n s op (syntax.Literal t value) = refl
after_part env w n s op (syntax.Truth t value) = refl
after_part env w n s op (syntax.Outcome t) = refl
after_part env w n s op (syntax.Variable t name) = refl
after_part env w n s op (syntax.Cast t kind e) = refl
after_part env w n s op (syntax.ToIndex t m e) = refl
after_part env w n s op (syntax.WrapIndex t m e) = refl
after_part env w n s op (syntax.MakeBits t name e) = refl
after_part env w n s op (syntax.Raw t e) = refl
after_part env w n s op (syntax.SetField t e field value) = refl
after_part env w n s op (syntax.Prefix t mark e) = refl
after_part env w n s op (syntax.Field t e field) = refl
after_part env w n s op (syntax.Element t brackets e index) = refl
after_part env w n s op (syntax.Cond t test first second) = refl
after_part env w n s op (syntax.Bare t e) = refl

alone_joined : (b : Bool) (op : BinOp) (c : ExprCore) → c ≡ joined op (kept b (alone c) c)
alone_joined true op c = refl
alone_joined false op c = refl

step_joined : (b : Bool) (op : BinOp) (u : ValueType) (y : ExprCore) → core.Whole (unchecked u) y ≡ joined op (kept b (record { core = y; tail = AfterStep u }) (core.Whole (unchecked u) y))
step_joined true op u y = refl
step_joined false op u y = refl

part_if : (a b : Bool) (t : ValueType) (y : ExprCore) → part (a && b) (core.Whole (unchecked t) y) ≡ cond b (cond a y (core.Whole (unchecked t) y)) (core.Whole (unchecked t) y)
part_if true true t y = refl
part_if true false t y = refl
part_if false true t y = refl
part_if false false t y = refl

joined_if : (b : Bool) (op prior : BinOp) (t : ValueType) (y : ExprCore) → cond b (cond (nat_eq (level op) (level prior)) y (core.Whole (unchecked t) y)) (core.Whole (unchecked t) y)
    ≡ joined op (kept b (record { core = y; tail = AfterLink prior t }) (core.Whole (unchecked t) y))
joined_if true op prior t y = refl
joined_if false op prior t y = refl

part_is : (env : Env) (w : ValueType) (n : ℕ) (s : Span) (op : BinOp) (e : ExprSyntax) → part (is_chain_prefix s op e) (expr_from n (core_of env w e)) ≡ joined op (first_of s e (expr_from n (core_of env w e)))
part_is env w n s op (syntax.Binary t prior at left right) = part_if (nat_eq (level op) (level prior)) (nat_eq s.start t.start) _ _ ∙ joined_if (nat_eq s.start t.start) op prior _ _
part_is env w n s op (syntax.Field t e field) = step_joined (nat_eq s.start t.start) op _ _
part_is env w n s op (syntax.Element t brackets e index) = step_joined (nat_eq s.start t.start) op _ _
part_is env w n s op (syntax.Literal t value) = alone_joined (nat_eq s.start t.start) op _
part_is env w n s op (syntax.Truth t value) = alone_joined (nat_eq s.start t.start) op _
part_is env w n s op (syntax.Outcome t) = alone_joined (nat_eq s.start t.start) op _
part_is env w n s op (syntax.Variable t name) = alone_joined (nat_eq s.start t.start) op _
part_is env w n s op (syntax.Cast t kind e) = alone_joined (nat_eq s.start t.start) op _
part_is env w n s op (syntax.ToIndex t m e) = alone_joined (nat_eq s.start t.start) op _
part_is env w n s op (syntax.WrapIndex t m e) = alone_joined (nat_eq s.start t.start) op _
part_is env w n s op (syntax.MakeBits t name e) = alone_joined (nat_eq s.start t.start) op _
part_is env w n s op (syntax.Raw t e) = alone_joined (nat_eq s.start t.start) op _
part_is env w n s op (syntax.SetField t e field value) = alone_joined (nat_eq s.start t.start) op _
part_is env w n s op (syntax.Prefix t mark e) = alone_joined (nat_eq s.start t.start) op _
part_is env w n s op (syntax.Cond t test first second) = alone_joined (nat_eq s.start t.start) op _
part_is env w n s op (syntax.Bare t e) = alone_joined (nat_eq s.start t.start) op _

-- ---- types

own_if : (g sl sr : Bool) (l r : Option ValueType) → type_or (cond g (Some types.Truth) (cond (sl || not sr) l r)) ≡ cond g types.Truth (cond sl (type_or l) (cond sr (type_or r) (type_or l)))
own_if true sl sr l r = refl
own_if false true sr l r = refl
own_if false false true l r = refl
own_if false false false l r = refl

own_link : (env : Env) (s : Span) (left : ExprSyntax) (l : LinkSyntax) → own env (Binary s l.op l.at left l.right) ≡ link_own env (settled left) (own env left) l
own_link env s left l = own_if (gives_truth l.op) (settled left) (settled l.right) (own_type (context_of env) left) (own_type (context_of env) l.right)

-- what the operands of a link are wanted as
wanted_link : (env : Env) (w : ValueType) (s : Span) (left : ExprSyntax) (l : LinkSyntax) (ls : List LinkSyntax)
    → operand env (want_of env w (link_settled (settled left) l) (own env (Binary s l.op l.at left l.right)) ls) l.op left l.right ≡ want_of env w (settled left) (own env left) (l ∷ ls)
wanted_link env w s left l ls =
    ap (λ (t : ValueType). cond (is_logic l.op) types.Truth (cond (settled left) (own env left) (cond (settled l.right) (own env l.right) (want_of env w (link_settled (settled left) l) t ls)))) (own_link env s left l)

-- ---- one link

one_link : (env : Env) (w o : ValueType) (n : ℕ) (s : Span) (left : ExprSyntax) (l : LinkSyntax) → operand env w l.op left l.right ≡ o
    → expr_from n (core_of env w (Binary s l.op l.at left l.right)) ≡ closed (with_link env o (expr_after n (core_of env o left)) (first_of s left (expr_from n (core_of env o left))) l)
one_link env w o n s left l h =
    let prefix = is_chain_prefix s l.op left in
    let d = core_of env o l.right in
    let lab = link_label o l in
    ap (λ (u : ValueType). expr_from n (core.Whole (unchecked (result_type l.op u)) (core.Binary (link_label u l) l.op (part prefix (core_of env u left)) (core_of env u l.right)))) h
    ∙ ap₂ (λ (m : ℕ) (x : ExprCore). core.Whole (unchecked (result_type l.op o)) (core.Binary (label_from m lab) l.op x (expr_from (label_after m lab) d)))
    (after_part env o n s l.op left) (part_from n prefix (core_of env o left) ∙ part_is env o n s l.op left)

one_after : (env : Env) (w o : ValueType) (n : ℕ) (s : Span) (left : ExprSyntax) (l : LinkSyntax) → operand env w l.op left l.right ≡ o
    → expr_after n (core_of env w (Binary s l.op l.at left l.right)) ≡ after_link env o (expr_after n (core_of env o left)) l
one_after env w o n s left l h =
    let prefix = is_chain_prefix s l.op left in
    ap (λ (u : ValueType). expr_after n (core.Whole (unchecked (result_type l.op u)) (core.Binary (link_label u l) l.op (part prefix (core_of env u left)) (core_of env u l.right)))) h
    ∙ ap (λ (m : ℕ). expr_after (label_after m (link_label o l)) (core_of env o l.right)) (after_part env o n s l.op left)

-- what ends with a link, open
open_link : (env : Env) (w o : ValueType) (n : ℕ) (s p : Span) (left : ExprSyntax) (l : LinkSyntax) → s.start ≡ p.start → p.start ≡ s.start → operand env w l.op left l.right ≡ o
    → first_of s (Binary p l.op l.at left l.right) (expr_from n (core_of env w (Binary p l.op l.at left l.right))) ≡ with_link env o (expr_after n (core_of env o left)) (first_of s left (expr_from n (core_of env o left))) l
open_link env w o n s p left l g k h =
    let c = expr_from n (core_of env w (Binary p l.op l.at left l.right)) in
    ap (λ (b : Bool). kept b (opened (Binary p l.op l.at left l.right) c) c) (eq-eqb s.start p.start g)
    ∙ ap (opened (Binary p l.op l.at left l.right)) (one_link env w o n p left l h)
    ∙ ap (λ (x : Form). with_link env o (expr_after n (core_of env o left)) x l) (alike s p left (expr_from n (core_of env o left)) k)

-- ---- all links

pub record Links (env : Env) (w : ValueType) (n : ℕ) (s : Span) (left : ExprSyntax) (ls : List LinkSyntax) : Type 0 where
  pub core : expr_from n (core_of env w (linked s left ls)) ≡ closed (chain_form env w n s left ls)
  pub after : expr_after n (core_of env w (linked s left ls)) ≡ chain_after env w n left ls
  pub opens : opened (linked s left ls) (expr_from n (core_of env w (linked s left ls))) ≡ chain_form env w n s left ls

pub links_are : (env : Env) (w : ValueType) (n : ℕ) (s : Span) (left : ExprSyntax) (l : LinkSyntax) (ls : List LinkSyntax) → Links env w n s left (l ∷ ls)
links_are env w n s left l [] = record {
  core = one_link env w (first_want env w left (l ∷ [])) n s left l refl;
  after = one_after env w (first_want env w left (l ∷ [])) n s left l refl;
  opens = ap (opened (Binary s l.op l.at left l.right)) (one_link env w (first_want env w left (l ∷ [])) n s left l refl);
}
links_are env w n s left l (m ∷ ls) =
    let p = prefix_span s (expr_span l.right) (m ∷ ls) in
    let next = Binary p l.op l.at left l.right in
    let more = links_are env w n s next m ls in
    let o = first_want env w left (l ∷ m ∷ ls) in
    let v = first_want env w next (m ∷ ls) in
    let wanted : operand env v l.op left l.right ≡ o = wanted_link env w p left l (m ∷ ls) in
    let done = link_settled (settled left) l in
    let same : chain_form env w n s next (m ∷ ls) ≡ chain_form env w n s left (l ∷ m ∷ ls) =
    ap₂ (λ (k : ℕ) (x : Form). with_links env w done (own env next) k x (m ∷ ls)) (one_after env v o n p left l wanted) (open_link env v o n s p left l refl refl wanted)
    ∙ ap (λ (t : ValueType). with_links env w done t (after_link env o (expr_after n (core_of env o left)) l) (with_link env o (expr_after n (core_of env o left)) (first_of s left (expr_from n (core_of env o left))) l) (m ∷ ls)) (own_link env p left l) in
    record {
      core = more.core ∙ ap closed same;
      after = more.after ∙ ap₂ (λ (t : ValueType) (k : ℕ). after_links env w done t k (m ∷ ls)) (own_link env p left l) (one_after env v o n p left l wanted);
      opens = more.opens ∙ same;
    }

-- Trees of the code as chains and postfixes, and their cores.
use Rattle.std.proofs.Common.{◌≡◌, ℕ, suc, List, [], ◌∷◌, Bool, true, false, map, length, nat_lt, nat_eq, arith, Option, Some, None, refl, sym, ap, ap₂, ◌∙◌}
use Rattle.std.proofs.lemmas.Bool.Decides.{nat_tests}
use Rattle.iv_words.specs.declared.Span.{Span}
use Rattle.ivory_tree.specs.Syntax as syntax
use Rattle.ivory_tree.specs.Syntax.{Word, ExprSyntax}
use Rattle.ivory_tree.specs.View.{LinkSyntax, StepSyntax, chain_from, postfix_from, expr_of, link_of, step_of}
use Rattle.ivory_tree.specs.declared.expr.Expr.{Expr}
use Rattle.ivory_tree.specs.declared.expr.ExprKind.TheVariants as kind
use Rattle.ivory_tree.specs.declared.expr.Link.{Link}
use Rattle.ivory_tree.specs.declared.expr.Step.{Step}
use Rattle.ivory_tree.proofs.Places.{expr_place}
use Rattle.ivory_tree.proofs.View.{expr_at, variable_is, chain_is, postfix_is}
use Rattle.area_types.specs.Syntax.{ValueType}
use Rattle.core_tree.specs.Syntax.{ExprCore}
use Rattle.typing_rules.specs.Environments.{Env, area_number}
use Rattle.source_types.specs.Settled.{settled}
use Rattle.typing_rules.specs.ExpressionCores.{number_or, own, local_number, name_core, core_of}
use Rattle.check_numbers.specs.Numbered.{expr_from, expr_after}
use Rattle.core_maker.specs.Opened.{Form, alone, closed, based, opened, kept, first_of}
use Rattle.core_maker.specs.Chains.{has_links, first_want, with_links, after_links, chain_first, chain_number, chain_form, chain_after}
use Rattle.core_maker.specs.Postfixes.{has_steps, after_steps, form_by, postfix_base, postfix_form, postfix_after}
use Rattle.core_maker.proofs.ChainCores.{links_are}
use Rattle.core_maker.proofs.PostfixCores.{steps_are}

positive : (n : ℕ) → nat_lt 0 (suc n) ≡ true
positive n = grind (arith, nat_tests)

pub some_links : (links : List Link) → nat_lt 0 (length links) ≡ has_links (map link_of links)
some_links [] = refl
some_links (x ∷ xs) = positive (length xs)

pub some_steps : (steps : List Step) → nat_lt 0 (length steps) ≡ has_steps (map step_of steps)
some_steps [] = refl
some_steps (x ∷ xs) = positive (length xs)

-- ---- the first part

pub closed_opened : (env : Env) (w : ValueType) (n : ℕ) (e : ExprSyntax) → closed (opened e (expr_from n (core_of env w e))) ≡ expr_from n (core_of env w e)
closed_opened env w n (syntax.Literal s v) = refl
closed_opened env w n (syntax.Truth s b) = refl
closed_opened env w n (syntax.Outcome s) = refl
closed_opened env w n (syntax.Variable s name) = refl
closed_opened env w n (syntax.Cast s k e) = refl
closed_opened env w n (syntax.ToIndex s m e) = refl
closed_opened env w n (syntax.WrapIndex s m e) = refl
closed_opened env w n (syntax.MakeBits s name e) = refl
closed_opened env w n (syntax.Raw s e) = refl
closed_opened env w n (syntax.SetField s e field value) = refl
closed_opened env w n (syntax.Prefix s op e) = refl
closed_opened env w n (syntax.Binary s op at left right) = refl
closed_opened env w n (syntax.Field s e field) = refl
closed_opened env w n (syntax.Element s brackets e index) = refl
closed_opened env w n (syntax.Cond s test first second) = refl
closed_opened env w n (syntax.Bare s e) = refl

pub kept_first : (env : Env) (w : ValueType) (n : ℕ) (s : Span) (e : Expr) {f : Form} → f ≡ opened (expr_of e) (expr_from n (core_of env w (expr_of e)))
    → kept (nat_eq s.start e.span.start) f (closed f) ≡ first_of s (expr_of e) (expr_from n (core_of env w (expr_of e)))
kept_first env w n s e h =
    let c = expr_from n (core_of env w (expr_of e)) in
    ap (λ (g : Form). kept (nat_eq s.start e.span.start) g (closed g)) h
    ∙ ap (kept (nat_eq s.start e.span.start) (opened (expr_of e) c)) (closed_opened env w n (expr_of e))
    ∙ ap (λ (p : Span). kept (nat_eq s.start p.start) (opened (expr_of e) c) c) (sym (expr_place e))

-- ---- chains

chain_view : (e first : Expr) (links : List Link) → e.kind ≡ kind.Chain first links → expr_of e ≡ chain_from e.span (expr_of first) (map link_of links)
chain_view e first links h = ap (λ k. expr_at k e.span) h ∙ chain_is first links e.span

some_chain : (env : Env) (w : ValueType) (n : ℕ) (s : Span) (first : ExprSyntax) (ls : List LinkSyntax) → has_links ls ≡ true → opened (chain_from s first ls) (expr_from n (core_of env w (chain_from s first ls))) ≡ chain_form env w n s first ls
some_chain env w n s first [] h = let no : ⊥ = cc in absurd no
some_chain env w n s first (l ∷ ls) h = (links_are env w n s first l ls).opens

some_after : (env : Env) (w : ValueType) (n : ℕ) (s : Span) (first : ExprSyntax) (ls : List LinkSyntax) → has_links ls ≡ true → expr_after n (core_of env w (chain_from s first ls)) ≡ chain_after env w n first ls
some_after env w n s first [] h = let no : ⊥ = cc in absurd no
some_after env w n s first (l ∷ ls) h = (links_are env w n s first l ls).after

pub chain_then : (env : Env) (w : ValueType) (n : ℕ) (e first : Expr) (links : List Link) → e.kind ≡ kind.Chain first links → has_links (map link_of links) ≡ true
    → chain_form env w n e.span (expr_of first) (map link_of links) ≡ opened (expr_of e) (expr_from n (core_of env w (expr_of e)))
chain_then env w n e first links k h = sym (ap (λ (x : ExprSyntax). opened x (expr_from n (core_of env w x))) (chain_view e first links k) ∙ some_chain env w n e.span (expr_of first) (map link_of links) h)

pub chain_then_after : (env : Env) (w : ValueType) (n : ℕ) (e first : Expr) (links : List Link) → e.kind ≡ kind.Chain first links → has_links (map link_of links) ≡ true
    → chain_after env w n (expr_of first) (map link_of links) ≡ expr_after n (core_of env w (expr_of e))
chain_then_after env w n e first links k h = sym (ap (λ (x : ExprSyntax). expr_after n (core_of env w x)) (chain_view e first links k) ∙ some_after env w n e.span (expr_of first) (map link_of links) h)

bare_chain : (s : Span) (first : ExprSyntax) (ls : List LinkSyntax) → has_links ls ≡ false → chain_from s first ls ≡ syntax.Bare s first
bare_chain s first [] h = refl
bare_chain s first (l ∷ ls) h = let no : ⊥ = cc in absurd no

pub chain_else : (env : Env) (w : ValueType) (n : ℕ) (e first : Expr) (links : List Link) → e.kind ≡ kind.Chain first links → has_links (map link_of links) ≡ false
    → alone (expr_from n (core_of env w (expr_of first))) ≡ opened (expr_of e) (expr_from n (core_of env w (expr_of e)))
chain_else env w n e first links k h = sym (ap (λ (x : ExprSyntax). opened x (expr_from n (core_of env w x))) (chain_view e first links k ∙ bare_chain e.span (expr_of first) (map link_of links) h))

pub chain_else_after : (env : Env) (w : ValueType) (n : ℕ) (e first : Expr) (links : List Link) → e.kind ≡ kind.Chain first links → has_links (map link_of links) ≡ false
    → expr_after n (core_of env w (expr_of first)) ≡ expr_after n (core_of env w (expr_of e))
chain_else_after env w n e first links k h = sym (ap (λ (x : ExprSyntax). expr_after n (core_of env w x)) (chain_view e first links k ∙ bare_chain e.span (expr_of first) (map link_of links) h))

-- ---- postfixes

postfix_view : (e base : Expr) (steps : List Step) → e.kind ≡ kind.Postfix base steps → expr_of e ≡ postfix_from e.span (expr_of base) (map step_of steps)
postfix_view e base steps h = ap (λ k. expr_at k e.span) h ∙ postfix_is base steps e.span

some_postfix : (env : Env) (w : ValueType) (n : ℕ) (s : Span) (base : ExprSyntax) (ts : List StepSyntax) → has_steps ts ≡ true → opened (postfix_from s base ts) (expr_from n (core_of env w (postfix_from s base ts))) ≡ postfix_form env w n s base ts
some_postfix env w n s base [] h = let no : ⊥ = cc in absurd no
some_postfix env w n s base (t ∷ ts) h = (steps_are env w n s base t ts).opens

some_steps_after : (env : Env) (w : ValueType) (n : ℕ) (s : Span) (base : ExprSyntax) (ts : List StepSyntax) → has_steps ts ≡ true → expr_after n (core_of env w (postfix_from s base ts)) ≡ postfix_after env w n base ts
some_steps_after env w n s base [] h = let no : ⊥ = cc in absurd no
some_steps_after env w n s base (t ∷ ts) h = (steps_are env w n s base t ts).after

pub postfix_then : (env : Env) (w : ValueType) (n : ℕ) (e base : Expr) (steps : List Step) → e.kind ≡ kind.Postfix base steps → has_steps (map step_of steps) ≡ true
    → postfix_form env w n e.span (expr_of base) (map step_of steps) ≡ opened (expr_of e) (expr_from n (core_of env w (expr_of e)))
postfix_then env w n e base steps k h = sym (ap (λ (x : ExprSyntax). opened x (expr_from n (core_of env w x))) (postfix_view e base steps k) ∙ some_postfix env w n e.span (expr_of base) (map step_of steps) h)

pub postfix_then_after : (env : Env) (w : ValueType) (n : ℕ) (e base : Expr) (steps : List Step) → e.kind ≡ kind.Postfix base steps → has_steps (map step_of steps) ≡ true
    → postfix_after env w n (expr_of base) (map step_of steps) ≡ expr_after n (core_of env w (expr_of e))
postfix_then_after env w n e base steps k h = sym (ap (λ (x : ExprSyntax). expr_after n (core_of env w x)) (postfix_view e base steps k) ∙ some_steps_after env w n e.span (expr_of base) (map step_of steps) h)

bare_postfix : (s : Span) (base : ExprSyntax) (ts : List StepSyntax) → has_steps ts ≡ false → postfix_from s base ts ≡ syntax.Bare s base
bare_postfix s base [] h = refl
bare_postfix s base (t ∷ ts) h = let no : ⊥ = cc in absurd no

pub postfix_else : (env : Env) (w : ValueType) (n : ℕ) (e base : Expr) (steps : List Step) → e.kind ≡ kind.Postfix base steps → has_steps (map step_of steps) ≡ false
    → alone (expr_from n (core_of env w (expr_of base))) ≡ opened (expr_of e) (expr_from n (core_of env w (expr_of e)))
postfix_else env w n e base steps k h = sym (ap (λ (x : ExprSyntax). opened x (expr_from n (core_of env w x))) (postfix_view e base steps k ∙ bare_postfix e.span (expr_of base) (map step_of steps) h))

pub postfix_else_after : (env : Env) (w : ValueType) (n : ℕ) (e base : Expr) (steps : List Step) → e.kind ≡ kind.Postfix base steps → has_steps (map step_of steps) ≡ false
    → expr_after n (core_of env w (expr_of base)) ≡ expr_after n (core_of env w (expr_of e))
postfix_else_after env w n e base steps k h = sym (ap (λ (x : ExprSyntax). expr_after n (core_of env w x)) (postfix_view e base steps k ∙ bare_postfix e.span (expr_of base) (map step_of steps) h))

-- ---- from what the code knows of the parts

pub chain_given : (env : Env) (w : ValueType) (n : ℕ) (e first : Expr) (links : List Link) {g : Expr} {done : Bool} {o lead : ValueType} {left : Form} {k : ℕ} → e.kind ≡ kind.Chain first links → has_links (map link_of links) ≡ true → g ≡ first
    → done ≡ settled (expr_of g) → o ≡ own env (expr_of g) → lead ≡ first_want env w (expr_of g) (map link_of links) → left ≡ first_of e.span (expr_of g) (expr_from n (core_of env lead (expr_of g))) → k ≡ expr_after n (core_of env lead (expr_of g))
    → (with_links env w done o k left (map link_of links) ≡ opened (expr_of e) (expr_from n (core_of env w (expr_of e)))) × (after_links env w done o k (map link_of links) ≡ expr_after n (core_of env w (expr_of e)))
chain_given env w n e first links {g} {done} {o} {lead} {left} {k} h some same d t l f a =
    let ls = map link_of links in
    let same_left : left ≡ chain_first env w n e.span (expr_of first) ls =
    f ∙ ap (λ (v : ValueType). first_of e.span (expr_of g) (expr_from n (core_of env v (expr_of g)))) l ∙ ap (λ (b : Expr). chain_first env w n e.span (expr_of b) ls) same in
    let same_number : k ≡ chain_number env w n (expr_of first) ls = a ∙ ap (λ (v : ValueType). expr_after n (core_of env v (expr_of g))) l ∙ ap (λ (b : Expr). chain_number env w n (expr_of b) ls) same in
    let same_done : done ≡ settled (expr_of first) = d ∙ ap (λ (b : Expr). settled (expr_of b)) same in
    let same_own : o ≡ own env (expr_of first) = t ∙ ap (λ (b : Expr). own env (expr_of b)) same in (
      ap₂ (λ (b : Bool) (v : ValueType). with_links env w b v k left ls) same_done same_own ∙ ap₂ (λ (m : ℕ) (x : Form). with_links env w (settled (expr_of first)) (own env (expr_of first)) m x ls) same_number same_left ∙ chain_then env w n e first links h some,
      ap₂ (λ (b : Bool) (v : ValueType). after_links env w b v k ls) same_done same_own ∙ ap (λ (m : ℕ). after_links env w (settled (expr_of first)) (own env (expr_of first)) m ls) same_number ∙ chain_then_after env w n e first links h some,
    )

pub postfix_given : (env : Env) (w : ValueType) (n : ℕ) (e base : Expr) (steps : List Step) {g : Expr} {o : ValueType} {left : Form} {k : ℕ} → e.kind ≡ kind.Postfix base steps → has_steps (map step_of steps) ≡ true → g ≡ base
    → o ≡ own env (expr_of g) → left ≡ first_of e.span (expr_of g) (expr_from n (core_of env w (expr_of g))) → k ≡ expr_after n (core_of env w (expr_of g))
    → (form_by env (map step_of steps) o k (based left) ≡ opened (expr_of e) (expr_from n (core_of env w (expr_of e)))) × (after_steps env o k (map step_of steps) ≡ expr_after n (core_of env w (expr_of e)))
postfix_given env w n e base steps {g} {o} {left} {k} h some same t f a =
    let ts = map step_of steps in
    let same_left : based left ≡ postfix_base env w n e.span (expr_of base) = ap based f ∙ ap (λ (b : Expr). postfix_base env w n e.span (expr_of b)) same in
    let same_number : k ≡ expr_after n (core_of env w (expr_of base)) = a ∙ ap (λ (b : Expr). expr_after n (core_of env w (expr_of b))) same in
    let same_own : o ≡ own env (expr_of base) = t ∙ ap (λ (b : Expr). own env (expr_of b)) same in (
      ap (λ (v : ValueType). form_by env ts v k (based left)) same_own ∙ ap₂ (λ (m : ℕ) (x : ExprCore). form_by env ts (own env (expr_of base)) m x) same_number same_left ∙ postfix_then env w n e base steps h some,
      ap₂ (λ (v : ValueType) (m : ℕ). after_steps env v m ts) same_own same_number ∙ postfix_then_after env w n e base steps h some,
    )

pub variable_given : (env : Env) (w : ValueType) (n : ℕ) (e : Expr) (name : Word) {t : ValueType} → e.kind ≡ kind.Var name → t ≡ own env (expr_of e)
    → alone (name_core t (local_number env name) (number_or (area_number env.earlier name))) ≡ opened (expr_of e) (expr_from n (core_of env w (expr_of e)))
variable_given env w n e name {t} h o =
    let seen : expr_of e ≡ syntax.Variable e.span name = ap (λ k. expr_at k e.span) h ∙ variable_is name e.span in
    ap (λ (u : ValueType). alone (name_core u (local_number env name) (number_or (area_number env.earlier name)))) (o ∙ ap (own env) seen)
    ∙ named_from n (own env (syntax.Variable e.span name)) (local_number env name) (number_or (area_number env.earlier name))
    ∙ sym (ap (λ (x : ExprSyntax). opened x (expr_from n (core_of env w x))) seen)
  where
    named_from : (m : ℕ) (u : ValueType) (p : Option ℕ) (area : ℕ) → alone (name_core u p area) ≡ alone (expr_from m (name_core u p area))
    named_from m u None area = refl
    named_from m u (Some local) area = refl

-- Checks that are numbered one after another have the numbers that a function of a check gives, where it gives these to all of them in a row.
use Rattle.std.proofs.Common.{◌≡◌, ℕ, suc, arith, ◌+◌, List, [], ◌∷◌, ◌++◌, map, flat_map, Some, None, refl, sym, ◌∙◌, ap, ap₂, subst}
use Rattle.core_tree.specs.Syntax as core
use Rattle.core_tree.specs.Syntax.{Label, ExprCore, InitCore, InitsCore, CallCore, StmtCore, StmtsCore, ContractCore, ProcCore}
use Rattle.core_tree.specs.Checks.{expr_checks, init_checks, inits_checks, call_checks, stmt_checks, stmts_checks, contract_checks, proc_checks}
use Rattle.core_tree.specs.declared.Check.{Check}
use Rattle.core_tree.specs.Sites.{IsNumberedFrom}
use Rattle.typing_rules.specs.Numbers.{numbered_by}
use Rattle.typing_rules.specs.OtherChecks.{label_by, expr_by, init_by, inits_by, call_by, stmt_by, stmts_by, contract_by, proc_by}
use Rattle.check_numbers.specs.Numbered.{checks_from, checks_after, label_from, label_after, expr_from, expr_after}
use Rattle.check_numbers.specs.NumberedParts.{init_from, init_after, inits_from, inits_after, exprs_from, exprs_after, call_from, call_after, stmt_from, stmt_after, stmts_from, stmts_after, contract_from, contract_after, contracts_from, contracts_after, proc_from, proc_after, procs_from, procs_after}
use Rattle.check_numbers.specs.InARow.{NumberedInARow, AfterAll}

-- ---- a function that numbers these checks from n on

abbrev pub Numbers : (g : Check → Check) → ℕ → List Check → Type 0
Numbers g n [] = Unit {0}
Numbers g n (c ∷ cs) = (g c ≡ record { site = n; kind = c.kind; span = c.span }) × Numbers g (n + 1) cs

pub left_of : (g : Check → Check) (n : ℕ) (xs ys : List Check) → Numbers g n (xs ++ ys) → Numbers g n xs
left_of g n [] ys k = tt
left_of g n (x ∷ xs) ys k = (k.0, left_of g (n + 1) xs ys k.1)

pub right_of : (g : Check → Check) (n m : ℕ) (xs ys : List Check) → checks_after n xs ≡ m → Numbers g n (xs ++ ys) → Numbers g m ys
right_of g n m [] ys h k = subst (λ (z : ℕ). Numbers g z ys) h k
right_of g n m (x ∷ xs) ys h k = right_of g (n + 1) m xs ys h k.1

checks_numbered : (g : Check → Check) (n : ℕ) (cs : List Check) → Numbers g n cs → map g cs ≡ checks_from n cs
checks_numbered g n [] k = refl
checks_numbered g n (c ∷ cs) k = ap₂ (λ (x : Check) (xs : List Check). x ∷ xs) k.0 (checks_numbered g (n + 1) cs k.1)

label_numbered : (g : Check → Check) (n : ℕ) (l : Label) → Numbers g n l.checks → label_by g l ≡ label_from n l
label_numbered g n l k = ap (λ (cs : List Check). record { ty = l.ty; checks = cs }) (checks_numbered g n l.checks k)

after_join : (n : ℕ) (xs ys : List Check) → checks_after n (xs ++ ys) ≡ checks_after (checks_after n xs) ys
after_join n [] ys = refl
after_join n (x ∷ xs) ys = after_join (n + 1) xs ys

after_two : (n m : ℕ) (xs ys : List Check) (f : ℕ → ℕ) → m ≡ checks_after n xs → ((k : ℕ) → f k ≡ checks_after k ys) → f m ≡ checks_after n (xs ++ ys)
after_two n m xs ys f h k = ap f h ∙ k (checks_after n xs) ∙ sym (after_join n xs ys)

-- ---- expressions

pub expr_after_is : (n : ℕ) (c : ExprCore) → expr_after n c ≡ checks_after n (expr_checks c)
expr_after_is n (core.Number l value) = refl
expr_after_is n (core.Outcome l) = refl
expr_after_is n (core.Local l number) = refl
expr_after_is n (core.AreaName l number) = refl
expr_after_is n (core.Cast l e) = after_two n (label_after n l) l.checks (expr_checks e) (λ (k : ℕ). (expr_after k e)) (refl) (λ (k : ℕ). expr_after_is k e)
expr_after_is n (core.ToIndex l e) = after_two n (label_after n l) l.checks (expr_checks e) (λ (k : ℕ). (expr_after k e)) (refl) (λ (k : ℕ). expr_after_is k e)
expr_after_is n (core.WrapIndex l e) = after_two n (label_after n l) l.checks (expr_checks e) (λ (k : ℕ). (expr_after k e)) (refl) (λ (k : ℕ). expr_after_is k e)
expr_after_is n (core.MakeBits l e) = after_two n (label_after n l) l.checks (expr_checks e) (λ (k : ℕ). (expr_after k e)) (refl) (λ (k : ℕ). expr_after_is k e)
expr_after_is n (core.Raw l e) = after_two n (label_after n l) l.checks (expr_checks e) (λ (k : ℕ). (expr_after k e)) (refl) (λ (k : ℕ). expr_after_is k e)
expr_after_is n (core.SetField l e field value) = after_two n (label_after n l) l.checks ((expr_checks e) ++ (expr_checks value)) (λ (k : ℕ). (expr_after (expr_after k e) value)) (refl) (λ (k : ℕ). after_two k (expr_after k e) (expr_checks e) (expr_checks value) (λ (k : ℕ). (expr_after k value)) (expr_after_is k e) (λ (k : ℕ). expr_after_is k value))
expr_after_is n (core.Prefix l op e) = after_two n (label_after n l) l.checks (expr_checks e) (λ (k : ℕ). (expr_after k e)) (refl) (λ (k : ℕ). expr_after_is k e)
expr_after_is n (core.Binary l op left right) = after_two n (expr_after n left) (expr_checks left) (l.checks ++ (expr_checks right)) (λ (k : ℕ). (expr_after (label_after k l) right)) (expr_after_is n left) (λ (k : ℕ). after_two k (label_after k l) l.checks (expr_checks right) (λ (k : ℕ). (expr_after k right)) (refl) (λ (k : ℕ). expr_after_is k right))
expr_after_is n (core.Field l e field) = after_two n (expr_after n e) (expr_checks e) l.checks (λ (k : ℕ). (label_after k l)) (expr_after_is n e) (λ (k : ℕ). refl)
expr_after_is n (core.Element l e index) = after_two n (expr_after n e) (expr_checks e) (l.checks ++ (expr_checks index)) (λ (k : ℕ). (expr_after (label_after k l) index)) (expr_after_is n e) (λ (k : ℕ). after_two k (label_after k l) l.checks (expr_checks index) (λ (k : ℕ). (expr_after k index)) (refl) (λ (k : ℕ). expr_after_is k index))
expr_after_is n (core.Cond l test first second) = after_two n (expr_after n test) (expr_checks test) (l.checks ++ ((expr_checks first) ++ (expr_checks second))) (λ (k : ℕ). (expr_after (expr_after (label_after k l) first) second)) (expr_after_is n test) (λ (k : ℕ). after_two k (label_after k l) l.checks ((expr_checks first) ++ (expr_checks second)) (λ (k : ℕ). (expr_after (expr_after k first) second)) (refl) (λ (k : ℕ). after_two k (expr_after k first) (expr_checks first) (expr_checks second) (λ (k : ℕ). (expr_after k second)) (expr_after_is k first) (λ (k : ℕ). expr_after_is k second)))
expr_after_is n (core.Whole l e) = after_two n (expr_after n e) (expr_checks e) l.checks (λ (k : ℕ). (label_after k l)) (expr_after_is n e) (λ (k : ℕ). refl)

pub expr_numbered : (g : Check → Check) (n : ℕ) (c : ExprCore) → Numbers g n (expr_checks c) → expr_by g c ≡ expr_from n c
expr_numbered g n (core.Number l value) k = ap (λ (z : Label). core.Number z value) (label_numbered g n l k)
expr_numbered g n (core.Outcome l) k = ap (λ (z : Label). core.Outcome z) (label_numbered g n l k)
expr_numbered g n (core.Local l number) k = ap (λ (z : Label). core.Local z number) (label_numbered g n l k)
expr_numbered g n (core.AreaName l number) k = ap (λ (z : Label). core.AreaName z number) (label_numbered g n l k)
expr_numbered g n (core.Cast l e) k =
    let k1 = right_of g n (label_after n l) l.checks (expr_checks e) refl k in
    ap (λ (z : Label). core.Cast z (expr_by g e)) (label_numbered g n l (left_of g n l.checks (expr_checks e) k)) ∙ ap (λ (z : ExprCore). core.Cast (label_from n l) z) (expr_numbered g (label_after n l) e k1)
expr_numbered g n (core.ToIndex l e) k =
    let k1 = right_of g n (label_after n l) l.checks (expr_checks e) refl k in
    ap (λ (z : Label). core.ToIndex z (expr_by g e)) (label_numbered g n l (left_of g n l.checks (expr_checks e) k)) ∙ ap (λ (z : ExprCore). core.ToIndex (label_from n l) z) (expr_numbered g (label_after n l) e k1)
expr_numbered g n (core.WrapIndex l e) k =
    let k1 = right_of g n (label_after n l) l.checks (expr_checks e) refl k in
    ap (λ (z : Label). core.WrapIndex z (expr_by g e)) (label_numbered g n l (left_of g n l.checks (expr_checks e) k)) ∙ ap (λ (z : ExprCore). core.WrapIndex (label_from n l) z) (expr_numbered g (label_after n l) e k1)
expr_numbered g n (core.MakeBits l e) k =
    let k1 = right_of g n (label_after n l) l.checks (expr_checks e) refl k in
    ap (λ (z : Label). core.MakeBits z (expr_by g e)) (label_numbered g n l (left_of g n l.checks (expr_checks e) k)) ∙ ap (λ (z : ExprCore). core.MakeBits (label_from n l) z) (expr_numbered g (label_after n l) e k1)
expr_numbered g n (core.Raw l e) k =
    let k1 = right_of g n (label_after n l) l.checks (expr_checks e) refl k in
    ap (λ (z : Label). core.Raw z (expr_by g e)) (label_numbered g n l (left_of g n l.checks (expr_checks e) k)) ∙ ap (λ (z : ExprCore). core.Raw (label_from n l) z) (expr_numbered g (label_after n l) e k1)
expr_numbered g n (core.SetField l e field value) k =
    let k1 = right_of g n (label_after n l) l.checks ((expr_checks e) ++ (expr_checks value)) refl k in
    let k2 = right_of g (label_after n l) (expr_after (label_after n l) e) (expr_checks e) (expr_checks value) (sym (expr_after_is (label_after n l) e)) k1 in
    ap (λ (z : Label). core.SetField z (expr_by g e) field (expr_by g value)) (label_numbered g n l (left_of g n l.checks ((expr_checks e) ++ (expr_checks value)) k)) ∙ ap (λ (z : ExprCore). core.SetField (label_from n l) z field (expr_by g value)) (expr_numbered g (label_after n l) e (left_of g (label_after n l) (expr_checks e) (expr_checks value) k1)) ∙ ap (λ (z : ExprCore). core.SetField (label_from n l) (expr_from (label_after n l) e) field z) (expr_numbered g (expr_after (label_after n l) e) value k2)
expr_numbered g n (core.Prefix l op e) k =
    let k1 = right_of g n (label_after n l) l.checks (expr_checks e) refl k in
    ap (λ (z : Label). core.Prefix z op (expr_by g e)) (label_numbered g n l (left_of g n l.checks (expr_checks e) k)) ∙ ap (λ (z : ExprCore). core.Prefix (label_from n l) op z) (expr_numbered g (label_after n l) e k1)
expr_numbered g n (core.Binary l op left right) k =
    let k1 = right_of g n (expr_after n left) (expr_checks left) (l.checks ++ (expr_checks right)) (sym (expr_after_is n left)) k in
    let k2 = right_of g (expr_after n left) (label_after (expr_after n left) l) l.checks (expr_checks right) refl k1 in
    ap (λ (z : ExprCore). core.Binary (label_by g l) op z (expr_by g right)) (expr_numbered g n left (left_of g n (expr_checks left) (l.checks ++ (expr_checks right)) k)) ∙ ap (λ (z : Label). core.Binary z op (expr_from n left) (expr_by g right)) (label_numbered g (expr_after n left) l (left_of g (expr_after n left) l.checks (expr_checks right) k1)) ∙ ap (λ (z : ExprCore). core.Binary (label_from (expr_after n left) l) op (expr_from n left) z) (expr_numbered g (label_after (expr_after n left) l) right k2)
expr_numbered g n (core.Field l e field) k =
    let k1 = right_of g n (expr_after n e) (expr_checks e) l.checks (sym (expr_after_is n e)) k in
    ap (λ (z : ExprCore). core.Field (label_by g l) z field) (expr_numbered g n e (left_of g n (expr_checks e) l.checks k)) ∙ ap (λ (z : Label). core.Field z (expr_from n e) field) (label_numbered g (expr_after n e) l k1)
expr_numbered g n (core.Element l e index) k =
    let k1 = right_of g n (expr_after n e) (expr_checks e) (l.checks ++ (expr_checks index)) (sym (expr_after_is n e)) k in
    let k2 = right_of g (expr_after n e) (label_after (expr_after n e) l) l.checks (expr_checks index) refl k1 in
    ap (λ (z : ExprCore). core.Element (label_by g l) z (expr_by g index)) (expr_numbered g n e (left_of g n (expr_checks e) (l.checks ++ (expr_checks index)) k)) ∙ ap (λ (z : Label). core.Element z (expr_from n e) (expr_by g index)) (label_numbered g (expr_after n e) l (left_of g (expr_after n e) l.checks (expr_checks index) k1)) ∙ ap (λ (z : ExprCore). core.Element (label_from (expr_after n e) l) (expr_from n e) z) (expr_numbered g (label_after (expr_after n e) l) index k2)
expr_numbered g n (core.Cond l test first second) k =
    let k1 = right_of g n (expr_after n test) (expr_checks test) (l.checks ++ ((expr_checks first) ++ (expr_checks second))) (sym (expr_after_is n test)) k in
    let k2 = right_of g (expr_after n test) (label_after (expr_after n test) l) l.checks ((expr_checks first) ++ (expr_checks second)) refl k1 in
    let k3 = right_of g (label_after (expr_after n test) l) (expr_after (label_after (expr_after n test) l) first) (expr_checks first) (expr_checks second) (sym (expr_after_is (label_after (expr_after n test) l) first)) k2 in
    ap (λ (z : ExprCore). core.Cond (label_by g l) z (expr_by g first) (expr_by g second)) (expr_numbered g n test (left_of g n (expr_checks test) (l.checks ++ ((expr_checks first) ++ (expr_checks second))) k)) ∙ ap (λ (z : Label). core.Cond z (expr_from n test) (expr_by g first) (expr_by g second)) (label_numbered g (expr_after n test) l (left_of g (expr_after n test) l.checks ((expr_checks first) ++ (expr_checks second)) k1)) ∙ ap (λ (z : ExprCore). core.Cond (label_from (expr_after n test) l) (expr_from n test) z (expr_by g second)) (expr_numbered g (label_after (expr_after n test) l) first (left_of g (label_after (expr_after n test) l) (expr_checks first) (expr_checks second) k2)) ∙ ap (λ (z : ExprCore). core.Cond (label_from (expr_after n test) l) (expr_from n test) (expr_from (label_after (expr_after n test) l) first) z) (expr_numbered g (expr_after (label_after (expr_after n test) l) first) second k3)
expr_numbered g n (core.Whole l e) k =
    let k1 = right_of g n (expr_after n e) (expr_checks e) l.checks (sym (expr_after_is n e)) k in
    ap (λ (z : ExprCore). core.Whole (label_by g l) z) (expr_numbered g n e (left_of g n (expr_checks e) l.checks k)) ∙ ap (λ (z : Label). core.Whole z (expr_from n e)) (label_numbered g (expr_after n e) l k1)

-- ---- initializers

mutual
  pub init_after_is : (n : ℕ) (i : InitCore) → init_after n i ≡ checks_after n (init_checks i)
  init_after_is n (core.One e) = expr_after_is n e
  init_after_is n (core.Many inits) = inits_after_is n inits

  pub inits_after_is : (n : ℕ) (is : InitsCore) → inits_after n is ≡ checks_after n (inits_checks is)
  inits_after_is n core.NoInits = refl
  inits_after_is n (core.MoreInits i is) = after_two n (init_after n i) (init_checks i) (inits_checks is) (λ (k : ℕ). (inits_after k is)) (init_after_is n i) (λ (k : ℕ). inits_after_is k is)

mutual
  pub init_numbered : (g : Check → Check) (n : ℕ) (i : InitCore) → Numbers g n (init_checks i) → init_by g i ≡ init_from n i
  init_numbered g n (core.One e) k = ap (λ (z : ExprCore). core.One z) (expr_numbered g n e k)
  init_numbered g n (core.Many inits) k = ap (λ (z : InitsCore). core.Many z) (inits_numbered g n inits k)

  pub inits_numbered : (g : Check → Check) (n : ℕ) (is : InitsCore) → Numbers g n (inits_checks is) → inits_by g is ≡ inits_from n is
  inits_numbered g n core.NoInits k = refl
  inits_numbered g n (core.MoreInits i is) k =
      let k1 = right_of g n (init_after n i) (init_checks i) (inits_checks is) (sym (init_after_is n i)) k in
      ap (λ (z : InitCore). core.MoreInits z (inits_by g is)) (init_numbered g n i (left_of g n (init_checks i) (inits_checks is) k)) ∙ ap (λ (z : InitsCore). core.MoreInits (init_from n i) z) (inits_numbered g (init_after n i) is k1)

-- ---- calls

exprs_after_is : (n : ℕ) (es : List ExprCore) → exprs_after n es ≡ checks_after n (flat_map expr_checks es)
exprs_after_is n [] = refl
exprs_after_is n (e ∷ es) = after_two n (expr_after n e) (expr_checks e) (flat_map expr_checks es) (λ (k : ℕ). exprs_after k es) (expr_after_is n e) (λ (k : ℕ). exprs_after_is k es)

exprs_numbered : (g : Check → Check) (n : ℕ) (es : List ExprCore) → Numbers g n (flat_map expr_checks es) → map (expr_by g) es ≡ exprs_from n es
exprs_numbered g n [] k = refl
exprs_numbered g n (e ∷ es) k =
    let k1 = right_of g n (expr_after n e) (expr_checks e) (flat_map expr_checks es) (sym (expr_after_is n e)) k in
    ap₂ (λ (x : ExprCore) (xs : List ExprCore). x ∷ xs) (expr_numbered g n e (left_of g n (expr_checks e) (flat_map expr_checks es) k)) (exprs_numbered g (expr_after n e) es k1)

pub call_after_is : (n : ℕ) (c : CallCore) → call_after n c ≡ checks_after n (call_checks c)
call_after_is n c = exprs_after_is n c.args

pub call_numbered : (g : Check → Check) (n : ℕ) (c : CallCore) → Numbers g n (call_checks c) → call_by g c ≡ call_from n c
call_numbered g n c k = ap (λ (es : List ExprCore). record { import = c.import; callee = c.callee; args = es }) (exprs_numbered g n c.args k)

-- ---- statements

mutual
  pub stmt_after_is : (n : ℕ) (s : StmtCore) → stmt_after n s ≡ checks_after n (stmt_checks s)
  stmt_after_is n (core.Let number e) = expr_after_is n e
  stmt_after_is n (core.LetCall number call) = call_after_is n call
  stmt_after_is n (core.Store target value) = after_two n (expr_after n target) (expr_checks target) (expr_checks value) (λ (k : ℕ). (expr_after k value)) (expr_after_is n target) (λ (k : ℕ). expr_after_is k value)
  stmt_after_is n (core.Copy target source) = after_two n (expr_after n target) (expr_checks target) (expr_checks source) (λ (k : ℕ). (expr_after k source)) (expr_after_is n target) (λ (k : ℕ). expr_after_is k source)
  stmt_after_is n (core.Call call) = call_after_is n call
  stmt_after_is n (core.If test first) = after_two n (expr_after n test) (expr_checks test) (stmts_checks first) (λ (k : ℕ). (stmts_after k first)) (expr_after_is n test) (λ (k : ℕ). stmts_after_is k first)
  stmt_after_is n (core.IfElse test first second) = after_two n (expr_after n test) (expr_checks test) ((stmts_checks first) ++ (stmts_checks second)) (λ (k : ℕ). (stmts_after (stmts_after k first) second)) (expr_after_is n test) (λ (k : ℕ). after_two k (stmts_after k first) (stmts_checks first) (stmts_checks second) (λ (k : ℕ). (stmts_after k second)) (stmts_after_is k first) (λ (k : ℕ). stmts_after_is k second))
  stmt_after_is n (core.Map number length body) = stmts_after_is n body
  stmt_after_is n (core.Upto number length bound body) = after_two n (expr_after n bound) (expr_checks bound) (stmts_checks body) (λ (k : ℕ). (stmts_after k body)) (expr_after_is n bound) (λ (k : ℕ). stmts_after_is k body)
  stmt_after_is n (core.Downto number length bound body) = after_two n (expr_after n bound) (expr_checks bound) (stmts_checks body) (λ (k : ℕ). (stmts_after k body)) (expr_after_is n bound) (λ (k : ℕ). stmts_after_is k body)
  stmt_after_is n (core.Forever body) = stmts_after_is n body
  stmt_after_is n (core.NoAlloc body) = stmts_after_is n body
  stmt_after_is n (core.NoBreak body) = stmts_after_is n body
  stmt_after_is n (core.NoReturn body) = stmts_after_is n body
  stmt_after_is n (core.Alloc number area None) = refl
  stmt_after_is n (core.Alloc number area (Some i)) = init_after_is n i
  stmt_after_is n core.Break = refl
  stmt_after_is n (core.Return None) = refl
  stmt_after_is n (core.Return (Some e)) = expr_after_is n e
  stmt_after_is n (core.Assert cond check) = expr_after_is (n + 1) cond

  pub stmts_after_is : (n : ℕ) (ss : StmtsCore) → stmts_after n ss ≡ checks_after n (stmts_checks ss)
  stmts_after_is n core.NoStmts = refl
  stmts_after_is n (core.MoreStmts s ss) = after_two n (stmt_after n s) (stmt_checks s) (stmts_checks ss) (λ (k : ℕ). (stmts_after k ss)) (stmt_after_is n s) (λ (k : ℕ). stmts_after_is k ss)

mutual
  pub stmt_numbered : (g : Check → Check) (n : ℕ) (s : StmtCore) → Numbers g n (stmt_checks s) → stmt_by g s ≡ stmt_from n s
  stmt_numbered g n (core.Let number e) k = ap (λ (z : ExprCore). core.Let number z) (expr_numbered g n e k)
  stmt_numbered g n (core.LetCall number call) k = ap (λ (z : CallCore). core.LetCall number z) (call_numbered g n call k)
  stmt_numbered g n (core.Store target value) k =
      let k1 = right_of g n (expr_after n target) (expr_checks target) (expr_checks value) (sym (expr_after_is n target)) k in
      ap (λ (z : ExprCore). core.Store z (expr_by g value)) (expr_numbered g n target (left_of g n (expr_checks target) (expr_checks value) k)) ∙ ap (λ (z : ExprCore). core.Store (expr_from n target) z) (expr_numbered g (expr_after n target) value k1)
  stmt_numbered g n (core.Copy target source) k =
      let k1 = right_of g n (expr_after n target) (expr_checks target) (expr_checks source) (sym (expr_after_is n target)) k in
      ap (λ (z : ExprCore). core.Copy z (expr_by g source)) (expr_numbered g n target (left_of g n (expr_checks target) (expr_checks source) k)) ∙ ap (λ (z : ExprCore). core.Copy (expr_from n target) z) (expr_numbered g (expr_after n target) source k1)
  stmt_numbered g n (core.Call call) k = ap (λ (z : CallCore). core.Call z) (call_numbered g n call k)
  stmt_numbered g n (core.If test first) k =
      let k1 = right_of g n (expr_after n test) (expr_checks test) (stmts_checks first) (sym (expr_after_is n test)) k in
      ap (λ (z : ExprCore). core.If z (stmts_by g first)) (expr_numbered g n test (left_of g n (expr_checks test) (stmts_checks first) k)) ∙ ap (λ (z : StmtsCore). core.If (expr_from n test) z) (stmts_numbered g (expr_after n test) first k1)
  stmt_numbered g n (core.IfElse test first second) k =
      let k1 = right_of g n (expr_after n test) (expr_checks test) ((stmts_checks first) ++ (stmts_checks second)) (sym (expr_after_is n test)) k in
      let k2 = right_of g (expr_after n test) (stmts_after (expr_after n test) first) (stmts_checks first) (stmts_checks second) (sym (stmts_after_is (expr_after n test) first)) k1 in
      ap (λ (z : ExprCore). core.IfElse z (stmts_by g first) (stmts_by g second)) (expr_numbered g n test (left_of g n (expr_checks test) ((stmts_checks first) ++ (stmts_checks second)) k)) ∙ ap (λ (z : StmtsCore). core.IfElse (expr_from n test) z (stmts_by g second)) (stmts_numbered g (expr_after n test) first (left_of g (expr_after n test) (stmts_checks first) (stmts_checks second) k1)) ∙ ap (λ (z : StmtsCore). core.IfElse (expr_from n test) (stmts_from (expr_after n test) first) z) (stmts_numbered g (stmts_after (expr_after n test) first) second k2)
  stmt_numbered g n (core.Map number length body) k = ap (λ (z : StmtsCore). core.Map number length z) (stmts_numbered g n body k)
  stmt_numbered g n (core.Upto number length bound body) k =
      let k1 = right_of g n (expr_after n bound) (expr_checks bound) (stmts_checks body) (sym (expr_after_is n bound)) k in
      ap (λ (z : ExprCore). core.Upto number length z (stmts_by g body)) (expr_numbered g n bound (left_of g n (expr_checks bound) (stmts_checks body) k)) ∙ ap (λ (z : StmtsCore). core.Upto number length (expr_from n bound) z) (stmts_numbered g (expr_after n bound) body k1)
  stmt_numbered g n (core.Downto number length bound body) k =
      let k1 = right_of g n (expr_after n bound) (expr_checks bound) (stmts_checks body) (sym (expr_after_is n bound)) k in
      ap (λ (z : ExprCore). core.Downto number length z (stmts_by g body)) (expr_numbered g n bound (left_of g n (expr_checks bound) (stmts_checks body) k)) ∙ ap (λ (z : StmtsCore). core.Downto number length (expr_from n bound) z) (stmts_numbered g (expr_after n bound) body k1)
  stmt_numbered g n (core.Forever body) k = ap (λ (z : StmtsCore). core.Forever z) (stmts_numbered g n body k)
  stmt_numbered g n (core.NoAlloc body) k = ap (λ (z : StmtsCore). core.NoAlloc z) (stmts_numbered g n body k)
  stmt_numbered g n (core.NoBreak body) k = ap (λ (z : StmtsCore). core.NoBreak z) (stmts_numbered g n body k)
  stmt_numbered g n (core.NoReturn body) k = ap (λ (z : StmtsCore). core.NoReturn z) (stmts_numbered g n body k)
  stmt_numbered g n (core.Alloc number area None) k = refl
  stmt_numbered g n (core.Alloc number area (Some i)) k = ap (λ (z : InitCore). core.Alloc number area (Some z)) (init_numbered g n i k)
  stmt_numbered g n core.Break k = refl
  stmt_numbered g n (core.Return None) k = refl
  stmt_numbered g n (core.Return (Some e)) k = ap (λ (z : ExprCore). core.Return (Some z)) (expr_numbered g n e k)
  stmt_numbered g n (core.Assert cond check) k = ap (λ (z : ExprCore). core.Assert z (g check)) (expr_numbered g (n + 1) cond k.1) ∙ ap (core.Assert (expr_from (n + 1) cond)) k.0

  pub stmts_numbered : (g : Check → Check) (n : ℕ) (ss : StmtsCore) → Numbers g n (stmts_checks ss) → stmts_by g ss ≡ stmts_from n ss
  stmts_numbered g n core.NoStmts k = refl
  stmts_numbered g n (core.MoreStmts s ss) k =
      let k1 = right_of g n (stmt_after n s) (stmt_checks s) (stmts_checks ss) (sym (stmt_after_is n s)) k in
      ap (λ (z : StmtCore). core.MoreStmts z (stmts_by g ss)) (stmt_numbered g n s (left_of g n (stmt_checks s) (stmts_checks ss) k)) ∙ ap (λ (z : StmtsCore). core.MoreStmts (stmt_from n s) z) (stmts_numbered g (stmt_after n s) ss k1)

-- ---- contracts

contract_after_is : (n : ℕ) (c : ContractCore) → contract_after n c ≡ checks_after n (contract_checks c)
contract_after_is n c = expr_after_is (n + 1) c.cond

contracts_after_is : (n : ℕ) (cs : List ContractCore) → contracts_after n cs ≡ checks_after n (flat_map contract_checks cs)
contracts_after_is n [] = refl
contracts_after_is n (c ∷ cs) = after_two n (contract_after n c) (contract_checks c) (flat_map contract_checks cs) (λ (k : ℕ). contracts_after k cs) (contract_after_is n c) (λ (k : ℕ). contracts_after_is k cs)

contract_numbered : (g : Check → Check) (n : ℕ) (c : ContractCore) → Numbers g n (contract_checks c) → contract_by g c ≡ contract_from n c
contract_numbered g n c k =
    let with_parts : ExprCore → Check → ContractCore = λ (e : ExprCore) (z : Check). record { before = c.before; cond = e; check = z } in
    ap₂ with_parts (expr_numbered g (n + 1) c.cond k.1) k.0

contracts_numbered : (g : Check → Check) (n : ℕ) (cs : List ContractCore) → Numbers g n (flat_map contract_checks cs) → map (contract_by g) cs ≡ contracts_from n cs
contracts_numbered g n [] k = refl
contracts_numbered g n (c ∷ cs) k =
    let k1 = right_of g n (contract_after n c) (contract_checks c) (flat_map contract_checks cs) (sym (contract_after_is n c)) k in
    ap₂ (λ (x : ContractCore) (xs : List ContractCore). x ∷ xs) (contract_numbered g n c (left_of g n (contract_checks c) (flat_map contract_checks cs) k)) (contracts_numbered g (contract_after n c) cs k1)

-- ---- procedures

proc_after_is : (n : ℕ) (p : ProcCore) → proc_after n p ≡ checks_after n (proc_checks p)
proc_after_is n p = after_two n (contracts_after n p.contracts) (flat_map contract_checks p.contracts) (stmts_checks p.body) (λ (k : ℕ). stmts_after k p.body) (contracts_after_is n p.contracts) (λ (k : ℕ). stmts_after_is k p.body)

pub procs_after_is : AfterAll
procs_after_is n [] = refl
procs_after_is n (p ∷ ps) = after_two n (proc_after n p) (proc_checks p) (flat_map proc_checks ps) (λ (k : ℕ). procs_after k ps) (proc_after_is n p) (λ (k : ℕ). procs_after_is k ps)

proc_numbered : (g : Check → Check) (n : ℕ) (p : ProcCore) → Numbers g n (proc_checks p) → proc_by g p ≡ proc_from n p
proc_numbered g n p k =
    let with_parts : List ContractCore → StmtsCore → ProcCore = λ (cs : List ContractCore) (ss : StmtsCore). record { name = p.name; exported = p.exported; params = p.params; result = p.result; contracts = cs; locals = p.locals; body = ss } in
    let k1 = right_of g n (contracts_after n p.contracts) (flat_map contract_checks p.contracts) (stmts_checks p.body) (sym (contracts_after_is n p.contracts)) k in
    ap₂ with_parts (contracts_numbered g n p.contracts (left_of g n (flat_map contract_checks p.contracts) (stmts_checks p.body) k)) (stmts_numbered g (contracts_after n p.contracts) p.body k1)

pub procs_numbered : (g : Check → Check) (n : ℕ) (ps : List ProcCore) → Numbers g n (flat_map proc_checks ps) → map (proc_by g) ps ≡ procs_from n ps
procs_numbered g n [] k = refl
procs_numbered g n (p ∷ ps) k =
    let k1 = right_of g n (proc_after n p) (proc_checks p) (flat_map proc_checks ps) (sym (proc_after_is n p)) k in
    ap₂ (λ (x : ProcCore) (xs : List ProcCore). x ∷ xs) (proc_numbered g n p (left_of g n (proc_checks p) (flat_map proc_checks ps) k)) (procs_numbered g (proc_after n p) ps k1)

-- ---- by the tokens that carry them

one_more : (n : ℕ) → suc n ≡ n + 1
one_more n = omega arith

by_tokens : (us : List Check) (n : ℕ) (cs : List Check) → IsNumberedFrom n (map (numbered_by us) cs) → Numbers (numbered_by us) n cs
by_tokens us n [] h = tt
by_tokens us n (c ∷ cs) h =
    let with_site : ℕ → Check = λ (s : ℕ). record { site = s; kind = c.kind; span = c.span } in
    (ap with_site h.0, by_tokens us (n + 1) cs (subst (λ (z : ℕ). IsNumberedFrom z (map (numbered_by us) cs)) (one_more n) h.1))

pub numbered_in_a_row : NumberedInARow
numbered_in_a_row ps h = let us = flat_map proc_checks ps in procs_numbered (numbered_by us) 0 ps (by_tokens us 0 us h)

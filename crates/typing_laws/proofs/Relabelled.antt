-- Two cores that are alike but for the numbers of their checks are one, where the numbers are what a function of the other parts gives.
use Rattle.std.proofs.Common.{◌≡◌, List, [], ◌∷◌, ◌++◌, map, Some, None, Bool, true, false, flat_map, refl, sym, ◌∙◌, ap}
use Rattle.core_tree.specs.Syntax as core
use Rattle.core_tree.specs.Syntax.{Label, ExprCore, InitCore, InitsCore, CallCore, StmtCore, StmtsCore, ContractCore, ProcCore, type_of}
use Rattle.core_tree.specs.Checks.{expr_checks, init_checks, inits_checks, call_checks, stmt_checks, stmts_checks, contract_checks, proc_checks}
use Rattle.core_tree.specs.declared.Check.{Check}
use Rattle.typing_rules.specs.Wholes.{part}
use Rattle.typing_rules.specs.OtherChecks.{label_by, expr_by, init_by, inits_by, call_by, stmt_by, stmts_by, contract_by, proc_by}

-- ---- types stay

pub type_by : (g : Check → Check) (e : ExprCore) → type_of (expr_by g e) ≡ type_of e
type_by g (core.Number l value) = refl
type_by g (core.Outcome l) = refl
type_by g (core.Local l number) = refl
type_by g (core.AreaName l number) = refl
type_by g (core.Cast l e) = refl
type_by g (core.ToIndex l e) = refl
type_by g (core.WrapIndex l e) = refl
type_by g (core.MakeBits l e) = refl
type_by g (core.Raw l e) = refl
type_by g (core.SetField l e field value) = refl
type_by g (core.Prefix l op e) = refl
type_by g (core.Binary l op left right) = refl
type_by g (core.Field l e field) = refl
type_by g (core.Element l e index) = refl
type_by g (core.Cond l test first second) = refl
type_by g (core.Whole l e) = refl

pub part_by : (g : Check → Check) (prefix : Bool) (e : ExprCore) → expr_by g (part prefix e) ≡ part prefix (expr_by g e)
part_by g false e = refl
part_by g true (core.Number l value) = refl
part_by g true (core.Outcome l) = refl
part_by g true (core.Local l number) = refl
part_by g true (core.AreaName l number) = refl
part_by g true (core.Cast l e) = refl
part_by g true (core.ToIndex l e) = refl
part_by g true (core.WrapIndex l e) = refl
part_by g true (core.MakeBits l e) = refl
part_by g true (core.Raw l e) = refl
part_by g true (core.SetField l e field value) = refl
part_by g true (core.Prefix l op e) = refl
part_by g true (core.Binary l op left right) = refl
part_by g true (core.Field l e field) = refl
part_by g true (core.Element l e index) = refl
part_by g true (core.Cond l test first second) = refl
part_by g true (core.Whole l e) = refl

-- ---- their checks

pub map_join : {A B : Type 0} (f : A → B) (xs ys : List A) → map f (xs ++ ys) ≡ map f xs ++ map f ys
map_join f [] ys = refl
map_join f (x ∷ xs) ys = ap (λ zs. f x ∷ zs) (map_join f xs ys)

-- the checks of two parts in a row
two_parts : (g : Check → Check) (xs ys us vs : List Check) → us ≡ map g xs → vs ≡ map g ys → us ++ vs ≡ map g (xs ++ ys)
two_parts g xs ys us vs h k = ap (λ zs. zs ++ vs) h ∙ ap (λ zs. map g xs ++ zs) k ∙ sym (map_join g xs ys)

pub expr_checks_by : (g : Check → Check) (e : ExprCore) → expr_checks (expr_by g e) ≡ map g (expr_checks e)
expr_checks_by g (core.Number l value) = refl
expr_checks_by g (core.Outcome l) = refl
expr_checks_by g (core.Local l number) = refl
expr_checks_by g (core.AreaName l number) = refl
expr_checks_by g (core.Cast l e) = two_parts g l.checks (expr_checks e) (map g l.checks) (expr_checks (expr_by g e)) refl (expr_checks_by g e)
expr_checks_by g (core.ToIndex l e) = two_parts g l.checks (expr_checks e) (map g l.checks) (expr_checks (expr_by g e)) refl (expr_checks_by g e)
expr_checks_by g (core.WrapIndex l e) = two_parts g l.checks (expr_checks e) (map g l.checks) (expr_checks (expr_by g e)) refl (expr_checks_by g e)
expr_checks_by g (core.MakeBits l e) = two_parts g l.checks (expr_checks e) (map g l.checks) (expr_checks (expr_by g e)) refl (expr_checks_by g e)
expr_checks_by g (core.Raw l e) = two_parts g l.checks (expr_checks e) (map g l.checks) (expr_checks (expr_by g e)) refl (expr_checks_by g e)
expr_checks_by g (core.SetField l e field value) = two_parts g l.checks ((expr_checks e) ++ (expr_checks value)) (map g l.checks) ((expr_checks (expr_by g e)) ++ (expr_checks (expr_by g value))) refl (two_parts g (expr_checks e) (expr_checks value) (expr_checks (expr_by g e)) (expr_checks (expr_by g value)) (expr_checks_by g e) (expr_checks_by g value))
expr_checks_by g (core.Prefix l op e) = two_parts g l.checks (expr_checks e) (map g l.checks) (expr_checks (expr_by g e)) refl (expr_checks_by g e)
expr_checks_by g (core.Binary l op left right) = two_parts g (expr_checks left) (l.checks ++ (expr_checks right)) (expr_checks (expr_by g left)) ((map g l.checks) ++ (expr_checks (expr_by g right))) (expr_checks_by g left) (two_parts g l.checks (expr_checks right) (map g l.checks) (expr_checks (expr_by g right)) refl (expr_checks_by g right))
expr_checks_by g (core.Field l e field) = two_parts g (expr_checks e) l.checks (expr_checks (expr_by g e)) (map g l.checks) (expr_checks_by g e) refl
expr_checks_by g (core.Element l e index) = two_parts g (expr_checks e) (l.checks ++ (expr_checks index)) (expr_checks (expr_by g e)) ((map g l.checks) ++ (expr_checks (expr_by g index))) (expr_checks_by g e) (two_parts g l.checks (expr_checks index) (map g l.checks) (expr_checks (expr_by g index)) refl (expr_checks_by g index))
expr_checks_by g (core.Cond l test first second) = two_parts g (expr_checks test) (l.checks ++ ((expr_checks first) ++ (expr_checks second))) (expr_checks (expr_by g test)) ((map g l.checks) ++ ((expr_checks (expr_by g first)) ++ (expr_checks (expr_by g second)))) (expr_checks_by g test) (two_parts g l.checks ((expr_checks first) ++ (expr_checks second)) (map g l.checks) ((expr_checks (expr_by g first)) ++ (expr_checks (expr_by g second))) refl (two_parts g (expr_checks first) (expr_checks second) (expr_checks (expr_by g first)) (expr_checks (expr_by g second)) (expr_checks_by g first) (expr_checks_by g second)))
expr_checks_by g (core.Whole l e) = two_parts g (expr_checks e) l.checks (expr_checks (expr_by g e)) (map g l.checks) (expr_checks_by g e) refl

mutual
  pub init_checks_by : (g : Check → Check) (i : InitCore) → init_checks (init_by g i) ≡ map g (init_checks i)
  init_checks_by g (core.One e) = expr_checks_by g e
  init_checks_by g (core.Many inits) = inits_checks_by g inits

  pub inits_checks_by : (g : Check → Check) (is : InitsCore) → inits_checks (inits_by g is) ≡ map g (inits_checks is)
  inits_checks_by g core.NoInits = refl
  inits_checks_by g (core.MoreInits i is) = two_parts g (init_checks i) (inits_checks is) (init_checks (init_by g i)) (inits_checks (inits_by g is)) (init_checks_by g i) (inits_checks_by g is)

exprs_checks_by : (g : Check → Check) (es : List ExprCore) → flat_map expr_checks (map (expr_by g) es) ≡ map g (flat_map expr_checks es)
exprs_checks_by g [] = refl
exprs_checks_by g (e ∷ es) = two_parts g (expr_checks e) (flat_map expr_checks es) (expr_checks (expr_by g e)) (flat_map expr_checks (map (expr_by g) es)) (expr_checks_by g e) (exprs_checks_by g es)

mutual
  pub stmt_checks_by : (g : Check → Check) (s : StmtCore) → stmt_checks (stmt_by g s) ≡ map g (stmt_checks s)
  stmt_checks_by g (core.Let number e) = expr_checks_by g e
  stmt_checks_by g (core.LetCall number call) = exprs_checks_by g call.args
  stmt_checks_by g (core.Alloc number area None) = refl
  stmt_checks_by g (core.Alloc number area (Some i)) = init_checks_by g i
  stmt_checks_by g (core.Store target value) = two_parts g (expr_checks target) (expr_checks value) (expr_checks (expr_by g target)) (expr_checks (expr_by g value)) (expr_checks_by g target) (expr_checks_by g value)
  stmt_checks_by g (core.Copy target source) = two_parts g (expr_checks target) (expr_checks source) (expr_checks (expr_by g target)) (expr_checks (expr_by g source)) (expr_checks_by g target) (expr_checks_by g source)
  stmt_checks_by g (core.Call call) = exprs_checks_by g call.args
  stmt_checks_by g (core.If test first) = two_parts g (expr_checks test) (stmts_checks first) (expr_checks (expr_by g test)) (stmts_checks (stmts_by g first)) (expr_checks_by g test) (stmts_checks_by g first)
  stmt_checks_by g (core.IfElse test first second) = two_parts g (expr_checks test) ((stmts_checks first) ++ (stmts_checks second)) (expr_checks (expr_by g test)) ((stmts_checks (stmts_by g first)) ++ (stmts_checks (stmts_by g second))) (expr_checks_by g test) (two_parts g (stmts_checks first) (stmts_checks second) (stmts_checks (stmts_by g first)) (stmts_checks (stmts_by g second)) (stmts_checks_by g first) (stmts_checks_by g second))
  stmt_checks_by g (core.Map number n body) = stmts_checks_by g body
  stmt_checks_by g (core.Upto number n bound body) = two_parts g (expr_checks bound) (stmts_checks body) (expr_checks (expr_by g bound)) (stmts_checks (stmts_by g body)) (expr_checks_by g bound) (stmts_checks_by g body)
  stmt_checks_by g (core.Downto number n bound body) = two_parts g (expr_checks bound) (stmts_checks body) (expr_checks (expr_by g bound)) (stmts_checks (stmts_by g body)) (expr_checks_by g bound) (stmts_checks_by g body)
  stmt_checks_by g (core.Forever body) = stmts_checks_by g body
  stmt_checks_by g core.Break = refl
  stmt_checks_by g (core.Return None) = refl
  stmt_checks_by g (core.Return (Some e)) = expr_checks_by g e
  stmt_checks_by g (core.Assert cond check) = ap (λ cs. g check ∷ cs) (expr_checks_by g cond)
  stmt_checks_by g (core.NoAlloc body) = stmts_checks_by g body
  stmt_checks_by g (core.NoBreak body) = stmts_checks_by g body
  stmt_checks_by g (core.NoReturn body) = stmts_checks_by g body

  pub stmts_checks_by : (g : Check → Check) (ss : StmtsCore) → stmts_checks (stmts_by g ss) ≡ map g (stmts_checks ss)
  stmts_checks_by g core.NoStmts = refl
  stmts_checks_by g (core.MoreStmts s ss) = two_parts g (stmt_checks s) (stmts_checks ss) (stmt_checks (stmt_by g s)) (stmts_checks (stmts_by g ss)) (stmt_checks_by g s) (stmts_checks_by g ss)

contracts_checks_by : (g : Check → Check) (cs : List ContractCore) → flat_map contract_checks (map (contract_by g) cs) ≡ map g (flat_map contract_checks cs)
contracts_checks_by g [] = refl
contracts_checks_by g (c ∷ cs) =
    two_parts g (contract_checks c) (flat_map contract_checks cs) (contract_checks (contract_by g c)) (flat_map contract_checks (map (contract_by g) cs)) (ap (λ xs. g c.check ∷ xs) (expr_checks_by g c.cond)) (contracts_checks_by g cs)

pub procs_checks_by : (g : Check → Check) (ps : List ProcCore) → flat_map proc_checks (map (proc_by g) ps) ≡ map g (flat_map proc_checks ps)
procs_checks_by g [] = refl
procs_checks_by g (p ∷ ps) =
    two_parts g (proc_checks p) (flat_map proc_checks ps) (proc_checks (proc_by g p)) (flat_map proc_checks (map (proc_by g) ps))
    (two_parts g (flat_map contract_checks p.contracts) (stmts_checks p.body) (flat_map contract_checks (map (contract_by g) p.contracts)) (stmts_checks (stmts_by g p.body)) (contracts_checks_by g p.contracts) (stmts_checks_by g p.body))
    (procs_checks_by g ps)

-- ---- where g gives each check back from what h made of it, it gives back the core

abbrev pub GivesBack : (g h : Check → Check) → List Check → Type 0
GivesBack g h [] = Unit {0}
GivesBack g h (c ∷ cs) = (g (h c) ≡ c) × GivesBack g h cs

left_part : (g h : Check → Check) (xs ys : List Check) → GivesBack g h (xs ++ ys) → GivesBack g h xs
left_part g h [] ys k = tt
left_part g h (x ∷ xs) ys k = (k.0, left_part g h xs ys k.1)

right_part : (g h : Check → Check) (xs ys : List Check) → GivesBack g h (xs ++ ys) → GivesBack g h ys
right_part g h [] ys k = k
right_part g h (x ∷ xs) ys k = right_part g h xs ys k.1

checks_back : (g h : Check → Check) (cs : List Check) → GivesBack g h cs → map g (map h cs) ≡ cs
checks_back g h [] k = refl
checks_back g h (c ∷ cs) k = ap (λ x. x ∷ map g (map h cs)) k.0 ∙ ap (λ xs. c ∷ xs) (checks_back g h cs k.1)

label_back : (g h : Check → Check) (l : Label) → GivesBack g h l.checks → label_by g (label_by h l) ≡ l
label_back g h l k = ap (λ (cs : List Check). record { ty = l.ty; checks = cs }) (checks_back g h l.checks k)

pub expr_back : (g h : Check → Check) (e : ExprCore) → GivesBack g h (expr_checks e) → expr_by g (expr_by h e) ≡ e
expr_back g h (core.Number l value) k = ap (λ (z : Label). core.Number z value) (label_back g h l k)
expr_back g h (core.Outcome l) k = ap (λ (z : Label). core.Outcome z) (label_back g h l k)
expr_back g h (core.Local l number) k = ap (λ (z : Label). core.Local z number) (label_back g h l k)
expr_back g h (core.AreaName l number) k = ap (λ (z : Label). core.AreaName z number) (label_back g h l k)
expr_back g h (core.Cast l e) k = ap (λ (z : Label). core.Cast z (expr_by g (expr_by h e))) (label_back g h l (left_part g h l.checks (expr_checks e) k)) ∙ ap (λ (z : ExprCore). core.Cast l z) (expr_back g h e (right_part g h l.checks (expr_checks e) k))
expr_back g h (core.ToIndex l e) k = ap (λ (z : Label). core.ToIndex z (expr_by g (expr_by h e))) (label_back g h l (left_part g h l.checks (expr_checks e) k)) ∙ ap (λ (z : ExprCore). core.ToIndex l z) (expr_back g h e (right_part g h l.checks (expr_checks e) k))
expr_back g h (core.WrapIndex l e) k = ap (λ (z : Label). core.WrapIndex z (expr_by g (expr_by h e))) (label_back g h l (left_part g h l.checks (expr_checks e) k)) ∙ ap (λ (z : ExprCore). core.WrapIndex l z) (expr_back g h e (right_part g h l.checks (expr_checks e) k))
expr_back g h (core.MakeBits l e) k = ap (λ (z : Label). core.MakeBits z (expr_by g (expr_by h e))) (label_back g h l (left_part g h l.checks (expr_checks e) k)) ∙ ap (λ (z : ExprCore). core.MakeBits l z) (expr_back g h e (right_part g h l.checks (expr_checks e) k))
expr_back g h (core.Raw l e) k = ap (λ (z : Label). core.Raw z (expr_by g (expr_by h e))) (label_back g h l (left_part g h l.checks (expr_checks e) k)) ∙ ap (λ (z : ExprCore). core.Raw l z) (expr_back g h e (right_part g h l.checks (expr_checks e) k))
expr_back g h (core.SetField l e field value) k = ap (λ (z : Label). core.SetField z (expr_by g (expr_by h e)) field (expr_by g (expr_by h value))) (label_back g h l (left_part g h l.checks ((expr_checks e) ++ (expr_checks value)) k)) ∙ ap (λ (z : ExprCore). core.SetField l z field (expr_by g (expr_by h value))) (expr_back g h e (left_part g h (expr_checks e) (expr_checks value) (right_part g h l.checks ((expr_checks e) ++ (expr_checks value)) k))) ∙ ap (λ (z : ExprCore). core.SetField l e field z) (expr_back g h value (right_part g h (expr_checks e) (expr_checks value) (right_part g h l.checks ((expr_checks e) ++ (expr_checks value)) k)))
expr_back g h (core.Prefix l op e) k = ap (λ (z : Label). core.Prefix z op (expr_by g (expr_by h e))) (label_back g h l (left_part g h l.checks (expr_checks e) k)) ∙ ap (λ (z : ExprCore). core.Prefix l op z) (expr_back g h e (right_part g h l.checks (expr_checks e) k))
expr_back g h (core.Binary l op left right) k = ap (λ (z : Label). core.Binary z op (expr_by g (expr_by h left)) (expr_by g (expr_by h right))) (label_back g h l (left_part g h l.checks (expr_checks right) (right_part g h (expr_checks left) (l.checks ++ (expr_checks right)) k))) ∙ ap (λ (z : ExprCore). core.Binary l op z (expr_by g (expr_by h right))) (expr_back g h left (left_part g h (expr_checks left) (l.checks ++ (expr_checks right)) k)) ∙ ap (λ (z : ExprCore). core.Binary l op left z) (expr_back g h right (right_part g h l.checks (expr_checks right) (right_part g h (expr_checks left) (l.checks ++ (expr_checks right)) k)))
expr_back g h (core.Field l e field) k = ap (λ (z : Label). core.Field z (expr_by g (expr_by h e)) field) (label_back g h l (right_part g h (expr_checks e) l.checks k)) ∙ ap (λ (z : ExprCore). core.Field l z field) (expr_back g h e (left_part g h (expr_checks e) l.checks k))
expr_back g h (core.Element l e index) k = ap (λ (z : Label). core.Element z (expr_by g (expr_by h e)) (expr_by g (expr_by h index))) (label_back g h l (left_part g h l.checks (expr_checks index) (right_part g h (expr_checks e) (l.checks ++ (expr_checks index)) k))) ∙ ap (λ (z : ExprCore). core.Element l z (expr_by g (expr_by h index))) (expr_back g h e (left_part g h (expr_checks e) (l.checks ++ (expr_checks index)) k)) ∙ ap (λ (z : ExprCore). core.Element l e z) (expr_back g h index (right_part g h l.checks (expr_checks index) (right_part g h (expr_checks e) (l.checks ++ (expr_checks index)) k)))
expr_back g h (core.Cond l test first second) k = ap (λ (z : Label). core.Cond z (expr_by g (expr_by h test)) (expr_by g (expr_by h first)) (expr_by g (expr_by h second))) (label_back g h l (left_part g h l.checks ((expr_checks first) ++ (expr_checks second)) (right_part g h (expr_checks test) (l.checks ++ ((expr_checks first) ++ (expr_checks second))) k))) ∙ ap (λ (z : ExprCore). core.Cond l z (expr_by g (expr_by h first)) (expr_by g (expr_by h second))) (expr_back g h test (left_part g h (expr_checks test) (l.checks ++ ((expr_checks first) ++ (expr_checks second))) k)) ∙ ap (λ (z : ExprCore). core.Cond l test z (expr_by g (expr_by h second))) (expr_back g h first (left_part g h (expr_checks first) (expr_checks second) (right_part g h l.checks ((expr_checks first) ++ (expr_checks second)) (right_part g h (expr_checks test) (l.checks ++ ((expr_checks first) ++ (expr_checks second))) k)))) ∙ ap (λ (z : ExprCore). core.Cond l test first z) (expr_back g h second (right_part g h (expr_checks first) (expr_checks second) (right_part g h l.checks ((expr_checks first) ++ (expr_checks second)) (right_part g h (expr_checks test) (l.checks ++ ((expr_checks first) ++ (expr_checks second))) k))))
expr_back g h (core.Whole l e) k = ap (λ (z : Label). core.Whole z (expr_by g (expr_by h e))) (label_back g h l (right_part g h (expr_checks e) l.checks k)) ∙ ap (λ (z : ExprCore). core.Whole l z) (expr_back g h e (left_part g h (expr_checks e) l.checks k))

mutual
  pub init_back : (g h : Check → Check) (i : InitCore) → GivesBack g h (init_checks i) → init_by g (init_by h i) ≡ i
  init_back g h (core.One e) k = ap core.One (expr_back g h e k)
  init_back g h (core.Many inits) k = ap core.Many (inits_back g h inits k)

  pub inits_back : (g h : Check → Check) (is : InitsCore) → GivesBack g h (inits_checks is) → inits_by g (inits_by h is) ≡ is
  inits_back g h core.NoInits k = refl
  inits_back g h (core.MoreInits i is) k =
      ap (λ z. core.MoreInits z (inits_by g (inits_by h is))) (init_back g h i (left_part g h (init_checks i) (inits_checks is) k)) ∙ ap (core.MoreInits i) (inits_back g h is (right_part g h (init_checks i) (inits_checks is) k))

exprs_back : (g h : Check → Check) (es : List ExprCore) → GivesBack g h (flat_map expr_checks es) → map (expr_by g) (map (expr_by h) es) ≡ es
exprs_back g h [] k = refl
exprs_back g h (e ∷ es) k =
    ap (λ z. z ∷ map (expr_by g) (map (expr_by h) es)) (expr_back g h e (left_part g h (expr_checks e) (flat_map expr_checks es) k))
    ∙ ap (λ zs. e ∷ zs) (exprs_back g h es (right_part g h (expr_checks e) (flat_map expr_checks es) k))

call_back : (g h : Check → Check) (c : CallCore) → GivesBack g h (call_checks c) → call_by g (call_by h c) ≡ c
call_back g h c k = ap (λ (es : List ExprCore). record { import = c.import; callee = c.callee; args = es }) (exprs_back g h c.args k)

mutual
  pub stmt_back : (g h : Check → Check) (s : StmtCore) → GivesBack g h (stmt_checks s) → stmt_by g (stmt_by h s) ≡ s
  stmt_back g h (core.Let number e) k = ap (λ (z : ExprCore). core.Let number z) (expr_back g h e k)
  stmt_back g h (core.LetCall number call) k = ap (λ (z : CallCore). core.LetCall number z) (call_back g h call k)
  stmt_back g h (core.Alloc number area None) k = refl
  stmt_back g h (core.Alloc number area (Some i)) k = ap (λ z. core.Alloc number area (Some z)) (init_back g h i k)
  stmt_back g h (core.Store target value) k = ap (λ (z : ExprCore). core.Store z (expr_by g (expr_by h value))) (expr_back g h target (left_part g h (expr_checks target) (expr_checks value) k)) ∙ ap (λ (z : ExprCore). core.Store target z) (expr_back g h value (right_part g h (expr_checks target) (expr_checks value) k))
  stmt_back g h (core.Copy target source) k = ap (λ (z : ExprCore). core.Copy z (expr_by g (expr_by h source))) (expr_back g h target (left_part g h (expr_checks target) (expr_checks source) k)) ∙ ap (λ (z : ExprCore). core.Copy target z) (expr_back g h source (right_part g h (expr_checks target) (expr_checks source) k))
  stmt_back g h (core.Call call) k = ap (λ (z : CallCore). core.Call z) (call_back g h call k)
  stmt_back g h (core.If test first) k = ap (λ (z : ExprCore). core.If z (stmts_by g (stmts_by h first))) (expr_back g h test (left_part g h (expr_checks test) (stmts_checks first) k)) ∙ ap (λ (z : StmtsCore). core.If test z) (stmts_back g h first (right_part g h (expr_checks test) (stmts_checks first) k))
  stmt_back g h (core.IfElse test first second) k = ap (λ (z : ExprCore). core.IfElse z (stmts_by g (stmts_by h first)) (stmts_by g (stmts_by h second))) (expr_back g h test (left_part g h (expr_checks test) ((stmts_checks first) ++ (stmts_checks second)) k)) ∙ ap (λ (z : StmtsCore). core.IfElse test z (stmts_by g (stmts_by h second))) (stmts_back g h first (left_part g h (stmts_checks first) (stmts_checks second) (right_part g h (expr_checks test) ((stmts_checks first) ++ (stmts_checks second)) k))) ∙ ap (λ (z : StmtsCore). core.IfElse test first z) (stmts_back g h second (right_part g h (stmts_checks first) (stmts_checks second) (right_part g h (expr_checks test) ((stmts_checks first) ++ (stmts_checks second)) k)))
  stmt_back g h (core.Map number n body) k = ap (λ (z : StmtsCore). core.Map number n z) (stmts_back g h body k)
  stmt_back g h (core.Upto number n bound body) k = ap (λ (z : ExprCore). core.Upto number n z (stmts_by g (stmts_by h body))) (expr_back g h bound (left_part g h (expr_checks bound) (stmts_checks body) k)) ∙ ap (λ (z : StmtsCore). core.Upto number n bound z) (stmts_back g h body (right_part g h (expr_checks bound) (stmts_checks body) k))
  stmt_back g h (core.Downto number n bound body) k = ap (λ (z : ExprCore). core.Downto number n z (stmts_by g (stmts_by h body))) (expr_back g h bound (left_part g h (expr_checks bound) (stmts_checks body) k)) ∙ ap (λ (z : StmtsCore). core.Downto number n bound z) (stmts_back g h body (right_part g h (expr_checks bound) (stmts_checks body) k))
  stmt_back g h (core.Forever body) k = ap (λ (z : StmtsCore). core.Forever z) (stmts_back g h body k)
  stmt_back g h core.Break k = refl
  stmt_back g h (core.Return None) k = refl
  stmt_back g h (core.Return (Some e)) k = ap (λ z. core.Return (Some z)) (expr_back g h e k)
  stmt_back g h (core.Assert cond check) k = ap (λ z. core.Assert z (g (h check))) (expr_back g h cond k.1) ∙ ap (core.Assert cond) k.0
  stmt_back g h (core.NoAlloc body) k = ap (λ (z : StmtsCore). core.NoAlloc z) (stmts_back g h body k)
  stmt_back g h (core.NoBreak body) k = ap (λ (z : StmtsCore). core.NoBreak z) (stmts_back g h body k)
  stmt_back g h (core.NoReturn body) k = ap (λ (z : StmtsCore). core.NoReturn z) (stmts_back g h body k)

  pub stmts_back : (g h : Check → Check) (ss : StmtsCore) → GivesBack g h (stmts_checks ss) → stmts_by g (stmts_by h ss) ≡ ss
  stmts_back g h core.NoStmts k = refl
  stmts_back g h (core.MoreStmts s ss) k =
      ap (λ z. core.MoreStmts z (stmts_by g (stmts_by h ss))) (stmt_back g h s (left_part g h (stmt_checks s) (stmts_checks ss) k)) ∙ ap (core.MoreStmts s) (stmts_back g h ss (right_part g h (stmt_checks s) (stmts_checks ss) k))

contract_back : (g h : Check → Check) (c : ContractCore) → GivesBack g h (contract_checks c) → contract_by g (contract_by h c) ≡ c
contract_back g h c k =
    ap (λ (z : ExprCore). record { before = c.before; cond = z; check = g (h c.check) }) (expr_back g h c.cond k.1) ∙ ap (λ (z : Check). record { before = c.before; cond = c.cond; check = z }) k.0

contracts_back : (g h : Check → Check) (cs : List ContractCore) → GivesBack g h (flat_map contract_checks cs) → map (contract_by g) (map (contract_by h) cs) ≡ cs
contracts_back g h [] k = refl
contracts_back g h (c ∷ cs) k =
    ap (λ z. z ∷ map (contract_by g) (map (contract_by h) cs)) (contract_back g h c (left_part g h (contract_checks c) (flat_map contract_checks cs) k))
    ∙ ap (λ zs. c ∷ zs) (contracts_back g h cs (right_part g h (contract_checks c) (flat_map contract_checks cs) k))

abbrev with_parts : ProcCore → List ContractCore → StmtsCore → ProcCore
with_parts p contracts body = record { name = p.name; exported = p.exported; params = p.params; result = p.result; contracts = contracts; locals = p.locals; body = body }

proc_back : (g h : Check → Check) (p : ProcCore) → GivesBack g h (proc_checks p) → proc_by g (proc_by h p) ≡ p
proc_back g h p k =
    ap (λ z. with_parts p z (stmts_by g (stmts_by h p.body))) (contracts_back g h p.contracts (left_part g h (flat_map contract_checks p.contracts) (stmts_checks p.body) k))
    ∙ ap (with_parts p p.contracts) (stmts_back g h p.body (right_part g h (flat_map contract_checks p.contracts) (stmts_checks p.body) k))

pub procs_back : (g h : Check → Check) (ps : List ProcCore) → GivesBack g h (flat_map proc_checks ps) → map (proc_by g) (map (proc_by h) ps) ≡ ps
procs_back g h [] k = refl
procs_back g h (p ∷ ps) k =
    ap (λ z. z ∷ map (proc_by g) (map (proc_by h) ps)) (proc_back g h p (left_part g h (proc_checks p) (flat_map proc_checks ps) k))
    ∙ ap (λ zs. p ∷ zs) (procs_back g h ps (right_part g h (proc_checks p) (flat_map proc_checks ps) k))

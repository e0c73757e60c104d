-- What has a type has it by its form.
use Rattle.std.proofs.Common.{◌≡◌, List, [], ◌∷◌, map, Option, Some, None, Bool, true, false, cond, ◌||◌, refl, sym, ◌∙◌, ap}
use Rattle.std.specs.List.{list_any, find}
use Rattle.iv_words.specs.Words.{same_word}
use Rattle.iv_words.specs.declared.Span.{Span}
use Rattle.ivory_tree.specs.Syntax as syntax
use Rattle.ivory_tree.specs.Syntax.{Word, ExprSyntax}
use Rattle.ivory_tree.specs.declared.expr.BinOp.{BinOp}
use Rattle.ivory_tree.specs.declared.expr.PrefixOp.{PrefixOp}
use Rattle.ivory_tree.specs.declared.expr.PrefixOp.TheVariants.{Neg, Not, Flip, Deref}
use Rattle.area_types.specs.Syntax as types
use Rattle.area_types.specs.Syntax.{ValueType}
use Rattle.core_tree.specs.Syntax as core
use Rattle.core_tree.specs.Syntax.{ExprCore}
use Rattle.source_types.specs.Operators.{is_logic, is_comparison, gives_truth, is_arithmetic}
use Rattle.source_types.specs.Settled.{settled}
use Rattle.rule_faults.specs.Contexts as faults
use Rattle.rule_faults.specs.Contexts.{Context}
use Rattle.rule_faults.specs.Types.{type_of, first_type}
use Rattle.core_tree.specs.Operators.{result_type}
use Rattle.typing_rules.specs.Environments.{Env, Local}
use Rattle.typing_rules.specs.Contexts.{local_of, context_of}
use Rattle.typing_rules.specs.Expressions as rule
use Rattle.typing_rules.specs.Expressions.{Has, Under}
use Rattle.typing_laws.specs.TypesAgree.{SettledAgree, WantedAgree}

-- ---- names

pub in_both : (name : Word) (ls : List Local) (l : Local) → find (λ (x : Local). same_word x.name name) ls ≡ Some l
    → (list_any (λ (x : faults.Local). same_word x.name name) (map local_of ls) ≡ true) × (find (λ (x : faults.Local). same_word x.name name) (map local_of ls) ≡ Some (local_of l))
in_both name [] l h = let no : ⊥ = cc in absurd no
in_both name (x ∷ ls) l h = go (in_both name ls l) (same_word x.name name) refl h
  where
    go : (find (λ (y : Local). same_word y.name name) ls ≡ Some l → (list_any (λ (y : faults.Local). same_word y.name name) (map local_of ls) ≡ true) × (find (λ (y : faults.Local). same_word y.name name) (map local_of ls) ≡ Some (local_of l)))
        → (b : Bool) → same_word x.name name ≡ b → cond b (Some x) (find (λ (y : Local). same_word y.name name) ls) ≡ Some l
        → (list_any (λ (y : faults.Local). same_word y.name name) (map local_of (x ∷ ls)) ≡ true) × (find (λ (y : faults.Local). same_word y.name name) (map local_of (x ∷ ls)) ≡ Some (local_of l))
    go ih true e g = (rw e refl, let q : x ≡ l = cc in rw (e, q) refl)
    go ih false e g = (rw (e, (ih g).0) refl, rw (e, (ih g).1) refl)

pub in_neither : (name : Word) (ls : List Local) → find (λ (x : Local). same_word x.name name) ls ≡ None → list_any (λ (x : faults.Local). same_word x.name name) (map local_of ls) ≡ false
in_neither name [] h = refl
in_neither name (x ∷ ls) h = go (in_neither name ls) (same_word x.name name) refl h
  where
    go : (find (λ (y : Local). same_word y.name name) ls ≡ None → list_any (λ (y : faults.Local). same_word y.name name) (map local_of ls) ≡ false)
        → (b : Bool) → same_word x.name name ≡ b → cond b (Some x) (find (λ (y : Local). same_word y.name name) ls) ≡ None → list_any (λ (y : faults.Local). same_word y.name name) (map local_of (x ∷ ls)) ≡ false
    go ih true e g = let no : ⊥ = cc in absurd no
    go ih false e g = rw (e, ih g) refl

-- ---- settled

or_true : (b : Bool) → b || true ≡ true
or_true true = refl
or_true false = refl

left_or : (x y z : Bool) → y ≡ true → (x || y) || z ≡ true
left_or true y z h = refl
left_or false y z h = rw h refl

right_or : (x y z : Bool) → z ≡ true → (x || y) || z ≡ true
right_or true y z h = refl
right_or false true z h = refl
right_or false false z h = h

pub gives : (op : BinOp) → is_logic op ≡ true → gives_truth op ≡ true
gives op h = rw h refl

pub has_settled : {env : Env} {e : ExprSyntax} {c : ExprCore} → Has env e c → settled e ≡ true
has_settled rule.truth = refl
has_settled (rule.outcome h g) = refl
has_settled (rule.local h) = refl
has_settled (rule.area_name n h g k) = refl
has_settled (rule.cast h i l) = refl
has_settled (rule.cast_literal n u) = refl
has_settled (rule.to_index n h i l) = refl
has_settled (rule.wrap_index n h i) = refl
has_settled (rule.make_bits n w u) = refl
has_settled (rule.raw h w) = refl
has_settled (rule.set_field h k f n u l) = refl
has_settled (rule.negated u) = refl
has_settled (rule.read h s) = refl
has_settled (rule.signed a h p l) = rw (a, has_settled h) refl
has_settled (rule.logical {op = op} {left = left} {right = right} l u v) = rw (gives op l) refl
has_settled (rule.by_left {op = op} {left = left} {right = right} l h u i k) = left_or (gives_truth op) (settled left) (settled right) (has_settled h)
has_settled (rule.by_right {op = op} {left = left} {right = right} l n h u i k) = right_or (gives_truth op) (settled left) (settled right) (has_settled h)
has_settled (rule.bit_field h k t n) = refl
has_settled (rule.field h k t n) = refl
has_settled (rule.element h k u) = refl
has_settled (rule.choice_by_first {first = first} {second = second} u h v n) = rw (has_settled h) refl
has_settled (rule.choice_by_second {first = first} {second = second} u n h v k) = rw (n, has_settled h) refl

-- ---- types

prefix_same : (context : Context) (wanted : Option ValueType) (s : Span) (op : PrefixOp) (e : ExprSyntax) → is_arithmetic op ≡ true → type_of context wanted (syntax.Prefix s op e) ≡ type_of context wanted e
prefix_same context wanted s Neg e h = refl
prefix_same context wanted s Flip e h = refl
prefix_same context wanted s Not e h = let no : ⊥ = cc in absurd no
prefix_same context wanted s Deref e h = let no : ⊥ = cc in absurd no

pub first_left : (left right : ExprSyntax) (x y : Option ValueType) → settled left ≡ true → first_type left right x y ≡ x
first_left left right x y h = rw h refl

pub first_right : (left right : ExprSyntax) (x y : Option ValueType) → settled left ≡ false → settled right ≡ true → first_type left right x y ≡ y
first_right left right x y h g = rw (h, g) refl

first_unsettled : (left right : ExprSyntax) (x y : Option ValueType) → settled left ≡ false → settled right ≡ false → first_type left right x y ≡ x
first_unsettled left right x y h g = rw (h, g) refl

operator_type : (op : BinOp) (t : ValueType) (o : Option ValueType) → is_logic op ≡ false → o ≡ Some t → cond (gives_truth op) (Some types.Truth) o ≡ Some (result_type op t)
operator_type op t o l h = go (is_comparison op) refl
  where
    go : (b : Bool) → is_comparison op ≡ b → cond (gives_truth op) (Some types.Truth) o ≡ Some (result_type op t)
    go true e = rw (l, e) refl
    go false e = rw (l, e, h) refl

pub typed : {env : Env} {e : ExprSyntax} {c : ExprCore} → Has env e c → (wanted : Option ValueType) → type_of (context_of env) wanted e ≡ Some (core.type_of c)
typed rule.truth w = refl
typed (rule.outcome h g) w = rw (h, g) refl
typed (rule.local {env = env} {name = name} {l = l} h) w = let p = in_both name env.scope l h in rw (p.0, p.1) refl
typed (rule.area_name {env = env} {name = name} n h g k) w = rw (in_neither name env.scope n, h, g) refl
typed (rule.cast h i l) w = ap Some (sym l.ty)
typed (rule.cast_literal n u) w = refl
typed (rule.to_index n h i l) w = rw (n, l.ty) refl
typed (rule.wrap_index n h i) w = rw n refl
typed (rule.make_bits n v u) w = rw n refl
typed (rule.raw h v) w = rw (typed h None, v) refl
typed (rule.set_field h k f n u l) w = rw (typed h None, k, l.ty) refl
typed (rule.negated u) w = refl
typed (rule.read h s) w = rw (typed h None, s) refl
typed (rule.signed {env = env} {s = s} {op = op} {e = e} a h p l) w = prefix_same (context_of env) w s op e a ∙ typed h w ∙ ap Some (sym l.ty)
typed (rule.logical {op = op} l u v) w = rw (gives op l) refl
typed (rule.by_left {env = env} {op = op} {left = left} {right = right} {c = c} l h u i k) w =
    operator_type op (core.type_of c) _ l (first_left left right (type_of (context_of env) w left) (type_of (context_of env) w right) (has_settled h) ∙ typed h w) ∙ ap Some (sym k.ty)
typed (rule.by_right {env = env} {op = op} {left = left} {right = right} {d = d} l n h u i k) w =
    operator_type op (core.type_of d) _ l (first_right left right (type_of (context_of env) w left) (type_of (context_of env) w right) n (has_settled h) ∙ typed h w) ∙ ap Some (sym k.ty)
typed (rule.bit_field h k t n) w = rw (typed h None, k, t) refl
typed (rule.field h k t n) w = rw (typed h None, t) refl
typed (rule.element h k u) w = rw (typed h None, k) refl
typed (rule.choice_by_first {env = env} {first = first} {second = second} u h v n) w = first_left first second (type_of (context_of env) w first) (type_of (context_of env) w second) (has_settled h) ∙ typed h w
typed (rule.choice_by_second {env = env} {first = first} {second = second} u n h v k) w = first_right first second (type_of (context_of env) w first) (type_of (context_of env) w second) n (has_settled h) ∙ typed h w

pub under_typed : {env : Env} {t : ValueType} {e : ExprSyntax} {c : ExprCore} → Under env t e c → (type_of (context_of env) (Some t) e ≡ Some t) × (core.type_of c ≡ t)
under_typed (rule.has {t = t} h e) = (typed h (Some t) ∙ ap Some e, e)
under_typed (rule.literal h) = (rw h refl, refl)
under_typed (rule.signed_under {env = env} {t = t} {s = s} {op = op} {e = e} a n u p l) = (prefix_same (context_of env) (Some t) s op e a ∙ (under_typed u).0, l.ty)
under_typed (rule.operated_under {env = env} {t = t} {left = left} {right = right} g n m u v i l) =
    (rw g (first_unsettled left right (type_of (context_of env) (Some t) left) (type_of (context_of env) (Some t) right) n m ∙ (under_typed u).0), l.ty)
under_typed (rule.choice_under {env = env} {t = t} {first = first} {second = second} b n m u v) =
    (first_unsettled first second (type_of (context_of env) (Some t) first) (type_of (context_of env) (Some t) second) n m ∙ (under_typed u).0, refl)

pub settled_agree : SettledAgree
settled_agree env e c h w = typed h w

pub wanted_agree : WantedAgree
wanted_agree env t e c u = under_typed u

pub ruleset agreement = (settled_agree, wanted_agree)

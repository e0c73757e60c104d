-- What is typed breaks no rule: each node of an expression is quiet.
use Rattle.std.proofs.Common.{◌≡◌, [], ◌∷◌, ◌++◌, Option, Some, None, Bool, true, false, cond, not, ◌&&◌, ◌||◌, refl, ◌∙◌, ap, IsTrue}
use Rattle.iv_words.specs.Words.{same_word}
use Rattle.ivory_tree.specs.Syntax as syntax
use Rattle.ivory_tree.specs.Syntax.{Word, ExprSyntax}
use Rattle.ivory_tree.specs.declared.expr.BinOp.{BinOp}
use Rattle.ivory_tree.specs.declared.expr.PrefixOp.{PrefixOp}
use Rattle.ivory_tree.specs.declared.expr.PrefixOp.TheVariants.{Neg, Not, Flip, Deref}
use Rattle.ivory_tree.specs.declared.items.BitsItem.{BitsItem}
use Rattle.area_types.specs.Syntax as types
use Rattle.area_types.specs.Syntax.{ValueType}
use Rattle.core_tree.specs.Syntax as core
use Rattle.core_tree.specs.Syntax.{ExprCore}
use Rattle.source_types.specs.Operators.{is_logic, is_comparison, gives_truth, is_arithmetic, is_for}
use Rattle.source_types.specs.Settled.{settled}
use Rattle.source_types.specs.Values.{is_bit_data, is_reference}
use Rattle.source_types.specs.Environments.{Earlier, AreaDeclared}
use Rattle.source_types.specs.Parts.{word_type}
use Rattle.rule_faults.specs.Contexts.{Context}
use Rattle.rule_faults.specs.Types.{type_of, own_type, first_type}
use Rattle.rule_faults.specs.Wants.{Want, Nothing, Wants, wanted_type, of_operand, of_arm, beside, of_cast, of_word, of_new_value, of_index}
use Rattle.rule_faults.specs.Nodes.{AnExpr}
use Rattle.rule_faults.specs.ExpressionRules.{differ, operand_type}
use Rattle.rule_faults.specs.ExpressionRows.{expr_row}
use Rattle.rule_faults.specs.FirstFault.{first_of}
use Rattle.rule_faults.specs.Tests.{where_there}
use Rattle.typing_laws.specs.Clean.{SettledIsClean, WantedIsClean}
use Rattle.typing_rules.specs.Environments.{Env}
use Rattle.typing_rules.specs.Contexts.{context_of}
use Rattle.typing_rules.specs.Expressions as rule
use Rattle.typing_rules.specs.Expressions.{Has, Under}
use Rattle.typing_laws.proofs.Lookups.{found_any, placed_any}
use Rattle.typing_laws.proofs.TypesAgree.{has_settled, typed, under_typed, in_both, in_neither, first_left}
use Rattle.typing_laws.proofs.Quiet.{AsWanted, InForm, quiet, quiet_cons, quiet_append, type_same, nothing_wanted, type_wanted, unsettled_wanted}

-- ---- what is named is there

word_bits : (earlier : Earlier) (t w : ValueType) → word_type earlier t ≡ Some w → is_bit_data t ≡ true
word_bits earlier (types.Bits k) w h = refl
word_bits earlier types.Truth w h = let no : ⊥ = cc in absurd no
word_bits earlier (types.Int k) w h = let no : ⊥ = cc in absurd no
word_bits earlier (types.Ix n) w h = let no : ⊥ = cc in absurd no
word_bits earlier (types.Ref c r a) w h = let no : ⊥ = cc in absurd no

-- ---- what is wanted of operands and arms

operand_or : (context : Context) (t : ValueType) (e : ExprSyntax) → Want
operand_or context t e = cond (settled e) Nothing (Wants t)

pub beside_settled : (context : Context) (want : Want) (op : BinOp) (x y : ExprSyntax) → is_logic op ≡ false → settled x ≡ true → beside context want op x y ≡ Nothing
beside_settled context want op x y l h = go (is_comparison op) refl
  where
    go : (b : Bool) → is_comparison op ≡ b → beside context want op x y ≡ Nothing
    go true e = rw (l, e, h) refl
    go false e = rw (l, e, h) refl

pub beside_other : (context : Context) (want : Want) (op : BinOp) (x y : ExprSyntax) (t : ValueType) → is_logic op ≡ false → settled y ≡ true → own_type context y ≡ Some t → beside context want op x y ≡ cond (settled x) Nothing (Wants t)
beside_other context want op x y t l h g = go (is_comparison op) refl
  where
    go : (b : Bool) → is_comparison op ≡ b → beside context want op x y ≡ cond (settled x) Nothing (Wants t)
    go true e = rw (l, e, h, g) refl
    go false e = rw (l, e, h, g) refl

pub beside_logic : (context : Context) (want : Want) (op : BinOp) (x y : ExprSyntax) → is_logic op ≡ true → beside context want op x y ≡ Wants types.Truth
beside_logic context want op x y l = rw l refl

pub not_logic : (op : BinOp) → gives_truth op ≡ false → (is_logic op ≡ false) × (is_comparison op ≡ false)
not_logic op h = go (is_logic op) (is_comparison op) refl refl h
  where
    go : (a b : Bool) → is_logic op ≡ a → is_comparison op ≡ b → a || b ≡ false → (is_logic op ≡ false) × (is_comparison op ≡ false)
    go false false e f g = (e, f)
    go true b e f g = let no : ⊥ = cc in absurd no
    go false true e f g = let no : ⊥ = cc in absurd no

pub beside_whole : (context : Context) (op : BinOp) (x y : ExprSyntax) (t : ValueType) → gives_truth op ≡ false → settled x ≡ false → settled y ≡ false → beside context (Wants t) op x y ≡ Wants t
beside_whole context op x y t g h k = let p = not_logic op g in rw (p.0, p.1, h, k) refl

-- ---- no two types

differ_not : (context : Context) (x y : ExprSyntax) (t : ValueType) → (settled x ≡ true → own_type context x ≡ Some t) → (settled y ≡ true → own_type context y ≡ Some t) → differ context x y ≡ false
differ_not context x y t f g = go (settled x) (settled y) refl refl
  where
    go : (a b : Bool) → settled x ≡ a → settled y ≡ b → differ context x y ≡ false
    go true true h k = rw (h, k, f h, g k, type_same t) refl
    go true false h k = rw (h, k) refl
    go false b h k = rw h refl

prefix_unsettled : (op : PrefixOp) (e : ExprSyntax) → is_arithmetic op ≡ true → settled e ≡ false → not (is_arithmetic op) || settled e ≡ false
prefix_unsettled op e a n = rw (a, n) refl

operator_unsettled : (op : BinOp) (x y : ExprSyntax) → gives_truth op ≡ false → settled x ≡ false → settled y ≡ false → gives_truth op || settled x || settled y ≡ false
operator_unsettled op x y g n m = rw (g, n, m) refl

arms_unsettled : (x y : ExprSyntax) → settled x ≡ false → settled y ≡ false → settled x || settled y ≡ false
arms_unsettled x y n m = rw (n, m) refl

not_both : {b : Bool} → b ≡ false → b ≡ true → ⊥
not_both h g = let no : ⊥ = cc in no

under_own : {env : Env} {t : ValueType} {e : ExprSyntax} {c : ExprCore} → Under env t e c → settled e ≡ true → own_type (context_of env) e ≡ Some t
under_own (rule.has h q) s = typed h None ∙ ap Some q
under_own (rule.literal h) s = let no : ⊥ = cc in absurd no
under_own (rule.signed_under {op = op} {e = e} a n u p l) s = absurd (not_both (prefix_unsettled op e a n) s)
under_own (rule.operated_under {op = op} {left = left} {right = right} g n m u v i l) s = absurd (not_both (operator_unsettled op left right g n m) s)
under_own (rule.choice_under {first = first} {second = second} b n m u v) s = absurd (not_both (arms_unsettled first second n m) s)

-- ---- forms of unsettled operators

-- rule 22, by the type that is wanted
operator_form : (env : Env) (op : BinOp) (x y : ExprSyntax) (t : ValueType) → gives_truth op ≡ false → settled x ≡ false → settled y ≡ false → type_of (context_of env) (Some t) x ≡ Some t → IsTrue (is_for op t)
    → not (is_logic op) && where_there (operand_type (context_of env) (Wants t) op x y) (λ u. not (is_for op u)) ≡ false
operator_form env op x y t g n m h i = rw ((not_logic op g).0, n, m, (not_logic op g).1, h, i) refl

operator_left : (context : Context) (want : Want) (op : BinOp) (x y : ExprSyntax) (t : ValueType) → is_logic op ≡ false → settled x ≡ true → ((wanted : Option ValueType) → type_of context wanted x ≡ Some t) → IsTrue (is_for op t)
    → not (is_logic op) && where_there (operand_type context want op x y) (λ u. not (is_for op u)) ≡ false
operator_left context want op x y t l h f i =
    let p : operand_type context want op x y ≡ Some t = first_left x y (type_of context (wanted_type (beside context want op x y)) x) (own_type context y) h ∙ f (wanted_type (beside context want op x y)) in
    ap (λ o. not (is_logic op) && where_there o (λ u. not (is_for op u))) p ∙ rw (l, i) refl

-- an unsettled expression has no type of its own
pub or_falses : (a b c : Bool) → a || b || c ≡ false → (a ≡ false) × (b ≡ false) × (c ≡ false)
or_falses false false false h = (refl, refl, refl)
or_falses true b c h = let no : ⊥ = cc in absurd no
or_falses false true c h = let no : ⊥ = cc in absurd no
or_falses false false true h = let no : ⊥ = cc in absurd no

none_alone : (context : Context) (e : ExprSyntax) → settled e ≡ false → own_type context e ≡ None
none_alone context (syntax.Literal s v) n = refl
none_alone context (syntax.Prefix s Neg e) n = none_alone context e n
none_alone context (syntax.Prefix s Flip e) n = none_alone context e n
none_alone context (syntax.Prefix s Not e) n = let no : ⊥ = cc in absurd no
none_alone context (syntax.Prefix s Deref e) n = let no : ⊥ = cc in absurd no
none_alone context (syntax.Binary s op at x y) n = let p = or_falses (gives_truth op) (settled x) (settled y) n in rw (p.0, p.1, p.2) (none_alone context x p.1)
none_alone context (syntax.Cond s test x y) n = let p = or_falses false (settled x) (settled y) n in rw (p.1, p.2) (none_alone context x p.1)
none_alone context (syntax.Bare s e) n = none_alone context e n
none_alone context (syntax.Truth s b) n = let no : ⊥ = cc in absurd no
none_alone context (syntax.Outcome s) n = let no : ⊥ = cc in absurd no
none_alone context (syntax.Variable s name) n = let no : ⊥ = cc in absurd no
none_alone context (syntax.Cast s kind e) n = let no : ⊥ = cc in absurd no
none_alone context (syntax.ToIndex s k e) n = let no : ⊥ = cc in absurd no
none_alone context (syntax.WrapIndex s k e) n = let no : ⊥ = cc in absurd no
none_alone context (syntax.MakeBits s name e) n = let no : ⊥ = cc in absurd no
none_alone context (syntax.Raw s e) n = let no : ⊥ = cc in absurd no
none_alone context (syntax.SetField s e name value) n = let no : ⊥ = cc in absurd no
none_alone context (syntax.Field s e name) n = let no : ⊥ = cc in absurd no
none_alone context (syntax.Element s brackets e index) n = let no : ⊥ = cc in absurd no

arms_form : (env : Env) (x y : ExprSyntax) → settled x ≡ false → settled y ≡ false → where_there (first_type x y (own_type (context_of env) x) (own_type (context_of env) y)) is_reference ≡ false
arms_form env x y n m = rw (n, m, none_alone (context_of env) x n) refl

-- ---- expressions

pub record UnderClean (context : Context) (t : ValueType) (e : ExprSyntax) : Type 0 where
  pub wanted : first_of (expr_row context (Wants t) e) ≡ None
  pub alone : settled e ≡ true → first_of (expr_row context Nothing e) ≡ None

-- the row of an expression with another name of what is wanted
pub row_at : (context : Context) (e : ExprSyntax) (v : Want) {w : Want} → v ≡ w → first_of (expr_row context w e) ≡ None → first_of (expr_row context v e) ≡ None
row_at context e v q h = ap (λ x. first_of (expr_row context x e)) q ∙ h

-- a node with no, one, two or three expressions in it
node_alone : (context : Context) (want : Want) (e : ExprSyntax) → AsWanted (AnExpr context want e) → InForm (AnExpr context want e) → first_of (AnExpr context want e ∷ []) ≡ None
node_alone context want e w f = quiet_cons (AnExpr context want e) [] (quiet context want e w f) refl

node_with : (context : Context) (want : Want) (e : ExprSyntax) → AsWanted (AnExpr context want e) → InForm (AnExpr context want e) → (x : ExprSyntax) (v : Want) → first_of (expr_row context v x) ≡ None
    → first_of (AnExpr context want e ∷ expr_row context v x) ≡ None
node_with context want e w f x v h = quiet_cons (AnExpr context want e) (expr_row context v x) (quiet context want e w f) h

node_with_two : (context : Context) (want : Want) (e : ExprSyntax) → AsWanted (AnExpr context want e) → InForm (AnExpr context want e)
    → (x : ExprSyntax) (v : Want) → first_of (expr_row context v x) ≡ None → (y : ExprSyntax) (u : Want) → first_of (expr_row context u y) ≡ None → first_of (AnExpr context want e ∷ (expr_row context v x ++ expr_row context u y)) ≡ None
node_with_two context want e w f x v h y u k = quiet_cons (AnExpr context want e) (expr_row context v x ++ expr_row context u y) (quiet context want e w f) (quiet_append (expr_row context v x) (expr_row context u y) h k)

node_with_three : (context : Context) (want : Want) (e : ExprSyntax) → AsWanted (AnExpr context want e) → InForm (AnExpr context want e)
    → (x : ExprSyntax) (v : Want) → first_of (expr_row context v x) ≡ None → (y : ExprSyntax) (u : Want) → first_of (expr_row context u y) ≡ None → (z : ExprSyntax) (r : Want) → first_of (expr_row context r z) ≡ None
    → first_of (AnExpr context want e ∷ (expr_row context v x ++ (expr_row context u y ++ expr_row context r z))) ≡ None
node_with_three context want e w f x v h y u k z r g =
    quiet_cons (AnExpr context want e) (expr_row context v x ++ (expr_row context u y ++ expr_row context r z)) (quiet context want e w f)
    (quiet_append (expr_row context v x) (expr_row context u y ++ expr_row context r z) h (quiet_append (expr_row context u y) (expr_row context r z) k g))

-- of an operand or arm beside a settled one
row_beside : (context : Context) (t : ValueType) (e : ExprSyntax) → UnderClean context t e → first_of (expr_row context (cond (settled e) Nothing (Wants t)) e) ≡ None
row_beside context t e u = go (settled e) refl
  where
    go : (b : Bool) → settled e ≡ b → first_of (expr_row context (cond (settled e) Nothing (Wants t)) e) ≡ None
    go true h = rw h (u.alone h)
    go false h = rw h u.wanted

mutual
  pub clean : {env : Env} {e : ExprSyntax} {c : ExprCore} → Has env e c → (want : Want) → AsWanted (AnExpr (context_of env) want e) → first_of (expr_row (context_of env) want e) ≡ None
  clean {env = env} (rule.truth {s = s} {b = b}) want w = node_alone (context_of env) want (syntax.Truth s b) w (refl, refl, refl, refl, refl, refl, refl, refl, refl, refl, refl, refl, refl, refl)
  clean {env = env} (rule.outcome {s = s} h g) want w = node_alone (context_of env) want (syntax.Outcome s) w (rw (h, g) refl, refl, refl, refl, refl, refl, refl, refl, refl, refl, refl, refl, refl, refl)
  clean {env = env} (rule.local {s = s} {name = name} {l = l} h) want w =
      node_alone (context_of env) want (syntax.Variable s name) w (let p = in_both name env.scope l h in rw p.0 refl, refl, refl, refl, refl, refl, refl, refl, refl, refl, refl, refl, refl, refl)
  clean {env = env} (rule.area_name {s = s} {name = name} {a = a} n h g k) want w =
      node_alone (context_of env) want (syntax.Variable s name) w (rw (in_neither name env.scope n, found_any (λ (x : AreaDeclared). same_word x.name name) env.earlier.areas a h) refl, refl, refl, refl, refl, refl, refl, refl, refl, refl, refl, refl, refl, refl)
  clean {env = env} (rule.cast {s = s} {kind = kind} {e = e} h i l) want w =
      node_with (context_of env) want (syntax.Cast s kind e) w (refl, refl, refl, refl, refl, refl, refl, refl, refl, refl, rw (has_settled h, typed h None, i) refl, refl, refl, refl)
      e (of_cast kind e) (row_at (context_of env) e (of_cast kind e) (rw (has_settled h) refl) (clean h Nothing (nothing_wanted (context_of env) e (has_settled h))))
  clean {env = env} (rule.cast_literal {s = s} {kind = kind} {e = e} n u) want w =
      node_with (context_of env) want (syntax.Cast s kind e) w (refl, refl, refl, refl, refl, refl, refl, refl, refl, refl, rw n refl, refl, refl, refl)
      e (of_cast kind e) (row_at (context_of env) e (of_cast kind e) (rw n refl) (clean_under u).wanted)
  clean {env = env} (rule.to_index {s = s} {n = n} {e = e} k h i l) want w =
      node_with (context_of env) want (syntax.ToIndex s n e) w (refl, refl, rw k refl, refl, refl, refl, refl, refl, refl, refl, refl, rw (typed h None, i) refl, refl, refl)
      e Nothing (clean h Nothing (nothing_wanted (context_of env) e (has_settled h)))
  clean {env = env} (rule.wrap_index {s = s} {n = n} {e = e} k h i) want w =
      node_with (context_of env) want (syntax.WrapIndex s n e) w (refl, refl, rw k refl, refl, refl, refl, refl, refl, refl, refl, refl, rw (typed h None, i) refl, refl, refl)
      e Nothing (clean h Nothing (nothing_wanted (context_of env) e (has_settled h)))
  clean {env = env} (rule.make_bits {s = s} {name = name} {e = e} {k = k} n v u) want w =
      node_with (context_of env) want (syntax.MakeBits s name e) w (refl, rw (placed_any (λ (x : BitsItem). same_word x.name.text name) 0 env.earlier.bits k n) refl, refl, refl, refl, refl, refl, refl, refl, refl, refl, refl, refl, refl)
      e (of_word (context_of env) name) (row_at (context_of env) e (of_word (context_of env) name) (rw (n, v) refl) (clean_under u).wanted)
  clean {env = env} (rule.raw {s = s} {e = e} {c = c} {word = word} h v) want w =
      node_with (context_of env) want (syntax.Raw s e) w (refl, refl, refl, refl, refl, refl, refl, refl, refl, refl, refl, refl, rw (typed h None, word_bits env.earlier (core.type_of c) word v) refl, refl)
      e Nothing (clean h Nothing (nothing_wanted (context_of env) e (has_settled h)))
  clean {env = env} (rule.set_field {s = s} {e = e} {value = value} {name = name} h k f n u l) want w =
      node_with_two (context_of env) want (syntax.SetField s e name value) w (refl, refl, refl, refl, refl, refl, refl, refl, rw (typed h None, k, f) refl, refl, refl, refl, rw (typed h None, k) refl, refl)
      e Nothing (clean h Nothing (nothing_wanted (context_of env) e (has_settled h)))
      value (of_new_value (context_of env) e name.text) (row_at (context_of env) value (of_new_value (context_of env) e name.text) (rw (typed h None, k, f) refl) (clean_under u).wanted)
  clean {env = env} (rule.negated {s = s} {e = e} u) want w = node_with (context_of env) want (syntax.Prefix s Not e) w (refl, refl, refl, refl, refl, refl, refl, refl, refl, refl, refl, refl, refl, refl)
      e (Wants types.Truth) (clean_under u).wanted
  clean {env = env} (rule.read {s = s} {e = e} h k) want w =
      node_with (context_of env) want (syntax.Prefix s Deref e) w (refl, refl, refl, refl, refl, refl, rw (typed h None, k) refl, refl, refl, refl, refl, refl, refl, refl)
      e Nothing (clean h Nothing (nothing_wanted (context_of env) e (has_settled h)))
  clean {env = env} (rule.signed {s = s} {op = Neg} {e = e} a h p l) want w =
      node_with (context_of env) want (syntax.Prefix s Neg e) w (refl, refl, refl, refl, refl, rw (typed h (wanted_type (of_operand Neg want e)), p) refl, refl, refl, refl, refl, refl, refl, refl, refl)
      e (of_operand Neg want e) (row_at (context_of env) e (of_operand Neg want e) (rw (has_settled h) refl) (clean h Nothing (nothing_wanted (context_of env) e (has_settled h))))
  clean {env = env} (rule.signed {s = s} {op = Flip} {e = e} a h p l) want w =
      node_with (context_of env) want (syntax.Prefix s Flip e) w (refl, refl, refl, refl, refl, rw (typed h (wanted_type (of_operand Flip want e)), p) refl, refl, refl, refl, refl, refl, refl, refl, refl)
      e (of_operand Flip want e) (row_at (context_of env) e (of_operand Flip want e) (rw (has_settled h) refl) (clean h Nothing (nothing_wanted (context_of env) e (has_settled h))))
  clean (rule.signed {op = Not} a h p l) want w = let no : ⊥ = cc in absurd no
  clean (rule.signed {op = Deref} a h p l) want w = let no : ⊥ = cc in absurd no
  clean {env = env} (rule.logical {s = s} {at = at} {op = op} {left = left} {right = right} l u v) want w =
      node_with_two (context_of env) want (syntax.Binary s op at left right) w (refl, refl, refl, refl, differ_not (context_of env) left right types.Truth (under_own u) (under_own v), rw l refl, refl, refl, refl, refl, refl, refl, refl, refl)
      left (beside (context_of env) want op left right) (row_at (context_of env) left (beside (context_of env) want op left right) (beside_logic (context_of env) want op left right l) (clean_under u).wanted)
      right (beside (context_of env) want op right left) (row_at (context_of env) right (beside (context_of env) want op right left) (beside_logic (context_of env) want op right left l) (clean_under v).wanted)
  clean {env = env} (rule.by_left {s = s} {at = at} {op = op} {left = left} {right = right} {c = c} l h u i k) want w =
      node_with_two (context_of env) want (syntax.Binary s op at left right) w (
        refl,
        refl,
        refl,
        refl,
        differ_not (context_of env) left right (core.type_of c) (λ q. typed h None) (under_own u),
        operator_left (context_of env) want op left right (core.type_of c) l (has_settled h) (typed h) i,
        refl,
        refl,
        refl,
        refl,
        refl,
        refl,
        refl,
        refl,
      )
      left (beside (context_of env) want op left right) (row_at (context_of env) left (beside (context_of env) want op left right) (beside_settled (context_of env) want op left right l (has_settled h)) (clean h Nothing (nothing_wanted (context_of env) left (has_settled h))))
      right (beside (context_of env) want op right left) (row_at (context_of env) right (beside (context_of env) want op right left) (beside_other (context_of env) want op right left (core.type_of c) l (has_settled h) (typed h None)) (row_beside (context_of env) (core.type_of c) right (clean_under u)))
  clean {env = env} (rule.by_right {s = s} {at = at} {op = op} {left = left} {right = right} {d = d} l n h u i k) want w =
      node_with_two (context_of env) want (syntax.Binary s op at left right) w (refl, refl, refl, refl, differ_not (context_of env) left right (core.type_of d) (under_own u) (λ q. typed h None), rw (l, n, has_settled h, typed h None, i) refl, refl, refl, refl, refl, refl, refl, refl, refl)
      left (beside (context_of env) want op left right) (row_at (context_of env) left (beside (context_of env) want op left right) (beside_other (context_of env) want op left right (core.type_of d) l (has_settled h) (typed h None)) (row_beside (context_of env) (core.type_of d) left (clean_under u)))
      right (beside (context_of env) want op right left) (row_at (context_of env) right (beside (context_of env) want op right left) (beside_settled (context_of env) want op right left l (has_settled h)) (clean h Nothing (nothing_wanted (context_of env) right (has_settled h))))
  clean {env = env} (rule.bit_field {s = s} {e = e} {name = name} h k t n) want w =
      node_with (context_of env) want (syntax.Field s e name) w (refl, refl, refl, refl, refl, refl, refl, rw (typed h None, k) refl, rw (typed h None, k, t) refl, refl, refl, refl, refl, refl)
      e Nothing (clean h Nothing (nothing_wanted (context_of env) e (has_settled h)))
  clean {env = env} (rule.field {s = s} {e = e} {name = name} h k t n) want w =
      node_with (context_of env) want (syntax.Field s e name) w (refl, refl, refl, refl, refl, refl, refl, rw (typed h None, k) refl, let t2 = rw k at t in rw (typed h None, k, t2) refl, refl, refl, refl, refl, refl)
      e Nothing (clean h Nothing (nothing_wanted (context_of env) e (has_settled h)))
  clean {env = env} (rule.element {s = s} {brackets = brackets} {e = e} {index = index} h k u) want w =
      node_with_two (context_of env) want (syntax.Element s brackets e index) w (refl, refl, refl, refl, refl, refl, refl, refl, refl, rw (typed h None, k) refl, refl, refl, refl, refl)
      e Nothing (clean h Nothing (nothing_wanted (context_of env) e (has_settled h)))
      index (of_index (context_of env) e) (row_at (context_of env) index (of_index (context_of env) e) (rw (typed h None, k) refl) (clean_under u).wanted)
  clean {env = env} (rule.choice_by_first {s = s} {test = test} {first = first} {second = second} {c = c} u h v n) want w =
      node_with_three (context_of env) want (syntax.Cond s test first second) w (refl, refl, refl, refl, differ_not (context_of env) first second (core.type_of c) (λ q. typed h None) (under_own v), refl, refl, refl, refl, refl, refl, refl, refl, rw (has_settled h, typed h None, n) refl)
      test (Wants types.Truth) (clean_under u).wanted
      first (of_arm (context_of env) want first second) (row_at (context_of env) first (of_arm (context_of env) want first second) (rw (has_settled h) refl) (clean h Nothing (nothing_wanted (context_of env) first (has_settled h))))
      second (of_arm (context_of env) want second first) (row_at (context_of env) second (of_arm (context_of env) want second first) (rw (has_settled h, typed h None) refl) (row_beside (context_of env) (core.type_of c) second (clean_under v)))
  clean {env = env} (rule.choice_by_second {s = s} {test = test} {first = first} {second = second} {d = d} u m h v n) want w =
      node_with_three (context_of env) want (syntax.Cond s test first second) w (refl, refl, refl, refl, differ_not (context_of env) first second (core.type_of d) (under_own v) (λ q. typed h None), refl, refl, refl, refl, refl, refl, refl, refl, rw (m, has_settled h, typed h None, n) refl)
      test (Wants types.Truth) (clean_under u).wanted
      first (of_arm (context_of env) want first second) (row_at (context_of env) first (of_arm (context_of env) want first second) (rw (has_settled h, typed h None) refl) (row_beside (context_of env) (core.type_of d) first (clean_under v)))
      second (of_arm (context_of env) want second first) (row_at (context_of env) second (of_arm (context_of env) want second first) (rw (has_settled h) refl) (clean h Nothing (nothing_wanted (context_of env) second (has_settled h))))

  pub clean_under : {env : Env} {t : ValueType} {e : ExprSyntax} {c : ExprCore} → Under env t e c → UnderClean (context_of env) t e
  clean_under {env = env} {t = t} {e = e} (rule.has h q) = record {
    wanted = clean h (Wants t) (type_wanted (context_of env) t e (has_settled h) (typed h None ∙ ap Some q));
    alone = λ s. clean h Nothing (nothing_wanted (context_of env) e s);
  }
  clean_under {env = env} {t = t} (rule.literal {s = s} {v = v} h) = record {
    wanted = node_alone (context_of env) (Wants t) (syntax.Literal s v) (unsettled_wanted (context_of env) t (syntax.Literal s v) refl) (refl, refl, refl, rw h refl, refl, refl, refl, refl, refl, refl, refl, refl, refl, refl);
    alone = λ s. let no : ⊥ = cc in absurd no;
  }
  clean_under {env = env} {t = t} (rule.signed_under {s = s} {op = Neg} {e = e} a n u p l) = record {
    wanted = node_with (context_of env) (Wants t) (syntax.Prefix s Neg e) (unsettled_wanted (context_of env) t (syntax.Prefix s Neg e) n) (refl, refl, refl, refl, refl, rw (n, (under_typed u).0, p) refl, refl, refl, refl, refl, refl, refl, refl, refl)
        e (of_operand Neg (Wants t) e) (row_at (context_of env) e (of_operand Neg (Wants t) e) (rw n refl) (clean_under u).wanted);
    alone = λ q. absurd (not_both n q);
  }
  clean_under {env = env} {t = t} (rule.signed_under {s = s} {op = Flip} {e = e} a n u p l) = record {
    wanted = node_with (context_of env) (Wants t) (syntax.Prefix s Flip e) (unsettled_wanted (context_of env) t (syntax.Prefix s Flip e) n) (refl, refl, refl, refl, refl, rw (n, (under_typed u).0, p) refl, refl, refl, refl, refl, refl, refl, refl, refl)
        e (of_operand Flip (Wants t) e) (row_at (context_of env) e (of_operand Flip (Wants t) e) (rw n refl) (clean_under u).wanted);
    alone = λ q. absurd (not_both n q);
  }
  clean_under (rule.signed_under {op = Not} a n u p l) = let no : ⊥ = cc in absurd no
  clean_under (rule.signed_under {op = Deref} a n u p l) = let no : ⊥ = cc in absurd no
  clean_under {env = env} {t = t} (rule.operated_under {s = s} {at = at} {op = op} {left = left} {right = right} g n m u v i l) = record {
    wanted = node_with_two (context_of env) (Wants t) (syntax.Binary s op at left right) (unsettled_wanted (context_of env) t (syntax.Binary s op at left right) (operator_unsettled op left right g n m)) (refl, refl, refl, refl, rw n refl, operator_form env op left right t g n m (under_typed u).0 i, refl, refl, refl, refl, refl, refl, refl, refl)
        left (beside (context_of env) (Wants t) op left right) (row_at (context_of env) left (beside (context_of env) (Wants t) op left right) (beside_whole (context_of env) op left right t g n m) (clean_under u).wanted)
        right (beside (context_of env) (Wants t) op right left) (row_at (context_of env) right (beside (context_of env) (Wants t) op right left) (beside_whole (context_of env) op right left t g m n) (clean_under v).wanted);
    alone = λ q. absurd (not_both (operator_unsettled op left right g n m) q);
  }
  clean_under {env = env} {t = t} (rule.choice_under {s = s} {test = test} {first = first} {second = second} b n m u v) = record {
    wanted = node_with_three (context_of env) (Wants t) (syntax.Cond s test first second) (unsettled_wanted (context_of env) t (syntax.Cond s test first second) (arms_unsettled first second n m)) (refl, refl, refl, refl, rw n refl, refl, refl, refl, refl, refl, refl, refl, refl, arms_form env first second n m)
        test (Wants types.Truth) (clean_under b).wanted
        first (of_arm (context_of env) (Wants t) first second) (row_at (context_of env) first (of_arm (context_of env) (Wants t) first second) (rw (n, m) refl) (clean_under u).wanted)
        second (of_arm (context_of env) (Wants t) second first) (row_at (context_of env) second (of_arm (context_of env) (Wants t) second first) (rw (n, m) refl) (clean_under v).wanted);
    alone = λ q. absurd (not_both (arms_unsettled first second n m) q);
  }

pub settled_is_clean : SettledIsClean
settled_is_clean env e c h = clean h Nothing (nothing_wanted (context_of env) e (has_settled h))

pub wanted_is_clean : WantedIsClean
wanted_is_clean env t e c u = (clean_under u).wanted

pub ruleset clean_laws = (settled_is_clean, wanted_is_clean)

-- An expression that breaks no rule is typed.
use Rattle.std.proofs.Common.{◌≡◌, ℕ, ◌+◌, List, [], ◌∷◌, ◌++◌, map, length, Option, Some, None, option_map, option_and_then, is_some, Bool, true, false, cond, not, ◌&&◌, ◌||◌, refl, sym, ◌∙◌, ap, ℤ, slice_get}
use Rattle.std.specs.List.{find, position_from, list_any}
use Rattle.iv_words.specs.Words.{same_word}
use Rattle.iv_words.specs.declared.IntKind.{IntKind}
use Rattle.iv_words.specs.declared.Name.{Name}
use Rattle.iv_words.specs.declared.Span.{Span}
use Rattle.ivory_tree.specs.Syntax as syntax
use Rattle.ivory_tree.specs.Syntax.{Word, ExprSyntax}
use Rattle.ivory_tree.specs.Formed.{FormedExpr}
use Rattle.ivory_tree.specs.declared.expr.BinOp.{BinOp}
use Rattle.ivory_tree.specs.declared.expr.PrefixOp.TheVariants.{Neg, Not, Flip, Deref}
use Rattle.ivory_tree.specs.declared.items.BitField.{BitField}
use Rattle.ivory_tree.specs.declared.items.BitsItem.{BitsItem}
use Rattle.area_types.specs.Syntax as types
use Rattle.area_types.specs.Syntax.{ValueType, Area, StructType}
use Rattle.area_types.specs.Tables.{is_length}
use Rattle.area_types.specs.declared.region.Region.{Region}
use Rattle.area_types.specs.declared.region.Region.TheVariants.{Global}
use Rattle.core_tree.specs.Syntax as core
use Rattle.core_tree.specs.Syntax.{ExprCore, type_of}
use Rattle.core_tree.specs.declared.SiteKind.{SiteKind}
use Rattle.core_tree.specs.declared.Check.{Check}
use Rattle.source_types.specs.Operators.{is_logic, is_comparison, gives_truth, is_for, prefix_is_for}
use Rattle.source_types.specs.Settled.{settled}
use Rattle.source_types.specs.Values.{holds, is_integer, is_index_type, is_bit_data, is_reference, same_type}
use Rattle.source_types.specs.Environments.{Earlier, AreaDeclared, is_area}
use Rattle.source_types.specs.Parts.{stored_type, length_behind, field_type, field_named, word_type, bit_field_type, bit_field_named, bit_field_number, field_number}
use Rattle.source_types.specs.Values.{least_unsigned}
use Rattle.rule_faults.specs.Contexts.{Context, in_scope}
use Rattle.rule_faults.specs.Types as faults
use Rattle.rule_faults.specs.Types.{own_type, first_type}
use Rattle.rule_faults.specs.Wants.{Want, Nothing, Wants, part, wants, wanted_type, of_operand, of_arm, beside, of_cast, of_word, of_new_value, of_index}
use Rattle.rule_faults.specs.Nodes.{AnExpr}
use Rattle.rule_faults.specs.Tests.{where_there}
use Rattle.rule_faults.specs.ExpressionRules.{differ, stores, has_fields, operand_type}
use Rattle.rule_faults.specs.ExpressionRows.{expr_row}
use Rattle.rule_faults.specs.FirstFault.{first_of}
use Rattle.typing_rules.specs.Environments.{Env, Local, local_named}
use Rattle.typing_rules.specs.Contexts.{context_of}
use Rattle.core_tree.specs.Operators.{operator_sites, prefix_sites, cast_sites, result_type}
use Rattle.typing_rules.specs.Sites.{Labelled, unchecked, index_sites, set_sites, first_token, name_bytes}
use Rattle.typing_rules.specs.Expressions as rule
use Rattle.typing_rules.specs.Expressions.{Has, Under, truth_value, chain, field_of, element_of}
use Rattle.typing_laws.proofs.Lookups.{and_both, neither, mapped, bound}
use Rattle.typing_laws.proofs.TypesAgree.{typed, under_typed, in_neither, first_left, first_right}
use Rattle.typing_laws.proofs.Clean.{beside_settled, beside_other, beside_logic, beside_whole, not_logic, or_falses}
use Rattle.typing_rules.specs.ExpressionCores.{bare}
use Rattle.typing_laws.proofs.Judged.{Judged, cons_parts, row_parts, sure, no_test}
use Rattle.typing_laws.proofs.Equal.{type_equal}
use Rattle.typing_laws.proofs.Made.{MadeType, Ready, has_made, area_there, position_below, below_zero, below_there}

-- ---- what is there

pub record Placed (A : Type 0) (f : A → Bool) (i : ℕ) (xs : List A) : Type 0 where
  pub number : ℕ
  pub at : position_from f i xs ≡ Some number

pub any_placed : {A : Type 0} (f : A → Bool) (i : ℕ) (xs : List A) → list_any f xs ≡ true → Placed A f i xs
any_placed f i [] h = let no : ⊥ = cc in absurd no
any_placed f i (x ∷ xs) h = go (any_placed f (i + 1) xs) (f x) refl h
  where
    go : (list_any f xs ≡ true → Placed _ f (i + 1) xs) → (b : Bool) → f x ≡ b → b || list_any f xs ≡ true → Placed _ f i (x ∷ xs)
    go ih true e g = record { number = i; at = ap (λ b. cond b (Some i) (position_from f (i + 1) xs)) e }
    go ih false e g = let p = ih g in record { number = p.number; at = ap (λ b. cond b (Some i) (position_from f (i + 1) xs)) e ∙ p.at }

pub record FoundOne (A : Type 0) (f : A → Bool) (xs : List A) : Type 0 where
  pub value : A
  pub at : find f xs ≡ Some value

pub any_found : {A : Type 0} (f : A → Bool) (xs : List A) → list_any f xs ≡ true → FoundOne A f xs
any_found f [] h = let no : ⊥ = cc in absurd no
any_found f (x ∷ xs) h = go (any_found f xs) (f x) refl h
  where
    go : (list_any f xs ≡ true → FoundOne _ f xs) → (b : Bool) → f x ≡ b → b || list_any f xs ≡ true → FoundOne _ f (x ∷ xs)
    go ih true e g = record { value = x; at = ap (λ b. cond b (Some x) (find f xs)) e }
    go ih false e g = let p = ih g in record { value = p.value; at = ap (λ b. cond b (Some x) (find f xs)) e ∙ p.at }

pub found_placed : {A : Type 0} (f : A → Bool) (i : ℕ) (xs : List A) (x : A) → find f xs ≡ Some x → Placed A f i xs
found_placed f i [] x h = let no : ⊥ = cc in absurd no
found_placed f i (y ∷ xs) x h = go (found_placed f (i + 1) xs x) (f y) refl h
  where
    go : (find f xs ≡ Some x → Placed _ f (i + 1) xs) → (b : Bool) → f y ≡ b → cond b (Some y) (find f xs) ≡ Some x → Placed _ f i (y ∷ xs)
    go ih true e g = record { number = i; at = ap (λ b. cond b (Some i) (position_from f (i + 1) xs)) e }
    go ih false e g = let p = ih g in record { number = p.number; at = ap (λ b. cond b (Some i) (position_from f (i + 1) xs)) e ∙ p.at }

pub record There (A : Type 0) (o : Option A) : Type 0 where
  pub value : A
  pub at : o ≡ Some value

pub there : {A : Type 0} (o : Option A) → is_some o ≡ true → There A o
there (Some x) h = record { value = x; at = refl }
there None h = let no : ⊥ = cc in absurd no

-- ---- labels

kinds_at : (kinds : List SiteKind) (at : Span) → map (λ (c : Check). c.kind) (map (λ (k : SiteKind). record { site = 0; kind = k; span = at }) kinds) ≡ kinds
kinds_at [] at = refl
kinds_at (k ∷ kinds) at = ap (λ ks. k ∷ ks) (kinds_at kinds at)

places_at : (kinds : List SiteKind) (at : Span) → map (λ (c : Check). c.span) (map (λ (k : SiteKind). record { site = 0; kind = k; span = at }) kinds) ≡ map (λ (k : SiteKind). at) kinds
places_at [] at = refl
places_at (k ∷ kinds) at = ap (λ ss. at ∷ ss) (places_at kinds at)

bare_label : (t : ValueType) (kinds : List SiteKind) (at : Span) → Labelled (bare t kinds at) t kinds at
bare_label t kinds at = record { ty = refl; checks = record { kinds = kinds_at kinds at; places = places_at kinds at } }

-- ---- what is to be shown

pub record Typed (env : Env) (e : ExprSyntax) : Type 0 where
  pub core : ExprCore
  pub has : Has env e core

pub record TypedUnder (env : Env) (t : ValueType) (e : ExprSyntax) : Type 0 where
  pub core : ExprCore
  pub under : Under env t e core

pub record Can (env : Env) (e : ExprSyntax) : Type 0 where
  pub settled_so : settled e ≡ true → (want : Want) → first_of (expr_row (context_of env) want e) ≡ None → Typed env e
  pub wanted_so : settled e ≡ false → (t : ValueType) → first_of (expr_row (context_of env) (Wants t) e) ≡ None → TypedUnder env t e

-- the node of an expression comes first in its row
pub at_head : (context : Context) (want : Want) (e : ExprSyntax) → first_of (expr_row context want e) ≡ None → Judged (AnExpr context want e)
at_head context want (syntax.Literal s v) h = (cons_parts (AnExpr context want (syntax.Literal s v)) [] h).first
at_head context want (syntax.Truth s b) h = (cons_parts (AnExpr context want (syntax.Truth s b)) [] h).first
at_head context want (syntax.Outcome s) h = (cons_parts (AnExpr context want (syntax.Outcome s)) [] h).first
at_head context want (syntax.Variable s name) h = (cons_parts (AnExpr context want (syntax.Variable s name)) [] h).first
at_head context want (syntax.Cast s kind e) h = (cons_parts (AnExpr context want (syntax.Cast s kind e)) (expr_row context (of_cast kind e) e) h).first
at_head context want (syntax.ToIndex s n e) h = (cons_parts (AnExpr context want (syntax.ToIndex s n e)) (expr_row context Nothing e) h).first
at_head context want (syntax.WrapIndex s n e) h = (cons_parts (AnExpr context want (syntax.WrapIndex s n e)) (expr_row context Nothing e) h).first
at_head context want (syntax.MakeBits s name e) h = (cons_parts (AnExpr context want (syntax.MakeBits s name e)) (expr_row context (of_word context name) e) h).first
at_head context want (syntax.Raw s e) h = (cons_parts (AnExpr context want (syntax.Raw s e)) (expr_row context Nothing e) h).first
at_head context want (syntax.SetField s e name value) h = (cons_parts (AnExpr context want (syntax.SetField s e name value)) (expr_row context Nothing e ++ expr_row context (of_new_value context e name.text) value) h).first
at_head context want (syntax.Prefix s op e) h = (cons_parts (AnExpr context want (syntax.Prefix s op e)) (expr_row context (of_operand op want e) e) h).first
at_head context want (syntax.Binary s op at left right) h = (cons_parts (AnExpr context want (syntax.Binary s op at left right)) (expr_row context (beside context want op left right) left ++ expr_row context (beside context want op right left) right) h).first
at_head context want (syntax.Field s e name) h = (cons_parts (AnExpr context want (syntax.Field s e name)) (expr_row context Nothing e) h).first
at_head context want (syntax.Element s brackets e index) h = (cons_parts (AnExpr context want (syntax.Element s brackets e index)) (expr_row context Nothing e ++ expr_row context (of_index context e) index) h).first
at_head context want (syntax.Cond s test first second) h = (cons_parts (AnExpr context want (syntax.Cond s test first second)) (expr_row context (Wants types.Truth) test ++ (expr_row context (of_arm context want first second) first ++ expr_row context (of_arm context want second first) second)) h).first
at_head context want (syntax.Bare s e) h = (cons_parts (AnExpr context want (syntax.Bare s e)) (expr_row context want e) h).first

not_both : {b : Bool} → b ≡ false → b ≡ true → ⊥
not_both h g = let no : ⊥ = cc in no

-- nothing is wanted of it, so it is settled
pub alone_typed : {env : Env} {e : ExprSyntax} → Can env e → first_of (expr_row (context_of env) Nothing e) ≡ None → Typed env e
alone_typed {env = env} {e = e} can h = can.settled_so (sure (settled e) (at_head (context_of env) Nothing e h).r18) Nothing h

-- where what is wanted is no reference
as_wanted : (env : Env) (t : ValueType) (e : ExprSyntax) → is_reference t ≡ false → settled e ≡ true → Typed env e → Judged (AnExpr (context_of env) (Wants t) e) → TypedUnder env t e
as_wanted env t e r s c j =
    let test : not (same_type (type_of c.core) t) ≡ false = sym (rw (r, s, typed c.has None) refl) ∙ j.r20 in
    record { core = c.core; under = rule.has c.has (type_equal (type_of c.core) t (sure (same_type (type_of c.core) t) test)) }

pub wanted_typed : {env : Env} {e : ExprSyntax} → Can env e → (t : ValueType) → is_reference t ≡ false → first_of (expr_row (context_of env) (Wants t) e) ≡ None → TypedUnder env t e
wanted_typed {env = env} {e = e} can t r h = go (settled e) refl
  where
    go : (b : Bool) → settled e ≡ b → TypedUnder env t e
    go true s = as_wanted env t e r s (can.settled_so s (Wants t) h) (at_head (context_of env) (Wants t) e h)
    go false s = can.wanted_so s t h

row_as : (context : Context) (e : ExprSyntax) {v w : Want} → v ≡ w → first_of (expr_row context v e) ≡ None → first_of (expr_row context w e) ≡ None
row_as context e q h = ap (λ x. first_of (expr_row context x e)) (sym q) ∙ h

-- beside a settled operand or arm of this type
beside_typed : {env : Env} {e : ExprSyntax} → Can env e → (t : ValueType) → (settled e ≡ true → (u : ValueType) → own_type (context_of env) e ≡ Some u → u ≡ t) → first_of (expr_row (context_of env) (cond (settled e) Nothing (Wants t)) e) ≡ None → TypedUnder env t e
beside_typed {env = env} {e = e} can t same h = go (settled e) refl
  where
    go : (b : Bool) → settled e ≡ b → TypedUnder env t e
    go true s =
        let c = can.settled_so s Nothing (row_as (context_of env) e (ap (λ x. cond x Nothing (Wants t)) s) h) in
        record { core = c.core; under = rule.has c.has (same s (type_of c.core) (typed c.has None)) }
    go false s = can.wanted_so s t (row_as (context_of env) e (ap (λ x. cond x Nothing (Wants t)) s) h)

-- two settled ones have the same type
no_difference : (context : Context) (x y : ExprSyntax) (t u : ValueType) → settled x ≡ true → settled y ≡ true → own_type context x ≡ Some t → own_type context y ≡ Some u → differ context x y ≡ false → t ≡ u
no_difference context x y t u s q h k d =
    let test : not (same_type t u) ≡ false = sym (rw (s, q, h, k) refl) ∙ d in
    type_equal t u (sure (same_type t u) test)

-- ---- forms that are always settled

only_settled : {env : Env} {e : ExprSyntax} → settled e ≡ true → ((want : Want) → first_of (expr_row (context_of env) want e) ≡ None → Typed env e) → Can env e
only_settled s f = record { settled_so = λ q want h. f want h; wanted_so = λ n t h. absurd (not_both n s) }

literal_can : (env : Env) (s : Span) (v : ℤ) → Can env (syntax.Literal s v)
literal_can env s v = record {
  settled_so = λ q want h. let no : ⊥ = cc in absurd no;
  wanted_so = λ n t h. let j = at_head (context_of env) (Wants t) (syntax.Literal s v) h in record { core = core.Number (unchecked t) v; under = rule.literal (sure (holds t v) j.r19) };
}

outcome_can : (env : Env) (s : Span) → Can env (syntax.Outcome s)
outcome_can env s = only_settled refl (λ want h.
    let j = at_head (context_of env) want (syntax.Outcome s) h in
    let p = and_both env.in_ensures (is_some env.result) (sure (env.in_ensures && is_some env.result) j.r4) in
    let t = there env.result p.1 in
    record { core = core.Outcome (unchecked t.value); has = rule.outcome p.0 t.at })

variable_can : (env : Env) (s : Span) (name : Word) → Ready env → Can env (syntax.Variable s name)
variable_can env s name m = only_settled refl (λ want h. go (at_head (context_of env) want (syntax.Variable s name) h).r4 (local_named env name) refl)
  where
    go : not (in_scope (context_of env) name || is_area env.earlier name) ≡ false → (o : Option Local) → local_named env name ≡ o → Typed env (syntax.Variable s name)
    go r (Some l) e = record { core = core.Local (unchecked l.ty) l.number; has = rule.local e }
    go r None e =
        let known : in_scope (context_of env) name || is_area env.earlier name ≡ true = sure (in_scope (context_of env) name || is_area env.earlier name) r in
        let area : is_area env.earlier name ≡ true = sym (ap (λ b. b || is_area env.earlier name) (in_neither name env.scope e)) ∙ known in
        let a = any_found (λ (x : AreaDeclared). same_word x.name name) env.earlier.areas area in
        let t = area_there (length env.earlier.bits) (length env.earlier.structs) (λ (x : AreaDeclared). same_word x.name name) env.earlier.areas a.value m.0.areas a.at in
        let n = found_placed (λ (x : AreaDeclared). same_word x.name name) 0 env.earlier.areas a.value a.at in
        record { core = core.AreaName (unchecked (types.Ref a.value.constant Global t.area)) n.number; has = rule.area_name e a.at t.there n.at }

cast_test : (context : Context) (e : ExprSyntax) (t : ValueType) → settled e ≡ true → own_type context e ≡ Some t
    → settled e && where_there (own_type context e) (λ u. not (is_integer u || is_index_type u)) ≡ not (is_integer t || is_index_type t)
cast_test context e t q h = rw (q, h) refl

cast_can : (env : Env) (s : Span) (kind : IntKind) (e : ExprSyntax) → Can env e → Can env (syntax.Cast s kind e)
cast_can env s kind e can = only_settled refl (λ want h. let p = cons_parts (AnExpr (context_of env) want (syntax.Cast s kind e)) (expr_row (context_of env) (of_cast kind e) e) h in go want p.first p.rest (settled e) refl)
  where
    go : (want : Want) → Judged (AnExpr (context_of env) want (syntax.Cast s kind e)) → first_of (expr_row (context_of env) (of_cast kind e) e) ≡ None → (b : Bool) → settled e ≡ b → Typed env (syntax.Cast s kind e)
    go want j h true q =
        let c = can.settled_so q Nothing (row_as (context_of env) e (ap (λ b. cond b Nothing (Wants (types.Int kind))) q) h) in
        let test : not (is_integer (type_of c.core) || is_index_type (type_of c.core)) ≡ false = sym (cast_test (context_of env) e (type_of c.core) q (typed c.has None)) ∙ j.r27 in
        record {
          core = core.Cast (bare (types.Int kind) (cast_sites kind (type_of c.core)) (first_token s (name_bytes kind))) c.core;
          has = rule.cast c.has (sure (is_integer (type_of c.core) || is_index_type (type_of c.core)) test) (bare_label (types.Int kind) (cast_sites kind (type_of c.core)) (first_token s (name_bytes kind)));
        }
    go want j h false q =
        let u = can.wanted_so q (types.Int kind) (row_as (context_of env) e (ap (λ b. cond b Nothing (Wants (types.Int kind))) q) h) in
        record { core = core.Cast (unchecked (types.Int kind)) u.core; has = rule.cast_literal q u.under }

to_index_can : (env : Env) (s : Span) (n : ℕ) (e : ExprSyntax) → Can env e → Can env (syntax.ToIndex s n e)
to_index_can env s n e can = only_settled refl (λ want h.
    let p = cons_parts (AnExpr (context_of env) want (syntax.ToIndex s n e)) (expr_row (context_of env) Nothing e) h in
    let c = alone_typed can p.rest in
    let test = no_test (own_type (context_of env) e) (type_of c.core) (λ t. not (is_integer t)) (typed c.has None) p.first.r28 in
    record {
      core = core.ToIndex (bare (types.Ix n) (index_sites n (type_of c.core)) (first_token s 4)) c.core;
      has = rule.to_index (sure (is_length n) p.first.r8) c.has (sure (is_integer (type_of c.core)) test) (bare_label (types.Ix n) (index_sites n (type_of c.core)) (first_token s 4));
    })

wrap_index_can : (env : Env) (s : Span) (n : ℕ) (e : ExprSyntax) → Can env e → Can env (syntax.WrapIndex s n e)
wrap_index_can env s n e can = only_settled refl (λ want h.
    let p = cons_parts (AnExpr (context_of env) want (syntax.WrapIndex s n e)) (expr_row (context_of env) Nothing e) h in
    let c = alone_typed can p.rest in
    let test = no_test (own_type (context_of env) e) (type_of c.core) (λ t. not (is_integer t)) (typed c.has None) p.first.r28 in
    record { core = core.WrapIndex (unchecked (types.Ix n)) c.core; has = rule.wrap_index (sure (is_length n) p.first.r8) c.has (sure (is_integer (type_of c.core)) test) })

make_bits_can : (env : Env) (s : Span) (name : Word) (e : ExprSyntax) → Can env e → Can env (syntax.MakeBits s name e)
make_bits_can env s name e can = only_settled refl (λ want h.
    let p = cons_parts (AnExpr (context_of env) want (syntax.MakeBits s name e)) (expr_row (context_of env) (of_word (context_of env) name) e) h in
    let n = any_placed (λ (i : BitsItem). same_word i.name.text name) 0 env.earlier.bits (sure (list_any (λ (i : BitsItem). same_word i.name.text name) env.earlier.bits) p.first.r6) in
    let i = below_there env.earlier.bits n.number (below_zero n.number (length env.earlier.bits) (position_below (λ (x : BitsItem). same_word x.name.text name) 0 env.earlier.bits n.number n.at)) in
    let word : word_type env.earlier (types.Bits n.number) ≡ Some (types.Int i.value.word) = ap (option_map (λ (x : BitsItem). types.Int x.word)) i.there in
    let u = wanted_typed can (types.Int i.value.word) refl (row_as (context_of env) e (ap (λ o. wants (option_and_then (word_type env.earlier) (option_map types.Bits o))) n.at ∙ ap wants word) p.rest) in
    record { core = core.MakeBits (unchecked (types.Bits n.number)) u.core; has = rule.make_bits n.at word u.under })

word_there : (earlier : Earlier) (s : ℕ) (t : ValueType) → is_bit_data t ≡ true → MadeType (length earlier.bits) s t → There ValueType (word_type earlier t)
word_there earlier s (types.Bits k) h m = let i = below_there earlier.bits k m in record { value = types.Int i.value.word; at = ap (option_map (λ (x : BitsItem). types.Int x.word)) i.there }
word_there earlier s types.Truth h m = let no : ⊥ = cc in absurd no
word_there earlier s (types.Int k) h m = let no : ⊥ = cc in absurd no
word_there earlier s (types.Ix n) h m = let no : ⊥ = cc in absurd no
word_there earlier s (types.Ref c r a) h m = let no : ⊥ = cc in absurd no

raw_can : (env : Env) (s : Span) (e : ExprSyntax) → Ready env → Can env e → Can env (syntax.Raw s e)
raw_can env s e m can = only_settled refl (λ want h.
    let p = cons_parts (AnExpr (context_of env) want (syntax.Raw s e)) (expr_row (context_of env) Nothing e) h in
    let c = alone_typed can p.rest in
    let test = no_test (own_type (context_of env) e) (type_of c.core) (λ t. not (is_bit_data t)) (typed c.has None) p.first.r29 in
    let w = word_there env.earlier (length env.earlier.structs) (type_of c.core) (sure (is_bit_data (type_of c.core)) test) (has_made c.has m) in
    record { core = core.Raw (unchecked w.value) c.core; has = rule.raw c.has w.at })

-- ---- fields

bit_number : (earlier : Earlier) (k : ℕ) (name : Word) (f : BitField) → bit_field_named earlier k name ≡ Some f → There ℕ (bit_field_number earlier k name)
bit_number earlier k name f h =
    let p = bound (λ (i : BitsItem). find (λ (x : BitField). same_word x.name.text name) i.fields) (slice_get earlier.bits k) f h in
    let n = found_placed (λ (x : BitField). same_word x.name.text name) 0 p.value.fields f p.is in
    record { value = n.number; at = ap (option_and_then (λ (i : BitsItem). position_from (λ (x : BitField). same_word x.name.text name) 0 i.fields)) p.there ∙ n.at }

struct_number : (earlier : Earlier) (k : ℕ) (name : Word) (f : types.Field) → field_named earlier k name ≡ Some f → There ℕ (field_number earlier k name)
struct_number earlier k name f h =
    let p = bound (λ (i : StructType). find (λ (x : types.Field). same_word x.name name) i.fields) (slice_get earlier.structs k) f h in
    let n = found_placed (λ (x : types.Field). same_word x.name name) 0 p.value.fields f p.is in
    record { value = n.number; at = ap (option_and_then (λ (i : StructType). position_from (λ (x : types.Field). same_word x.name name) 0 i.fields)) p.there ∙ n.at }

field_here : (env : Env) (s : Span) (e : ExprSyntax) (name : Name) (c : Typed env e) (t u : ValueType) → type_of c.core ≡ t → has_fields t ≡ true → field_type env.earlier t name.text ≡ Some u → Typed env (syntax.Field s e name)
field_here env s e name c (types.Bits k) u q h f =
    let n = bit_number env.earlier k name.text _ (mapped bit_field_type (bit_field_named env.earlier k name.text) u f).there in
    record { core = field_of s e u c.core n.value; has = rule.bit_field c.has q f n.at }
field_here env s e name c (types.Ref constant r (types.Struct k)) u q h f =
    let n = struct_number env.earlier k name.text _ (mapped (λ (x : types.Field). types.Ref constant r x.area) (field_named env.earlier k name.text) u f).there in
    record { core = field_of s e u c.core n.value; has = rule.field c.has q (ap (λ t. field_type env.earlier t name.text) q ∙ f) n.at }
field_here env s e name c (types.Ref constant r (types.Stored t)) u q h f = let no : ⊥ = cc in absurd no
field_here env s e name c (types.Ref constant r (types.Array n a)) u q h f = let no : ⊥ = cc in absurd no
field_here env s e name c types.Truth u q h f = let no : ⊥ = cc in absurd no
field_here env s e name c (types.Int k) u q h f = let no : ⊥ = cc in absurd no
field_here env s e name c (types.Ix n) u q h f = let no : ⊥ = cc in absurd no

-- of two, where the first holds
second_holds : (a b : Bool) → a ≡ true → a && not b ≡ false → b ≡ true
second_holds a b h k = sure b (sym (ap (λ x. x && not b) h) ∙ k)

field_can : (env : Env) (s : Span) (e : ExprSyntax) (name : Name) → Can env e → Can env (syntax.Field s e name)
field_can env s e name can = only_settled refl (λ want h.
    let p = cons_parts (AnExpr (context_of env) want (syntax.Field s e name)) (expr_row (context_of env) Nothing e) h in
    let c = alone_typed can p.rest in
    let t = type_of c.core in
    let fields = sure (has_fields t) (no_test (own_type (context_of env) e) t (λ x. not (has_fields x)) (typed c.has None) p.first.r24) in
    let known = no_test (own_type (context_of env) e) t (λ x. has_fields x && not (is_some (field_type env.earlier x name.text))) (typed c.has None) p.first.r25 in
    let u = there (field_type env.earlier t name.text) (second_holds (has_fields t) (is_some (field_type env.earlier t name.text)) fields known) in
    field_here env s e name c t u.value refl fields u.at)

record BitsOf (t : ValueType) : Type 0 where
  number : ℕ
  is : t ≡ types.Bits number

bits_of : (t : ValueType) → is_bit_data t ≡ true → BitsOf t
bits_of (types.Bits k) h = record { number = k; is = refl }
bits_of types.Truth h = let no : ⊥ = cc in absurd no
bits_of (types.Int k) h = let no : ⊥ = cc in absurd no
bits_of (types.Ix n) h = let no : ⊥ = cc in absurd no
bits_of (types.Ref c r a) h = let no : ⊥ = cc in absurd no

value_of_bits : (c : Bool) (k : IntKind) → is_reference (cond c types.Truth (types.Int k)) ≡ false
value_of_bits true k = refl
value_of_bits false k = refl

set_can : (env : Env) (s : Span) (e : ExprSyntax) (name : Name) (value : ExprSyntax) → Can env e → Can env value → Can env (syntax.SetField s e name value)
set_can env s e name value can can_value = only_settled refl (λ want h.
    let p = cons_parts (AnExpr (context_of env) want (syntax.SetField s e name value)) (expr_row (context_of env) Nothing e ++ expr_row (context_of env) (of_new_value (context_of env) e name.text) value) h in
    let rows = row_parts (expr_row (context_of env) Nothing e) (expr_row (context_of env) (of_new_value (context_of env) e name.text) value) p.rest in
    let c = alone_typed can rows.0 in
    let t = type_of c.core in
    let data_holds = sure (is_bit_data t) (no_test (own_type (context_of env) e) t (λ x. not (is_bit_data x)) (typed c.has None) p.first.r29) in
    let known = no_test (own_type (context_of env) e) t (λ x. is_bit_data x && not (is_some (field_type env.earlier x name.text))) (typed c.has None) p.first.r25 in
    let u = there (field_type env.earlier t name.text) (second_holds (is_bit_data t) (is_some (field_type env.earlier t name.text)) data_holds known) in
    let k = bits_of t data_holds in
    let f = mapped bit_field_type (bit_field_named env.earlier k.number name.text) u.value (ap (λ x. field_type env.earlier x name.text) (sym k.is) ∙ u.at) in
    let n = bit_number env.earlier k.number name.text f.value f.there in
    let own_is : own_type (context_of env) e ≡ Some (types.Bits k.number) = typed c.has None ∙ ap Some k.is in
    let wanted : of_new_value (context_of env) e name.text ≡ Wants (bit_field_type f.value) =
    ap (λ o. wants (option_and_then (λ x. field_type env.earlier x name.text) (faults.only is_bit_data o))) own_is ∙ ap (λ o. wants (option_map bit_field_type o)) f.there in
    let d = wanted_typed can_value (bit_field_type f.value) (value_of_bits f.value.truth (least_unsigned f.value.width)) (row_as (context_of env) value wanted rows.1) in
    record {
      core = core.SetField (bare (types.Bits k.number) (set_sites f.value) (first_token s 3)) c.core n.value d.core;
      has = rule.set_field {c = c.core} {d = d.core} {k = k.number} {number = n.value} {f = f.value} {label = bare (types.Bits k.number) (set_sites f.value) (first_token s 3)} c.has k.is f.there n.at d.under (bare_label (types.Bits k.number) (set_sites f.value) (first_token s 3));
    })

-- ---- prefixes

not_can : (env : Env) (s : Span) (e : ExprSyntax) → Can env e → Can env (syntax.Prefix s Not e)
not_can env s e can = only_settled refl (λ want h.
    let p = cons_parts (AnExpr (context_of env) want (syntax.Prefix s Not e)) (expr_row (context_of env) (Wants types.Truth) e) h in
    let u = wanted_typed can types.Truth refl p.rest in
    record { core = core.Prefix (unchecked types.Truth) Not u.core; has = rule.negated u.under })

read_can : (env : Env) (s : Span) (e : ExprSyntax) → Can env e → Can env (syntax.Prefix s Deref e)
read_can env s e can = only_settled refl (λ want h.
    let p = cons_parts (AnExpr (context_of env) want (syntax.Prefix s Deref e)) (expr_row (context_of env) Nothing e) h in
    let c = alone_typed can p.rest in
    let test = no_test (own_type (context_of env) e) (type_of c.core) (λ t. not (stores t)) (typed c.has None) p.first.r23 in
    let t = there (stored_type (type_of c.core)) (sure (stores (type_of c.core)) test) in
    record { core = core.Prefix (unchecked t.value) Deref c.core; has = rule.read c.has t.at })

neg_can : (env : Env) (s : Span) (e : ExprSyntax) → Can env e → Can env (syntax.Prefix s Neg e)
neg_can env s e can = record {
  settled_so = λ q want h.
      let p = cons_parts (AnExpr (context_of env) want (syntax.Prefix s Neg e)) (expr_row (context_of env) (of_operand Neg want e) e) h in
      let c = can.settled_so q Nothing (row_as (context_of env) e (ap (λ b. cond b Nothing (part want)) q) p.rest) in
      let test = no_test (faults.type_of (context_of env) (wanted_type (of_operand Neg want e)) e) (type_of c.core) (λ t. not (prefix_is_for Neg t)) (typed c.has (wanted_type (of_operand Neg want e))) p.first.r22 in
      record { core = core.Prefix (bare (type_of c.core) (prefix_sites Neg) (first_token s 1)) Neg c.core; has = rule.signed refl c.has (sure (prefix_is_for Neg (type_of c.core)) test) (bare_label (type_of c.core) (prefix_sites Neg) (first_token s 1)) };
  wanted_so = λ n t h.
      let p = cons_parts (AnExpr (context_of env) (Wants t) (syntax.Prefix s Neg e)) (expr_row (context_of env) (of_operand Neg (Wants t) e) e) h in
      let as_whole : of_operand Neg (Wants t) e ≡ Wants t = ap (λ b. cond b Nothing (Wants t)) n in
      let u = can.wanted_so n t (row_as (context_of env) e as_whole p.rest) in
      let test = no_test (faults.type_of (context_of env) (wanted_type (of_operand Neg (Wants t) e)) e) t (λ x. not (prefix_is_for Neg x)) (ap (λ w. faults.type_of (context_of env) (wanted_type w) e) as_whole ∙ (under_typed u.under).0) p.first.r22 in
      record { core = core.Prefix (bare t (prefix_sites Neg) (first_token s 1)) Neg u.core; under = rule.signed_under refl n u.under (sure (prefix_is_for Neg t) test) (bare_label t (prefix_sites Neg) (first_token s 1)) };
}

flip_can : (env : Env) (s : Span) (e : ExprSyntax) → Can env e → Can env (syntax.Prefix s Flip e)
flip_can env s e can = record {
  settled_so = λ q want h.
      let p = cons_parts (AnExpr (context_of env) want (syntax.Prefix s Flip e)) (expr_row (context_of env) (of_operand Flip want e) e) h in
      let c = can.settled_so q Nothing (row_as (context_of env) e (ap (λ b. cond b Nothing (part want)) q) p.rest) in
      let test = no_test (faults.type_of (context_of env) (wanted_type (of_operand Flip want e)) e) (type_of c.core) (λ t. not (prefix_is_for Flip t)) (typed c.has (wanted_type (of_operand Flip want e))) p.first.r22 in
      record { core = core.Prefix (bare (type_of c.core) (prefix_sites Flip) (first_token s 1)) Flip c.core; has = rule.signed refl c.has (sure (prefix_is_for Flip (type_of c.core)) test) (bare_label (type_of c.core) (prefix_sites Flip) (first_token s 1)) };
  wanted_so = λ n t h.
      let p = cons_parts (AnExpr (context_of env) (Wants t) (syntax.Prefix s Flip e)) (expr_row (context_of env) (of_operand Flip (Wants t) e) e) h in
      let as_whole : of_operand Flip (Wants t) e ≡ Wants t = ap (λ b. cond b Nothing (Wants t)) n in
      let u = can.wanted_so n t (row_as (context_of env) e as_whole p.rest) in
      let test = no_test (faults.type_of (context_of env) (wanted_type (of_operand Flip (Wants t) e)) e) t (λ x. not (prefix_is_for Flip x)) (ap (λ w. faults.type_of (context_of env) (wanted_type w) e) as_whole ∙ (under_typed u.under).0) p.first.r22 in
      record { core = core.Prefix (bare t (prefix_sites Flip) (first_token s 1)) Flip u.core; under = rule.signed_under refl n u.under (sure (prefix_is_for Flip t) test) (bare_label t (prefix_sites Flip) (first_token s 1)) };
}

-- ---- elements

record ArrayBehind (t : ValueType) : Type 0 where
  constant : Bool
  region : Region
  count : ℕ
  area : Area
  is : t ≡ types.Ref constant region (types.Array count area)

array_behind : (t : ValueType) → is_some (length_behind t) ≡ true → ArrayBehind t
array_behind (types.Ref c r (types.Array n a)) h = record { constant = c; region = r; count = n; area = a; is = refl }
array_behind (types.Ref c r (types.Stored t)) h = let no : ⊥ = cc in absurd no
array_behind (types.Ref c r (types.Struct k)) h = let no : ⊥ = cc in absurd no
array_behind types.Truth h = let no : ⊥ = cc in absurd no
array_behind (types.Int k) h = let no : ⊥ = cc in absurd no
array_behind (types.Ix n) h = let no : ⊥ = cc in absurd no
array_behind (types.Bits k) h = let no : ⊥ = cc in absurd no

element_can : (env : Env) (s brackets : Span) (e index : ExprSyntax) → Can env e → Can env index → Can env (syntax.Element s brackets e index)
element_can env s brackets e index can can_index = only_settled refl (λ want h.
    let p = cons_parts (AnExpr (context_of env) want (syntax.Element s brackets e index)) (expr_row (context_of env) Nothing e ++ expr_row (context_of env) (of_index (context_of env) e) index) h in
    let rows = row_parts (expr_row (context_of env) Nothing e) (expr_row (context_of env) (of_index (context_of env) e) index) p.rest in
    let c = alone_typed can rows.0 in
    let test = no_test (own_type (context_of env) e) (type_of c.core) (λ t. not (is_some (length_behind t))) (typed c.has None) p.first.r26 in
    let a = array_behind (type_of c.core) (sure (is_some (length_behind (type_of c.core))) test) in
    let wanted : of_index (context_of env) e ≡ Wants (types.Ix a.count) = ap (λ o. wants (option_map types.Ix (option_and_then length_behind o))) (typed c.has None ∙ ap Some a.is) in
    let d = wanted_typed can_index (types.Ix a.count) refl (row_as (context_of env) index wanted rows.1) in
    record { core = element_of s e (types.Ref a.constant a.region a.area) c.core d.core; has = rule.element c.has a.is d.under })

-- ---- operators

pub record BinaryParts (env : Env) (want : Want) (s at : Span) (op : BinOp) (left right : ExprSyntax) : Type 0 where
  pub node : Judged (AnExpr (context_of env) want (syntax.Binary s op at left right))
  pub first : first_of (expr_row (context_of env) (beside (context_of env) want op left right) left) ≡ None
  pub second : first_of (expr_row (context_of env) (beside (context_of env) want op right left) right) ≡ None

pub binary_parts : (env : Env) (want : Want) (s at : Span) (op : BinOp) (left right : ExprSyntax) → first_of (expr_row (context_of env) want (syntax.Binary s op at left right)) ≡ None → BinaryParts env want s at op left right
binary_parts env want s at op left right h =
    let l = expr_row (context_of env) (beside (context_of env) want op left right) left in
    let r = expr_row (context_of env) (beside (context_of env) want op right left) right in
    let p = cons_parts (AnExpr (context_of env) want (syntax.Binary s op at left right)) (l ++ r) h in
    let rows = row_parts l r p.rest in
    record { node = p.first; first = rows.0; second = rows.1 }

logic_typed : (env : Env) (want : Want) (s at : Span) (op : BinOp) (left right : ExprSyntax) → is_logic op ≡ true → Can env left → Can env right → BinaryParts env want s at op left right → Typed env (syntax.Binary s op at left right)
logic_typed env want s at op left right l can_left can_right p =
    let u = wanted_typed can_left types.Truth refl (row_as (context_of env) left (beside_logic (context_of env) want op left right l) p.first) in
    let v = wanted_typed can_right types.Truth refl (row_as (context_of env) right (beside_logic (context_of env) want op right left l) p.second) in
    record { core = chain s op left (unchecked types.Truth) u.core v.core; has = rule.logical l u.under v.under }

left_typed : (env : Env) (want : Want) (s at : Span) (op : BinOp) (left right : ExprSyntax) → is_logic op ≡ false → settled left ≡ true → Can env left → Can env right → BinaryParts env want s at op left right → Typed env (syntax.Binary s op at left right)
left_typed env want s at op left right l q can_left can_right p =
    let c = can_left.settled_so q Nothing (row_as (context_of env) left (beside_settled (context_of env) want op left right l q) p.first) in
    let t = type_of c.core in
    let d = beside_typed can_right t (λ r u o. sym (no_difference (context_of env) left right t u q r (typed c.has None) o p.node.r21)) (row_as (context_of env) right (beside_other (context_of env) want op right left t l q (typed c.has None)) p.second) in
    let operand_is : operand_type (context_of env) want op left right ≡ Some t =
    first_left left right (faults.type_of (context_of env) (wanted_type (beside (context_of env) want op left right)) left) (own_type (context_of env) right) q ∙ typed c.has (wanted_type (beside (context_of env) want op left right)) in
    let test : where_there (operand_type (context_of env) want op left right) (λ u. not (is_for op u)) ≡ false = sym (ap (λ b. not b && where_there (operand_type (context_of env) want op left right) (λ u. not (is_for op u))) l) ∙ p.node.r22 in
    let label = bare (result_type op t) (operator_sites op t) at in
    record {
      core = chain s op left label c.core d.core;
      has = rule.by_left l c.has d.under (sure (is_for op t) (no_test (operand_type (context_of env) want op left right) t (λ u. not (is_for op u)) operand_is test)) (bare_label (result_type op t) (operator_sites op t) at);
    }

right_typed : (env : Env) (want : Want) (s at : Span) (op : BinOp) (left right : ExprSyntax) → is_logic op ≡ false → settled left ≡ false → settled right ≡ true → Can env left → Can env right → BinaryParts env want s at op left right
    → Typed env (syntax.Binary s op at left right)
right_typed env want s at op left right l n q can_left can_right p =
    let d = can_right.settled_so q Nothing (row_as (context_of env) right (beside_settled (context_of env) want op right left l q) p.second) in
    let t = type_of d.core in
    let c = can_left.wanted_so n t (row_as (context_of env) left (beside_other (context_of env) want op left right t l q (typed d.has None) ∙ ap (λ b. cond b Nothing (Wants t)) n) p.first) in
    let operand_is : operand_type (context_of env) want op left right ≡ Some t =
    first_right left right (faults.type_of (context_of env) (wanted_type (beside (context_of env) want op left right)) left) (own_type (context_of env) right) n q ∙ typed d.has None in
    let test : where_there (operand_type (context_of env) want op left right) (λ u. not (is_for op u)) ≡ false = sym (ap (λ b. not b && where_there (operand_type (context_of env) want op left right) (λ u. not (is_for op u))) l) ∙ p.node.r22 in
    let label = bare (result_type op t) (operator_sites op t) at in
    record {
      core = chain s op left label c.core d.core;
      has = rule.by_right l n d.has c.under (sure (is_for op t) (no_test (operand_type (context_of env) want op left right) t (λ u. not (is_for op u)) operand_is test)) (bare_label (result_type op t) (operator_sites op t) at);
    }

-- a comparison of two literals is at fault
compared_alone : (context : Context) (want : Want) (op : BinOp) (x y : ExprSyntax) → is_logic op ≡ false → is_comparison op ≡ true → settled x ≡ false → settled y ≡ false → beside context want op x y ≡ Nothing
compared_alone context want op x y l c n m = rw (l, c, n, m) refl

settled_whole : (op : BinOp) (x y : ExprSyntax) → is_logic op ≡ false → settled x ≡ false → settled y ≡ false → gives_truth op || settled x || settled y ≡ true → is_comparison op ≡ true
settled_whole op x y l n m h = go (is_comparison op) refl
  where
    go : (b : Bool) → is_comparison op ≡ b → is_comparison op ≡ true
    go true e = e
    go false e = let none : gives_truth op || settled x || settled y ≡ false = rw (l, n, m, e) refl in absurd (not_both none h)

binary_can : (env : Env) (s at : Span) (op : BinOp) (left right : ExprSyntax) → Can env left → Can env right → Can env (syntax.Binary s op at left right)
binary_can env s at op left right can_left can_right = record {
  settled_so = λ q want h. go want (binary_parts env want s at op left right h) q (is_logic op) refl (settled left) refl (settled right) refl;
  wanted_so = λ n t h.
      let ns = or_falses (gives_truth op) (settled left) (settled right) n in
      let p = binary_parts env (Wants t) s at op left right h in
      let l = not_logic op ns.0 in
      let u = can_left.wanted_so ns.1 t (row_as (context_of env) left (beside_whole (context_of env) op left right t ns.0 ns.1 ns.2) p.first) in
      let v = can_right.wanted_so ns.2 t (row_as (context_of env) right (beside_whole (context_of env) op right left t ns.0 ns.2 ns.1) p.second) in
      let test : not (is_for op t) ≡ false = sym (rw (l.0, ns.1, ns.2, l.1, (under_typed u.under).0) refl) ∙ p.node.r22 in
      let label = bare t (operator_sites op t) at in
      record { core = chain s op left label u.core v.core; under = rule.operated_under ns.0 ns.1 ns.2 u.under v.under (sure (is_for op t) test) (bare_label t (operator_sites op t) at) };
}
  where
    go : (want : Want) → BinaryParts env want s at op left right → settled (syntax.Binary s op at left right) ≡ true → (a : Bool) → is_logic op ≡ a → (b : Bool) → settled left ≡ b → (c : Bool) → settled right ≡ c → Typed env (syntax.Binary s op at left right)
    go want p q true l b x c y = logic_typed env want s at op left right l can_left can_right p
    go want p q false l true x c y = left_typed env want s at op left right l x can_left can_right p
    go want p q false l false x true y = right_typed env want s at op left right l x y can_left can_right p
    go want p q false l false x false y =
        let alone = row_as (context_of env) left (compared_alone (context_of env) want op left right l (settled_whole op left right l x y q) x y) p.first in
        absurd (not_both x (sure (settled left) (at_head (context_of env) Nothing left alone).r18))

-- ---- choices

arm_settled : (context : Context) (want : Want) (x y : ExprSyntax) → settled x ≡ true → of_arm context want x y ≡ Nothing
arm_settled context want x y h = ap (λ b. cond b Nothing (cond (settled y) (wants (own_type context y)) (part want))) h

arm_beside : (context : Context) (want : Want) (x y : ExprSyntax) (t : ValueType) → settled y ≡ true → own_type context y ≡ Some t → of_arm context want x y ≡ cond (settled x) Nothing (Wants t)
arm_beside context want x y t h k = rw (h, k) refl

arm_alone : (context : Context) (t : ValueType) (x y : ExprSyntax) → settled x ≡ false → settled y ≡ false → of_arm context (Wants t) x y ≡ Wants t
arm_alone context t x y n m = rw (n, m) refl

pub record ChoiceParts (env : Env) (want : Want) (s : Span) (test first second : ExprSyntax) : Type 0 where
  pub node : Judged (AnExpr (context_of env) want (syntax.Cond s test first second))
  pub test_row : first_of (expr_row (context_of env) (Wants types.Truth) test) ≡ None
  pub first_row : first_of (expr_row (context_of env) (of_arm (context_of env) want first second) first) ≡ None
  pub second_row : first_of (expr_row (context_of env) (of_arm (context_of env) want second first) second) ≡ None

pub choice_parts : (env : Env) (want : Want) (s : Span) (test first second : ExprSyntax) → first_of (expr_row (context_of env) want (syntax.Cond s test first second)) ≡ None → ChoiceParts env want s test first second
choice_parts env want s test first second h =
    let t = expr_row (context_of env) (Wants types.Truth) test in
    let l = expr_row (context_of env) (of_arm (context_of env) want first second) first in
    let r = expr_row (context_of env) (of_arm (context_of env) want second first) second in
    let p = cons_parts (AnExpr (context_of env) want (syntax.Cond s test first second)) (t ++ (l ++ r)) h in
    let rows = row_parts t (l ++ r) p.rest in
    let arms = row_parts l r rows.1 in
    record { node = p.first; test_row = rows.0; first_row = arms.0; second_row = arms.1 }

choice_can : (env : Env) (s : Span) (test first second : ExprSyntax) → Can env test → Can env first → Can env second → Can env (syntax.Cond s test first second)
choice_can env s test first second can_test can_first can_second = record {
  settled_so = λ q want h. go want (choice_parts env want s test first second h) q (settled first) refl (settled second) refl;
  wanted_so = λ n t h.
      let p = choice_parts env (Wants t) s test first second h in
      let ns = neither (settled first) (settled second) n in
      let b = wanted_typed can_test types.Truth refl p.test_row in
      let u = can_first.wanted_so ns.0 t (row_as (context_of env) first (arm_alone (context_of env) t first second ns.0 ns.1) p.first_row) in
      let v = can_second.wanted_so ns.1 t (row_as (context_of env) second (arm_alone (context_of env) t second first ns.1 ns.0) p.second_row) in
      record { core = core.Cond (unchecked t) b.core u.core v.core; under = rule.choice_under b.under ns.0 ns.1 u.under v.under };
}
  where
    by_first : (want : Want) → ChoiceParts env want s test first second → settled first ≡ true → Typed env (syntax.Cond s test first second)
    by_first want p x =
        let b = wanted_typed can_test types.Truth refl p.test_row in
        let c = can_first.settled_so x Nothing (row_as (context_of env) first (arm_settled (context_of env) want first second x) p.first_row) in
        let t = type_of c.core in
        let wanted = arm_beside (context_of env) want second first t x (typed c.has None) in
        let d = beside_typed can_second t (λ r u o. sym (no_difference (context_of env) first second t u x r (typed c.has None) o p.node.r21)) (row_as (context_of env) second wanted p.second_row) in
        let no_reference = no_test (own_type (context_of env) (syntax.Cond s test first second)) t is_reference (first_left first second (own_type (context_of env) first) (own_type (context_of env) second) x ∙ typed c.has None) p.node.r30 in
        record { core = core.Cond (unchecked t) b.core c.core d.core; has = rule.choice_by_first b.under c.has d.under no_reference }

    by_second : (want : Want) → ChoiceParts env want s test first second → settled first ≡ false → settled second ≡ true → Typed env (syntax.Cond s test first second)
    by_second want p x y =
        let b = wanted_typed can_test types.Truth refl p.test_row in
        let d = can_second.settled_so y Nothing (row_as (context_of env) second (arm_settled (context_of env) want second first y) p.second_row) in
        let t = type_of d.core in
        let wanted = arm_beside (context_of env) want first second t y (typed d.has None) ∙ ap (λ b. cond b Nothing (Wants t)) x in
        let c = can_first.wanted_so x t (row_as (context_of env) first wanted p.first_row) in
        let no_reference = no_test (own_type (context_of env) (syntax.Cond s test first second)) t is_reference (first_right first second (own_type (context_of env) first) (own_type (context_of env) second) x y ∙ typed d.has None) p.node.r30 in
        record { core = core.Cond (unchecked t) b.core c.core d.core; has = rule.choice_by_second b.under x d.has c.under no_reference }

    go : (want : Want) → ChoiceParts env want s test first second → settled (syntax.Cond s test first second) ≡ true → (b : Bool) → settled first ≡ b → (c : Bool) → settled second ≡ c → Typed env (syntax.Cond s test first second)
    go want p q true x c y = by_first want p x
    go want p q false x true y = by_second want p x y
    go want p q false x false y = let none : settled first || settled second ≡ false = rw (x, y) refl in absurd (not_both none q)

-- ---- expressions

pub can : (env : Env) → Ready env → (e : ExprSyntax) → FormedExpr e → Can env e
can env m (syntax.Literal s v) f = literal_can env s v
can env m (syntax.Truth s b) f = only_settled refl (λ want h. record { core = core.Number (unchecked types.Truth) (truth_value b); has = rule.truth })
can env m (syntax.Outcome s) f = outcome_can env s
can env m (syntax.Variable s name) f = variable_can env s name m
can env m (syntax.Cast s kind e) f = cast_can env s kind e (can env m e f.1)
can env m (syntax.ToIndex s n e) f = to_index_can env s n e (can env m e f.1)
can env m (syntax.WrapIndex s n e) f = wrap_index_can env s n e (can env m e f)
can env m (syntax.MakeBits s name e) f = make_bits_can env s name e (can env m e f)
can env m (syntax.Raw s e) f = raw_can env s e m (can env m e f)
can env m (syntax.SetField s e name value) f = set_can env s e name value (can env m e f.2) (can env m value f.3)
can env m (syntax.Prefix s Neg e) f = neg_can env s e (can env m e f.1)
can env m (syntax.Prefix s Not e) f = not_can env s e (can env m e f.1)
can env m (syntax.Prefix s Flip e) f = flip_can env s e (can env m e f.1)
can env m (syntax.Prefix s Deref e) f = read_can env s e (can env m e f.1)
can env m (syntax.Binary s op at left right) f = binary_can env s at op left right (can env m left f.1) (can env m right f.2)
can env m (syntax.Field s e name) f = field_can env s e name (can env m e f)
can env m (syntax.Element s brackets e index) f = element_can env s brackets e index (can env m e f.0) (can env m index f.1)
can env m (syntax.Cond s test first second) f = choice_can env s test first second (can env m test f.0) (can env m first f.1) (can env m second f.2)
can env m (syntax.Bare s e) f = absurd f

-- A call that breaks no rule stands: the arguments before each say what its region must be.
use Rattle.std.proofs.Common.{◌≡◌, ℕ, List, [], ◌∷◌, ◌++◌, length, filter, Option, Some, None, option_map, option_and_then, unwrap_or, Bool, true, false, cond, not, ◌&&◌, ◌||◌, refl, sym, ◌∙◌, ap, subst, IsTrue, nat_eq, eqb-true, eq-eqb}
use Rattle.std.specs.List.{find, position_from, list_any}
use Rattle.iv_words.specs.Words.{same_word}
use Rattle.ivory_tree.specs.Syntax as syntax
use Rattle.ivory_tree.specs.Syntax.{Word, ExprSyntax, CallSyntax}
use Rattle.ivory_tree.specs.Formed.{FormedExpr}
use Rattle.ivory_tree.specs.declared.expr.BinOp.{BinOp}
use Rattle.ivory_tree.specs.declared.expr.PrefixOp.TheVariants.{Neg, Not, Flip, Deref}
use Rattle.std.proofs.Common.{All}
use Rattle.std.proofs.lemmas.List.Elements.{All-head, All-tail}
use Rattle.area_types.specs.Syntax as types
use Rattle.area_types.specs.Syntax.{ValueType, Area}
use Rattle.area_types.specs.declared.region.Region.{Region}
use Rattle.area_types.specs.declared.region.Region.TheVariants.{Global}
use Rattle.region_check.specs.Calls.{Reference, reference_of, Passed, FitsReference, Fits, AllFit, may_stand_for}
use Rattle.region_check.specs.Substitutions.{applied}
use Rattle.region_check.specs.Faults.{known, required, Allows, AcceptsPassed, AcceptedAfter}
use Rattle.region_check.proofs.Accepted.{accepted_fit}
use Rattle.core_tree.specs.Syntax.{ExprCore, CallCore, type_of}
use Rattle.source_types.specs.Operators.{gives_truth}
use Rattle.source_types.specs.Settled.{settled}
use Rattle.source_types.specs.Values.{holds, same_region}
use Rattle.source_types.specs.Environments.{Earlier, Callee, callee_named}
use Rattle.rule_faults.specs.Contexts.{Context}
use Rattle.rule_faults.specs.Types.{own_type}
use Rattle.rule_faults.specs.Wants.{Want, Nothing, Unknown, Wants, Takes, Returns, part, wanted_type, of_operand, of_arm, beside, of_argument}
use Rattle.rule_faults.specs.Nodes.{ACall, AnExpr}
use Rattle.rule_faults.specs.Tests.{where_there, where_both}
use Rattle.rule_faults.specs.ExpressionRules.{leads_to, given}
use Rattle.rule_faults.specs.ExpressionRows.{expr_row, matched, matched_all, args_row, params_of, call_row}
use Rattle.rule_faults.specs.FirstFault.{first_of}
use Rattle.typing_rules.specs.Environments.{Env, is_import, is_procedure, of_kind, callee_number}
use Rattle.typing_rules.specs.Contexts.{context_of}
use Rattle.typing_rules.specs.Calls.{Fit, no_args, value_arg, reference_arg, Calls}
use Rattle.typing_laws.proofs.Lookups.{some_same, neither}
use Rattle.typing_laws.proofs.TypesAgree.{typed}
use Rattle.typing_laws.proofs.Clean.{or_falses, not_logic}
use Rattle.typing_laws.proofs.Judged.{cons_parts, row_parts, sure, no_test}
use Rattle.typing_laws.proofs.Equal.{region_equal, area_equal}
use Rattle.typing_laws.proofs.Made.{Ready, EachParam, callee_there}
use Rattle.typing_laws.proofs.Typed.{any_placed, any_found, There, there, Typed, TypedUnder, Can, can, at_head, wanted_typed, binary_parts, choice_parts}

-- ---- no literal is a reference

wanted_part : (want : Want) (t : ValueType) → wanted_type want ≡ Some t → wanted_type (part want) ≡ Some t
wanted_part Nothing t h = let no : ⊥ = cc in absurd no
wanted_part Unknown t h = let no : ⊥ = cc in absurd no
wanted_part (Wants u) t h = h
wanted_part (Takes required u) t h = h
wanted_part (Returns u) t h = h

operand_part : (want : Want) (e : ExprSyntax) → settled e ≡ false → cond (settled e) Nothing (part want) ≡ part want
operand_part want e n = ap (λ b. cond b Nothing (part want)) n

beside_part : (context : Context) (want : Want) (op : BinOp) (x y : ExprSyntax) → gives_truth op ≡ false → settled x ≡ false → settled y ≡ false → beside context want op x y ≡ part want
beside_part context want op x y g n m = let l = not_logic op g in rw (l.0, l.1, n, m) refl

arm_part : (context : Context) (want : Want) (x y : ExprSyntax) → settled x ≡ false → settled y ≡ false → of_arm context want x y ≡ part want
arm_part context want x y n m = rw (n, m) refl

row_part : (context : Context) (e : ExprSyntax) (v w : Want) → v ≡ w → first_of (expr_row context v e) ≡ None → first_of (expr_row context w e) ≡ None
row_part context e v w q h = ap (λ x. first_of (expr_row context x e)) (sym q) ∙ h

pub no_reference : (env : Env) (e : ExprSyntax) → FormedExpr e → settled e ≡ false → (want : Want) (constant : Bool) (r : Region) (a : Area) → wanted_type want ≡ Some (types.Ref constant r a)
    → first_of (expr_row (context_of env) want e) ≡ None → ⊥
no_reference env (syntax.Literal s v) f n want constant r a w h =
    let j = at_head (context_of env) want (syntax.Literal s v) h in
    let test : not (holds (types.Ref constant r a) v) ≡ false = no_test (wanted_type want) (types.Ref constant r a) (λ t. not (holds t v)) w j.r19 in
    let no : ⊥ = cc in no
no_reference env (syntax.Prefix s Neg e) f n want constant r a w h =
    let p = cons_parts (AnExpr (context_of env) want (syntax.Prefix s Neg e)) (expr_row (context_of env) (of_operand Neg want e) e) h in
    no_reference env e f.1 n (part want) constant r a (wanted_part want (types.Ref constant r a) w) (row_part (context_of env) e (of_operand Neg want e) (part want) (operand_part want e n) p.rest)
no_reference env (syntax.Prefix s Flip e) f n want constant r a w h =
    let p = cons_parts (AnExpr (context_of env) want (syntax.Prefix s Flip e)) (expr_row (context_of env) (of_operand Flip want e) e) h in
    no_reference env e f.1 n (part want) constant r a (wanted_part want (types.Ref constant r a) w) (row_part (context_of env) e (of_operand Flip want e) (part want) (operand_part want e n) p.rest)
no_reference env (syntax.Binary s op at left right) f n want constant r a w h =
    let p = binary_parts env want s at op left right h in
    let ns = or_falses (gives_truth op) (settled left) (settled right) n in
    no_reference env left f.1 ns.1 (part want) constant r a (wanted_part want (types.Ref constant r a) w)
    (row_part (context_of env) left (beside (context_of env) want op left right) (part want) (beside_part (context_of env) want op left right ns.0 ns.1 ns.2) p.first)
no_reference env (syntax.Cond s test first second) f n want constant r a w h =
    let p = choice_parts env want s test first second h in
    let ns = neither (settled first) (settled second) n in
    no_reference env first f.1 ns.0 (part want) constant r a (wanted_part want (types.Ref constant r a) w)
    (row_part (context_of env) first (of_arm (context_of env) want first second) (part want) (arm_part (context_of env) want first second ns.0 ns.1) p.first_row)
no_reference env (syntax.Bare s e) f n want constant r a w h = absurd f
no_reference env (syntax.Truth s b) f n want constant r a w h = let no : ⊥ = cc in no
no_reference env (syntax.Outcome s) f n want constant r a w h = let no : ⊥ = cc in no
no_reference env (syntax.Variable s name) f n want constant r a w h = let no : ⊥ = cc in no
no_reference env (syntax.Cast s kind e) f n want constant r a w h = let no : ⊥ = cc in no
no_reference env (syntax.ToIndex s k e) f n want constant r a w h = let no : ⊥ = cc in no
no_reference env (syntax.WrapIndex s k e) f n want constant r a w h = let no : ⊥ = cc in no
no_reference env (syntax.MakeBits s name e) f n want constant r a w h = let no : ⊥ = cc in no
no_reference env (syntax.Raw s e) f n want constant r a w h = let no : ⊥ = cc in no
no_reference env (syntax.SetField s e name value) f n want constant r a w h = let no : ⊥ = cc in no
no_reference env (syntax.Prefix s Not e) f n want constant r a w h = let no : ⊥ = cc in no
no_reference env (syntax.Prefix s Deref e) f n want constant r a w h = let no : ⊥ = cc in no
no_reference env (syntax.Field s e name) f n want constant r a w h = let no : ⊥ = cc in no
no_reference env (syntax.Element s brackets e index) f n want constant r a w h = let no : ⊥ = cc in no

-- ---- arguments

-- an argument for a parameter of this type
pub data Arg (env : Env) : ValueType → ExprSyntax → Type 0 where
  value : {t : ValueType} {e : ExprSyntax} → reference_of t ≡ None → TypedUnder env t e → Arg env t e
  reference : {t : ValueType} {e : ExprSyntax} {wanted given : Reference} → reference_of t ≡ Some wanted → (c : Typed env e) → reference_of (type_of c.core) ≡ Some given → Arg env t e

abbrev pub AllArgs : Env → List (Option ValueType) → List ExprSyntax → Type 0
AllArgs env [] [] = Unit {0}
AllArgs env [] (e ∷ es) = ⊥
AllArgs env (p ∷ ps) [] = ⊥
AllArgs env (None ∷ ps) (e ∷ es) = ⊥
AllArgs env (Some t ∷ ps) (e ∷ es) = Arg env t e × AllArgs env ps es

record OneArg (env : Env) (before : List Passed) (t : ValueType) (e : ExprSyntax) : Type 0 where
  arg : Arg env t e
  accepted : AcceptsPassed (known before) (reference_of t) (option_and_then reference_of (own_type (context_of env) e))

allowed_region : (o : Option Region) (g : Reference) → where_both o (Some g) (λ first x. not (same_region first x.region)) ≡ false → Allows o g.region
allowed_region None g h = tt
allowed_region (Some first) g h = region_equal first g.region (sure (same_region first g.region) h)

allowed_access : (given wanted : Bool) → given && not wanted ≡ false → IsTrue (may_stand_for given wanted)
allowed_access true true h = refl
allowed_access true false h = let no : ⊥ = cc in absurd no
allowed_access false wanted h = refl

record Leads (area : Area) (o : Option Reference) : Type 0 where
  to : Reference
  there : o ≡ Some to
  same : to.area ≡ area

leads : (area : Area) (o : Option Reference) → leads_to area o ≡ true → Leads area o
leads area None h = let no : ⊥ = cc in absurd no
leads area (Some r) h = record { to = r; there = refl; same = area_equal r.area area h }

-- the three rules of a settled argument for a reference parameter
test_35 : (context : Context) (e : ExprSyntax) (o : Option Region) (t : ValueType) (g : Reference) → settled e ≡ true → own_type context e ≡ Some t → reference_of t ≡ Some g
    → settled e && where_both o (given context e) (λ first r. not (same_region first r.region)) ≡ where_both o (Some g) (λ first r. not (same_region first r.region))
test_35 context e o t g s h k = rw (s, h, k) refl

test_36 : (context : Context) (e : ExprSyntax) (wanted : Reference) (t : ValueType) (g : Reference) → settled e ≡ true → own_type context e ≡ Some t → reference_of t ≡ Some g
    → settled e && where_there (given context e) (λ r. r.constant && not wanted.constant) ≡ g.constant && not wanted.constant
test_36 context e wanted t g s h k = rw (s, h, k) refl

test_37 : (context : Context) (e : ExprSyntax) (wanted : Reference) (t : ValueType) → settled e ≡ true → own_type context e ≡ Some t
    → settled e && where_there (own_type context e) (λ u. not (leads_to wanted.area (reference_of u))) ≡ not (leads_to wanted.area (reference_of t))
test_37 context e wanted t s h = rw (s, h) refl

reference_one : (env : Env) (before : List Passed) (constant : Bool) (r : Region) (a : Area) (e : ExprSyntax) → FormedExpr e → Can env e → first_of (expr_row (context_of env) (of_argument before (Some (types.Ref constant r a))) e) ≡ None
    → OneArg env before (types.Ref constant r a) e
reference_one env before constant r a e f can_e h = go (settled e) refl
  where
    go : (b : Bool) → settled e ≡ b → OneArg env before (types.Ref constant r a) e
    go false n = absurd (no_reference env e f n (of_argument before (Some (types.Ref constant r a))) constant r a refl h)
    go true s =
        let wanted : Reference = record { constant = constant; region = r; area = a } in
        let c = can_e.settled_so s (of_argument before (Some (types.Ref constant r a))) h in
        let t = type_of c.core in
        let j = at_head (context_of env) (of_argument before (Some (types.Ref constant r a))) e h in
        let l = leads a (reference_of t) (sure (leads_to a (reference_of t)) (sym (test_37 (context_of env) e wanted t s (typed c.has None)) ∙ j.r37)) in
        let region = allowed_region (required (known before) r) l.to (sym (test_35 (context_of env) e (required (known before) r) t l.to s (typed c.has None) l.there) ∙ j.r35) in
        let access = allowed_access l.to.constant constant (sym (test_36 (context_of env) e wanted t l.to s (typed c.has None) l.there) ∙ j.r36) in
        let given_is : option_and_then reference_of (own_type (context_of env) e) ≡ Some l.to = ap (option_and_then reference_of) (typed c.has None) ∙ l.there in
        record { arg = reference refl c l.there; accepted = subst (AcceptsPassed (known before) (Some wanted)) (sym given_is) (record { region = region; access = access; area = l.same }) }

one_arg : (env : Env) (before : List Passed) (t : ValueType) (e : ExprSyntax) → FormedExpr e → Can env e → first_of (expr_row (context_of env) (of_argument before (Some t)) e) ≡ None → OneArg env before t e
one_arg env before types.Truth e f c h = record { arg = value refl (wanted_typed c types.Truth refl h); accepted = tt }
one_arg env before (types.Int k) e f c h = record { arg = value refl (wanted_typed c (types.Int k) refl h); accepted = tt }
one_arg env before (types.Ix n) e f c h = record { arg = value refl (wanted_typed c (types.Ix n) refl h); accepted = tt }
one_arg env before (types.Bits k) e f c h = record { arg = value refl (wanted_typed c (types.Bits k) refl h); accepted = tt }
one_arg env before (types.Ref constant r a) e f c h = reference_one env before constant r a e f c h

record ArgsTyped (env : Env) (before : List Passed) (ps : List (Option ValueType)) (es : List ExprSyntax) : Type 0 where
  args : AllArgs env ps es
  accepted : AcceptedAfter before (matched_all (context_of env) ps es)

args_typed : (env : Env) → Ready env → (b s : ℕ) (before : List Passed) (ps : List (Option ValueType)) (es : List ExprSyntax) → EachParam b s ps → length ps ≡ length es → All FormedExpr es
    → first_of (args_row (context_of env) before ps es) ≡ None → ArgsTyped env before ps es
args_typed env m b s before [] [] there l f h = record { args = tt; accepted = tt }
args_typed env m b s before [] (e ∷ es) there l f h = let no : ⊥ = cc in absurd no
args_typed env m b s before (p ∷ ps) [] there l f h = let no : ⊥ = cc in absurd no
args_typed env m b s before (None ∷ ps) (e ∷ es) there l f h = absurd there
args_typed env m b s before (Some t ∷ ps) (e ∷ es) there l f h =
    let rows = row_parts (expr_row (context_of env) (of_argument before (Some t)) e) (args_row (context_of env) (before ++ matched (context_of env) (Some t) e ∷ []) ps es) h in
    let formed = All-head FormedExpr e es f in
    let one = one_arg env before t e formed (can env m e formed) rows.0 in
    let l2 : length ps ≡ length es = cc in
    let rest = args_typed env m b s (before ++ matched (context_of env) (Some t) e ∷ []) ps es there.1 l2 (All-tail FormedExpr e es f) rows.1 in
    record { args = (one.arg, rest.args); accepted = (one.accepted, rest.accepted) }

record Fitting (env : Env) (regions : ℕ → Region) (ps : List (Option ValueType)) (es : List ExprSyntax) : Type 0 where
  cores : List ExprCore
  fit : Fit env regions ps es cores

fitting_one : (env : Env) (regions : ℕ → Region) (t : ValueType) (ps : List (Option ValueType)) (e : ExprSyntax) (es : List ExprSyntax) → Arg env t e → Fits regions (reference_of t) (option_and_then reference_of (own_type (context_of env) e))
    → Fitting env regions ps es → Fitting env regions (Some t ∷ ps) (e ∷ es)
fitting_one env regions t ps e es (value n u) h rest = record { cores = u.core ∷ rest.cores; fit = value_arg n u.under rest.fit }
fitting_one env regions t ps e es (reference {wanted = wanted} {given = g} r c k) h rest =
    let given_is : option_and_then reference_of (own_type (context_of env) e) ≡ Some g = ap (option_and_then reference_of) (typed c.has None) ∙ k in
    let fits : FitsReference regions wanted g = subst (λ x. Fits regions x (Some g)) r (subst (Fits regions (reference_of t)) given_is h) in
    record { cores = c.core ∷ rest.cores; fit = reference_arg r c.has k fits rest.fit }

fitting : (env : Env) (regions : ℕ → Region) (ps : List (Option ValueType)) (es : List ExprSyntax) → AllArgs env ps es → AllFit regions (matched_all (context_of env) ps es) → Fitting env regions ps es
fitting env regions [] [] args h = record { cores = []; fit = no_args }
fitting env regions [] (e ∷ es) args h = absurd args
fitting env regions (p ∷ ps) [] args h = absurd args
fitting env regions (None ∷ ps) (e ∷ es) args h = absurd args
fitting env regions (Some t ∷ ps) (e ∷ es) args h = fitting_one env regions t ps e es args.0 h.0 (fitting env regions ps es args.1 h.1)

-- ---- the callee's number

pub same_self : (a : List ℕ) → same_word a a ≡ true
same_self [] = refl
same_self (x ∷ xs) = ap (λ b. b && same_word xs xs) (eq-eqb x x refl) ∙ same_self xs

kept_in : (p f : Callee → Bool) (xs : List Callee) (c : Callee) → p c ≡ true → find f xs ≡ Some c → list_any (λ (d : Callee). same_word d.name c.name) (filter p xs) ≡ true
kept_in p f [] c h e = let no : ⊥ = cc in absurd no
kept_in p f (x ∷ xs) c h e = go (kept_in p f xs c h) (f x) e (p x) refl
  where
    more : (b : Bool) → list_any (λ (d : Callee). same_word d.name c.name) (filter p xs) ≡ true → list_any (λ (d : Callee). same_word d.name c.name) (cond b (x ∷ filter p xs) (filter p xs)) ≡ true
    more true k = go_or (same_word x.name c.name) k
      where
        go_or : (a : Bool) → list_any (λ (d : Callee). same_word d.name c.name) (filter p xs) ≡ true → a || list_any (λ (d : Callee). same_word d.name c.name) (filter p xs) ≡ true
        go_or true k = refl
        go_or false k = k
    more false k = k

    go : (find f xs ≡ Some c → list_any (λ (d : Callee). same_word d.name c.name) (filter p xs) ≡ true) → (a : Bool) → cond a (Some x) (find f xs) ≡ Some c → (b : Bool) → p x ≡ b
        → list_any (λ (d : Callee). same_word d.name c.name) (filter p (x ∷ xs)) ≡ true
    go ih true g true q =
        let same : x ≡ c = some_same g in
        rw q (ap (λ (y : Callee). same_word y.name c.name || list_any (λ (d : Callee). same_word d.name c.name) (filter p xs)) same ∙ ap (λ z. z || list_any (λ (d : Callee). same_word d.name c.name) (filter p xs)) (same_self c.name))
    go ih true g false q = let same : x ≡ c = some_same g in let no : false ≡ true = sym q ∙ ap p same ∙ h in let absurdity : ⊥ = cc in absurd absurdity
    go ih false g b q = rw q (more b (ih g))

number_there : (earlier : Earlier) (f : Callee → Bool) (c : Callee) → find f earlier.callees ≡ Some c → There ℕ (callee_number earlier c)
number_there earlier f c h = go c.import refl
  where
    go : (b : Bool) → c.import ≡ b → There ℕ (position_from (λ (d : Callee). same_word d.name c.name) 0 (of_kind c.import earlier.callees))
    go true e = let p = any_placed (λ (d : Callee). same_word d.name c.name) 0 (filter is_import earlier.callees) (kept_in is_import f earlier.callees c e h) in rw e (record { value = p.number; at = p.at })
    go false e = let p = any_placed (λ (d : Callee). same_word d.name c.name) 0 (filter is_procedure earlier.callees) (kept_in is_procedure f earlier.callees c (ap not e) h) in rw e (record { value = p.number; at = p.at })

-- ---- calls

pub record CallTyped (env : Env) (call : CallSyntax) : Type 0 where
  pub core : CallCore
  pub result : Option ValueType
  pub calls : Calls env call core result

pub call_typed : (env : Env) → Ready env → (call : CallSyntax) → All FormedExpr call.args → first_of (call_row (context_of env) call) ≡ None → CallTyped env call
call_typed env m call formed h =
    let test = λ (c : Callee). same_word c.name call.name.text in
    let p = cons_parts (ACall (context_of env) call) (args_row (context_of env) [] (params_of (callee_named env.earlier call.name.text)) call.args) h in
    let k = any_found test env.earlier.callees (sure (list_any test env.earlier.callees) p.first.r7) in
    let known_callee = callee_there (length env.earlier.bits) (length env.earlier.structs) test env.earlier.callees k.value m.0.callees k.at in
    let lengths = eqb-true (length k.value.params) (length call.args)
    (sure (nat_eq (length k.value.params) (length call.args)) (no_test (callee_named env.earlier call.name.text) k.value (λ c. not (nat_eq (length c.params) (length call.args))) k.at p.first.r34)) in
    let rows : first_of (args_row (context_of env) [] k.value.params call.args) ≡ None = ap (λ o. first_of (args_row (context_of env) [] (params_of o) call.args)) (sym k.at) ∙ p.rest in
    let args = args_typed env m (length env.earlier.bits) (length env.earlier.structs) [] k.value.params call.args known_callee.params lengths formed rows in
    let xs = matched_all (context_of env) k.value.params call.args in
    let regions : ℕ → Region = λ j. unwrap_or (known xs j) Global in
    let fit = fitting env regions k.value.params call.args args.args (accepted_fit regions [] xs (λ j r e. ap (λ o. unwrap_or o Global) e) args.accepted) in
    let n = number_there env.earlier test k.value k.at in
    record {
      core = record { import = k.value.import; callee = n.value; args = fit.cores };
      result = option_map (applied regions) k.value.result;
      calls = record { callee = k.value; regions = regions; earlier = k.at; number = n.at; kind = refl; fit = fit.fit; gives = refl };
    }

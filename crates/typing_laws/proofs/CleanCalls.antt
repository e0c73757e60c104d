-- A call that stands breaks no rule: the regions that are guessed are those that the arguments before require.
use Rattle.std.proofs.Common.{◌≡◌, ℕ, suc, ◌==◌, List, [], ◌∷◌, ◌++◌, length, Option, Some, None, Bool, true, false, cond, not, ◌&&◌, refl, sym, ◌∙◌, ap, IsTrue, eq-eqb, eqb-true}
use Rattle.iv_words.specs.Words.{same_word}
use Rattle.ivory_tree.specs.Syntax.{ExprSyntax, CallSyntax}
use Rattle.area_types.specs.Syntax as types
use Rattle.area_types.specs.Syntax.{ValueType}
use Rattle.area_types.specs.declared.region.Region.{Region}
use Rattle.area_types.specs.declared.region.Region.TheVariants.{Global, Param, Own}
use Rattle.region_check.specs.Calls.{Reference, reference_of, Passed, FitsReference, Fits, AllFit, may_stand_for}
use Rattle.region_check.specs.Substitutions.{under}
use Rattle.region_check.specs.Faults.{known, required, or_else, region_at, region_from}
use Rattle.core_tree.specs.Syntax as core
use Rattle.core_tree.specs.Syntax.{ExprCore}
use Rattle.source_types.specs.Settled.{settled}
use Rattle.source_types.specs.Values.{same_region}
use Rattle.source_types.specs.Environments.{Callee, callee_named}
use Rattle.rule_faults.specs.Contexts.{Context}
use Rattle.rule_faults.specs.Types.{own_type}
use Rattle.rule_faults.specs.Wants.{Takes, Wants, of_argument}
use Rattle.rule_faults.specs.Nodes.{ACall, AnExpr}
use Rattle.rule_faults.specs.ExpressionRows.{expr_row, matched, args_row, params_of}
use Rattle.rule_faults.specs.ExpressionRules.{rule_7}
use Rattle.rule_faults.specs.StatementRules.{rule_34}
use Rattle.rule_faults.specs.Tests.{where_both}
use Rattle.rule_faults.specs.FirstFault.{rules, least_broken, first_of}
use Rattle.typing_rules.specs.Environments.{Env}
use Rattle.typing_rules.specs.Contexts.{context_of}
use Rattle.typing_rules.specs.Calls.{Fit, no_args, value_arg, reference_arg}
use Rattle.typing_laws.specs.Clean.{CallIsClean}
use Rattle.typing_laws.proofs.Lookups.{some_same, found_any}
use Rattle.typing_laws.proofs.TypesAgree.{has_settled, typed}
use Rattle.typing_laws.proofs.Quiet.{AsWanted, none_at, quiet_cons, quiet_append, region_same, area_same}
use Rattle.typing_laws.proofs.Clean.{clean, clean_under}

-- ---- regions

pub region_at_fits : (regions : ℕ → Region) (j : ℕ) (wanted given r : Region) → given ≡ under regions wanted → region_at j wanted given ≡ Some r → regions j ≡ r
region_at_fits regions j Global given r f h = let no : ⊥ = cc in absurd no
region_at_fits regions j Own given r f h = let no : ⊥ = cc in absurd no
region_at_fits regions j (Param k) given r f h = go (k == j) refl h
  where
    go : (b : Bool) → k == j ≡ b → cond b (Some given) None ≡ Some r → regions j ≡ r
    go true e g = ap regions (sym (eqb-true k j e)) ∙ sym f ∙ some_same g
    go false e g = let no : ⊥ = cc in absurd no

from_fits : (regions : ℕ → Region) (j : ℕ) (wanted given : Option Reference) (r : Region) → Fits regions wanted given → region_from j wanted given ≡ Some r → regions j ≡ r
from_fits regions j None given r f h = let no : ⊥ = cc in absurd no
from_fits regions j (Some w) None r f h = absurd f
from_fits regions j (Some w) (Some g) r f h = region_at_fits regions j w.region g.region r f.region h

known_fits : (regions : ℕ → Region) (xs : List Passed) (j : ℕ) (r : Region) → AllFit regions xs → known xs j ≡ Some r → regions j ≡ r
known_fits regions [] j r f h = let no : ⊥ = cc in absurd no
known_fits regions (x ∷ xs) j r f h = go (known_fits regions xs j r f.1) (region_from j x.wanted x.given) refl h
  where
    go : (known xs j ≡ Some r → regions j ≡ r) → (o : Option Region) → region_from j x.wanted x.given ≡ o → or_else o (known xs j) ≡ Some r → regions j ≡ r
    go ih None e g = ih g
    go ih (Some q) e g = from_fits regions j x.wanted x.given q f.0 e ∙ some_same g

required_fits : (regions : ℕ → Region) (xs : List Passed) (q first : Region) → AllFit regions xs → required (known xs) q ≡ Some first → first ≡ under regions q
required_fits regions xs Global first f h = sym (some_same h)
required_fits regions xs Own first f h = sym (some_same h)
required_fits regions xs (Param j) first f h = sym (known_fits regions xs j first f h)

all_fit_more : (regions : ℕ → Region) (xs : List Passed) (x : Passed) → AllFit regions xs → Fits regions x.wanted x.given → AllFit regions (xs ++ x ∷ [])
all_fit_more regions [] x f g = (g, tt)
all_fit_more regions (y ∷ xs) x f g = (f.0, all_fit_more regions xs x f.1 g)

-- ---- arguments

no_clash : (o : Option Region) (r : Region) → ((first : Region) → o ≡ Some first → first ≡ r) → (g : Reference) → g.region ≡ r → where_both o (Some g) (λ first x. not (same_region first x.region)) ≡ false
no_clash None r f g e = refl
no_clash (Some first) r f g e = rw (f first refl, e, region_same r) refl

access_both : (given wanted : Bool) → IsTrue (may_stand_for given wanted) → given && not wanted ≡ false
access_both true true h = refl
access_both true false h = let no : ⊥ = cc in absurd no
access_both false wanted h = refl

takes : (context : Context) (e : ExprSyntax) (regions : ℕ → Region) (before : List Passed) (t : ValueType) (wanted given : Reference) → settled e ≡ true → own_type context e ≡ Some t → reference_of t ≡ Some given
    → FitsReference regions wanted given → AllFit regions before → AsWanted (AnExpr context (Takes (required (known before) wanted.region) wanted) e)
takes context e regions before t wanted given s o r f a = record {
  r18 = refl;
  r20 = refl;
  r35 = rw (s, o, r) (no_clash (required (known before) wanted.region) (under regions wanted.region) (λ first h. required_fits regions before wanted.region first a h) given f.region);
  r36 = rw (s, o, r) (access_both given.constant wanted.constant f.access);
  r37 = rw (s, o, r, f.area, area_same wanted.area) refl;
  r38 = refl;
  r39 = refl;
}

takes_of : (before : List Passed) (t : ValueType) (wanted : Reference) → reference_of t ≡ Some wanted → of_argument before (Some t) ≡ Takes (required (known before) wanted.region) wanted
takes_of before types.Truth wanted h = let no : ⊥ = cc in absurd no
takes_of before (types.Int k) wanted h = let no : ⊥ = cc in absurd no
takes_of before (types.Ix n) wanted h = let no : ⊥ = cc in absurd no
takes_of before (types.Bits k) wanted h = let no : ⊥ = cc in absurd no
takes_of before (types.Ref c r a) wanted h = ap (λ (x : Reference). Takes (required (known before) x.region) x) (some_same h)

wants_of : (before : List Passed) (t : ValueType) → reference_of t ≡ None → of_argument before (Some t) ≡ Wants t
wants_of before types.Truth h = refl
wants_of before (types.Int k) h = refl
wants_of before (types.Ix n) h = refl
wants_of before (types.Bits k) h = refl
wants_of before (types.Ref c r a) h = let no : ⊥ = cc in absurd no

clean_args : {env : Env} {regions : ℕ → Region} {params : List (Option ValueType)} {args : List ExprSyntax} {cs : List ExprCore} (before : List Passed) → Fit env regions params args cs → AllFit regions before
    → first_of (args_row (context_of env) before params args) ≡ None
clean_args before no_args a = refl
clean_args {env = env} {regions = regions} before (value_arg {t = t} {params = params} {e = e} {args = args} n u fit) a =
    quiet_append (expr_row (context_of env) (of_argument before (Some t)) e) (args_row (context_of env) (before ++ matched (context_of env) (Some t) e ∷ []) params args)
    (ap (λ w. first_of (expr_row (context_of env) w e)) (wants_of before t n) ∙ (clean_under u).wanted)
    (clean_args (before ++ matched (context_of env) (Some t) e ∷ []) fit (all_fit_more regions before (matched (context_of env) (Some t) e) a (rw n tt)))
clean_args {env = env} {regions = regions} before (reference_arg {t = t} {wanted = wanted} {given = given} {params = params} {e = e} {args = args} {c = c} r h g f fit) a =
    quiet_append (expr_row (context_of env) (of_argument before (Some t)) e) (args_row (context_of env) (before ++ matched (context_of env) (Some t) e ∷ []) params args)
    (ap (λ w. first_of (expr_row (context_of env) w e)) (takes_of before t wanted r)
    ∙ clean h (Takes (required (known before) wanted.region) wanted) (takes (context_of env) e regions before (core.type_of c) wanted given (has_settled h) (typed h None) g f a))
    (clean_args (before ++ matched (context_of env) (Some t) e ∷ []) fit (all_fit_more regions before (matched (context_of env) (Some t) e) a (rw (r, typed h None, g) f)))

same_length : {env : Env} {regions : ℕ → Region} {params : List (Option ValueType)} {args : List ExprSyntax} {cs : List ExprCore} → Fit env regions params args cs → length params ≡ length args
same_length no_args = refl
same_length (value_arg n u fit) = ap suc (same_length fit)
same_length (reference_arg r h g f fit) = ap suc (same_length fit)

-- ---- calls

quiet_call : (context : Context) (call : CallSyntax) → rule_7 (ACall context call) ≡ false → rule_34 (ACall context call) ≡ false → least_broken (ACall context call) ≡ None
quiet_call context call h g = none_at rules (ACall context call)
    (refl, (refl, (refl, (refl, (refl, (refl, (h, (refl, (refl, (refl, (refl, (refl, (refl, (refl, (refl, (refl, (refl, (refl, (refl, (refl, (refl, (refl, (refl, (refl, (refl, (refl, (refl, (refl, (refl, (refl, (refl, (refl, (refl, (g, (refl, (refl, (refl, (refl, (refl, (refl, (refl, (refl, (refl, (refl, tt))))))))))))))))))))))))))))))))))))))))))))

pub call_is_clean : CallIsClean
call_is_clean env call c result k =
    quiet_cons (ACall (context_of env) call) (args_row (context_of env) [] (params_of (callee_named env.earlier call.name.text)) call.args)
    (quiet_call (context_of env) call (rw (found_any (λ (x : Callee). same_word x.name call.name.text) env.earlier.callees k.callee k.earlier) refl) (rw (k.earlier, eq-eqb (length k.callee.params) (length call.args) (same_length k.fit)) refl))
    (ap (λ o. first_of (args_row (context_of env) [] (params_of o) call.args)) k.earlier ∙ clean_args [] k.fit tt)

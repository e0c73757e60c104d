-- The examples of cores.
use Rattle.std.proofs.Common.{◌≡◌, ◌≢◌, ℕ, zero, suc, ◌+◌, ◌*◌, ◌<◌, Bool, true, false, List, [], ◌∷◌, length, refl, sym, arith, subst}
use Rattle.std.specs.Prelude.{Some, None, ◌||◌, ◌&&◌, nat_lt, nat_eq, All, IsTrue, Contains}
use Rattle.std.proofs.lemmas.List.Elements.{All-nil, All-cons, All-head, All-tail}
use Rattle.std.proofs.lemmas.List.Kept.{AllPairs-cons}
use Rattle.std.proofs.lemmas.List.Sorted.{IsPermutation-refl, All-permutation, length_permutation}
use Rattle.area_types.specs.Syntax.{Name}
use Rattle.core_tree.specs.declared.check.Check.{Check}
use Rattle.core_tree.specs.declared.check.SiteKind.TheVariants as kind
use Rattle.core_tree.specs.Syntax.{ExprCore, Whole, NoStmts, ProcCore, ModuleCore}
use Rattle.core_tree.specs.Names.{AllDifferent, ParamsApart, NamesApart, item_names}
use Rattle.core_tree.specs.Sites.{Ascends, IsNumberedFrom}
use Rattle.core_tree.specs.TypedExpressions.{ExprTyped}
use Rattle.core_tree.specs.Types.{is_type}
use Rattle.source_types.specs.Values.{is_plain}
use Rattle.core_tree.specs.TypedItems.{ProcTyped, is_local_type, env_of, below}
use Rattle.core_tree.specs.Valid.{ValidCore, ProcsTyped}
use Rattle.core_tree.specs.Examples as example
use Rattle.core_tree.specs.Examples.{AdderIsValid, NumbersFollowTokens, OwnStays, CallsGoBack, DivisorsComeFirst}

pub all_one : {A : Type 0} (P : A → Type 0) (x : A) → P x → All P (x ∷ [])
all_one P x h = All-cons P x [] h (All-nil P)

pub all_two : {A : Type 0} (P : A → Type 0) (x y : A) → P x → P y → All P (x ∷ y ∷ [])
all_two P x y h k = All-cons P x (y ∷ []) h (all_one P y k)

-- ---- the valid one

abbrev sum : ExprCore
sum = example.sum_at 0 60 example.a example.b

abbrev adder : ModuleCore
adder = example.adder (example.returned (Whole (example.plain example.u8) sum))

abbrev the_proc : ProcCore
the_proc = record { name = 102 ∷ []; exported = true; params = example.param 97 ∷ example.param 98 ∷ []; result = Some example.u8; contracts = []; locals = example.u8 ∷ example.u8 ∷ []; body = example.returned (Whole (example.plain example.u8) sum) }

pub unequal : (x y : ℕ) → x < y → (x ∷ []) ≢ (y ∷ [])
unequal x y h e = let same : x ≡ y = cc in absurd (omega (arith, h, same))

abbrev pub Different : Name → Name → Type 0
Different a b = a ≢ b

pub none_different : AllDifferent []
none_different i j d ordered within = absurd (omega (arith, within))

pub one_different : (name : Name) → AllDifferent (name ∷ [])
one_different name = AllPairs-cons Different name [] (All-nil (Different name)) none_different

abbrev Outside : Name → Type 0
Outside name = Contains (item_names adder) name → ⊥

not_among : (n : ℕ) → n < 102 → Outside (n ∷ [])
not_among n h (zero, within, e) = unequal n 102 h (sym e)
not_among n h (suc k, within, e) = absurd (omega (arith, within))

params_apart : ParamsApart adder the_proc
params_apart = record {
  different = AllPairs-cons Different (97 ∷ []) ((98 ∷ []) ∷ []) (all_one (Different (97 ∷ [])) (98 ∷ []) (unequal 97 98 (omega arith))) (one_different (98 ∷ []));
  outside = all_two Outside (97 ∷ []) (98 ∷ []) (not_among 97 (omega arith)) (not_among 98 (omega arith));
}

names_apart : NamesApart adder
names_apart = record {
  items = one_different (102 ∷ []);
  types = none_different;
  struct_fields = All-nil _;
  bit_fields = All-nil _;
  params = all_one (ParamsApart adder) the_proc params_apart;
}

abbrev check_at : (site start : ℕ) → Check
check_at site start = record { site = site; kind = kind.Overflow; span = record { start = start; end = start + 1 } }

sum_typed : ExprTyped (env_of adder [] the_proc) (below 2) sum
sum_typed = (
  record { in_scope = (1, omega arith, refl); type = refl; unchecked = refl },
  record { in_scope = (0, omega arith, refl); type = refl; unchecked = refl },
  record { is_for = refl; same = refl; type = refl; checked = record { of_kinds = refl; token = (check_at 0 60).span; together = refl } },
  refl,
)

proc_typed : ProcTyped adder [] the_proc
proc_typed = record {
  params = record { numbered = refl; types = all_two (λ t. IsTrue (is_type adder.structs 0 t)) example.u8 example.u8 refl refl };
  result = refl;
  exported = λ h. record { params = all_two (λ t. IsTrue (is_plain t)) example.u8 example.u8 refl refl; result = refl };
  params_first = refl;
  local_types = all_two (λ t. IsTrue (is_local_type adder.structs 0 t)) example.u8 example.u8 refl refl;
  counted = refl;
  contracts = All-nil _;
  body = ((refl, record { typed = (sum_typed, record { type = refl; unchecked = refl }, refl); fits = refl; kept = refl }), refl, tt);
  returns = refl;
}

-- the one element of a list
pub only : {A : Type 0} (P : A → Type 0) (x y : A) → P x → Some x ≡ Some y → P y
only P x y h e = let same : x ≡ y = cc in subst P same h

procs_typed : ProcsTyped adder
procs_typed zero p e = only (ProcTyped adder []) the_proc p proc_typed e
procs_typed (suc k) p e = absurd (cc)

pub adder_is_valid : AdderIsValid
adder_is_valid = record {
  table = refl;
  words = refl;
  layouts = All-nil _;
  names = names_apart;
  areas = All-nil _;
  imports = All-nil _;
  procs = procs_typed;
  sites = check_at 0 60 ∷ [];
  numbered = record { all = IsPermutation-refl _; ascending = (tt, tt); numbered = (refl, tt) };
}

-- ---- one without checks

-- a procedure of any name, without parameters, contracts and statements
abbrev pub bare : Name → Bool → ProcCore
bare name exported = record { name = name; exported = exported; params = []; result = None; contracts = []; locals = []; body = NoStmts }

bare_typed : (name : Name) (exported : Bool) → ProcTyped (example.procs (bare name exported ∷ [])) [] (bare name exported)
bare_typed name exported = record {
  params = record { numbered = refl; types = All-nil _ };
  result = refl;
  exported = λ h. record { params = All-nil _; result = refl };
  params_first = refl;
  local_types = All-nil _;
  counted = refl;
  contracts = All-nil _;
  body = tt;
  returns = refl;
}

bare_procs : (name : Name) (exported : Bool) → ProcsTyped (example.procs (bare name exported ∷ []))
bare_procs name exported zero p e = only (ProcTyped (example.procs (bare name exported ∷ [])) []) (bare name exported) p (bare_typed name exported) e
bare_procs name exported (suc k) p e = absurd (cc)

pub bare_is_valid : (name : Name) (exported : Bool) → ValidCore (example.procs (bare name exported ∷ []))
bare_is_valid name exported = record {
  table = refl;
  words = refl;
  layouts = All-nil _;
  names = record {
    items = one_different name;
    types = none_different;
    struct_fields = All-nil _;
    bit_fields = All-nil _;
    params = all_one (ParamsApart (example.procs (bare name exported ∷ []))) (bare name exported) (record { different = none_different; outside = All-nil _ });
  };
  areas = All-nil _;
  imports = All-nil _;
  procs = bare_procs name exported;
  sites = [];
  numbered = record { all = IsPermutation-refl _; ascending = tt; numbered = tt };
}

-- ---- those that are not

-- the earlier token has the lesser number
abbrev Falls : Check → Type 0
Falls c = c.span.start + 4 * c.site ≡ 64

not_before : (m n : ℕ) (b : Bool) → m ≡ 64 → n ≡ 60 → IsTrue (nat_lt m n || (nat_eq m n && b)) → ⊥
not_before m n b e f h =
    let g : IsTrue (nat_lt 64 60 || (nat_eq 64 60 && b)) = subst (λ i. IsTrue (nat_lt i 60 || (nat_eq i 60 && b))) e (subst (λ j. IsTrue (nat_lt m j || (nat_eq m j && b))) f h) in
    absurd (cc)

do_not_ascend : (sites : List Check) → length sites ≡ 2 → All Falls sites → Ascends sites → IsNumberedFrom 0 sites → ⊥
do_not_ascend [] l all up n = absurd (omega (arith, l))
do_not_ascend (c ∷ []) l all up n = absurd (omega (arith, l))
do_not_ascend (c ∷ d ∷ more) l all up n =
    let first : Falls c = All-head Falls c (d ∷ more) all in
    let second : Falls d = All-head Falls d more (All-tail Falls c (d ∷ more) all) in
    not_before c.span.start d.span.start _ (omega (arith, first, n.0)) (omega (arith, second, n.1.0)) up.0

pub numbers_follow_tokens : NumbersFollowTokens
numbers_follow_tokens v =
    let made : List Check = check_at 1 60 ∷ check_at 0 64 ∷ [] in
    let all : All Falls v.sites = All-permutation Falls made v.sites v.numbered.all (all_two Falls (check_at 1 60) (check_at 0 64) refl refl) in
    do_not_ascend v.sites (length_permutation made v.sites v.numbered.all) all v.numbered.ascending v.numbered.numbered

pub own_stays : OwnStays
own_stays None v = (v.procs 0 _ refl).body.2.0.1
own_stays (Some wanted) v = let kept : false ≡ true = (v.procs 0 _ refl).body.2.0.1.kept in absurd (cc)

pub calls_go_back : CallsGoBack
calls_go_back v = let none : None ≡ Some (v.procs 0 _ refl).body.0.header = (v.procs 0 _ refl).body.0.callee in absurd (cc)

-- ---- sites

pub divisors_come_first : DivisorsComeFirst
divisors_come_first = record { all = IsPermutation-refl _; ascending = (refl, (refl, (tt, tt))); numbered = (refl, (refl, (refl, tt))) }

pub ruleset cores = (adder_is_valid, numbers_follow_tokens, calls_go_back, divisors_come_first)

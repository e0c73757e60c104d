-- A call that stands is well typed in the core, and its result has a type that a value may have there.
use Rattle.std.proofs.Common.{◌≡◌, inl, inr, ℕ, List, [], ◌∷◌, map, slice_get, Option, Some, None, option_map, Bool, true, false, cond, not, All, IsTrue, refl, sym, ◌∙◌, ap, subst, filter}
use Rattle.std.specs.List.{find, position_from}
use Rattle.std.proofs.lemmas.List.Elements.{All-head, All-tail, All-cons, All-nil}
use Rattle.iv_words.specs.Words.{same_word}
use Rattle.ivory_tree.specs.Syntax.{Word, ExprSyntax, CallSyntax}
use Rattle.area_types.specs.Syntax as types
use Rattle.area_types.specs.Syntax.{ValueType, Area}
use Rattle.area_types.specs.Tables.{Table}
use Rattle.area_types.specs.declared.region.Region.{Region}
use Rattle.area_types.specs.declared.region.Region.TheVariants.{Global, Param, Own}
use Rattle.region_check.specs.Calls.{Reference, reference_of, FitsReference}
use Rattle.region_check.specs.Found.{region_count}
use Rattle.region_check.specs.Substitutions.{under, applied}
use Rattle.core_tree.specs.Syntax.{ExprCore, CallCore, type_of}
use Rattle.core_tree.specs.Environments as around
use Rattle.core_tree.specs.Environments.{Header, header_of}
use Rattle.core_tree.specs.Types.{Fits, is_type}
use Rattle.core_tree.specs.TypedExpressions.{ExprTyped}
use Rattle.core_tree.specs.TypedCalls.{ArgumentsFit, CallTyped, CallHasType}
use Rattle.source_types.specs.Environments.{Earlier, Callee, callee_named}
use Rattle.typing_rules.specs.Environments.{Env, is_import, is_procedure, of_kind, callee_number}
use Rattle.typing_rules.specs.Calls as rule
use Rattle.typing_rules.specs.Calls.{Fit, Calls}
use Rattle.typing_laws.proofs.Lookups.{some_same, same_equal, mapped}
use Rattle.typing_laws.proofs.Callees.{Occurs, determined_found}
use Rattle.core_validity.proofs.Lists.{found_at, front_at}
use Rattle.core_validity.proofs.Types.{RegionIn, Usable, type_usable, value_usable}
use Rattle.core_validity.proofs.Known.{IsHeader, IsImport, IsProc, import_header, proc_header, Known}
use Rattle.core_validity.proofs.Expressions.{Around, has_fine, under_fine}

-- ---- what is called

found_passes : {A : Type 0} (f : A → Bool) (xs : List A) (x : A) → find f xs ≡ Some x → f x ≡ true
found_passes f [] x h = let no : ⊥ = cc in absurd no
found_passes f (y ∷ ys) x h = go (λ g. found_passes f ys x g) (f y) refl h
  where
    go : (find f ys ≡ Some x → f x ≡ true) → (b : Bool) → f y ≡ b → cond b (Some y) (find f ys) ≡ Some x → f x ≡ true
    go ih true e g = ap f (sym (some_same g)) ∙ e
    go ih false e g = ih g

-- what is found first is found first among those of its kind
found_kept : {A : Type 0} (f g : A → Bool) (xs : List A) (x : A) → find f xs ≡ Some x → g x ≡ true → find f (filter g xs) ≡ Some x
found_kept f g [] x h k = let no : ⊥ = cc in absurd no
found_kept f g (y ∷ ys) x h k = go (λ q. found_kept f g ys x q k) (f y) (g y) refl refl h
  where
    go : (find f ys ≡ Some x → find f (filter g ys) ≡ Some x) → (a b : Bool) → f y ≡ a → g y ≡ b → cond a (Some y) (find f ys) ≡ Some x → find f (cond b (y ∷ filter g ys) (filter g ys)) ≡ Some x
    go ih true true e d q = ap (λ c. cond c (Some y) (find f (filter g ys))) e ∙ q
    go ih true false e d q = let same : g x ≡ false = ap g (sym (some_same q)) ∙ d in let no : ⊥ = cc in absurd no
    go ih false true e d q = ap (λ c. cond c (Some y) (find f (filter g ys))) e ∙ ih q
    go ih false false e d q = ih q

of_its_kind : (import : Bool) (cs : List Callee) (c : Callee) (f : Callee → Bool) → find f cs ≡ Some c → c.import ≡ import → find f (of_kind import cs) ≡ Some c
of_its_kind true cs c f h k = found_kept f is_import cs c h k
of_its_kind false cs c f h k = found_kept f is_procedure cs c h (ap not k)

-- it stands at its number among those of its kind
callee_at : (earlier : Earlier) (name : Word) (c : Callee) (number : ℕ) (import : Bool) → callee_named earlier name ≡ Some c → callee_number earlier c ≡ Some number → c.import ≡ import → slice_get (of_kind import earlier.callees) number ≡ Some c
callee_at earlier name c number import h g k =
    let named : Word → Callee → Bool = λ w d. same_word d.name w in
    let same : c.name ≡ name = same_equal c.name name (found_passes (named name) earlier.callees c h) in
    let by_name : find (named c.name) earlier.callees ≡ Some c = ap (λ w. find (named w) earlier.callees) same ∙ h in
    found_at (named c.name) number (of_kind import earlier.callees) c
    (ap (λ b. position_from (named c.name) 0 (of_kind b earlier.callees)) (sym k) ∙ g) (of_its_kind import earlier.callees c (named c.name) by_name k)

record HasHeader (cenv : around.Env) (c : Callee) (core : CallCore) : Type 0 where
  header : Header
  there : header_of cenv core ≡ Some header
  is : IsHeader cenv.core.structs c header

import_there : (cenv : around.Env) (earlier : Earlier) (c : Callee) (core : CallCore) → Known cenv.core cenv.earlier earlier → core.import ≡ true → slice_get (of_kind true earlier.callees) core.callee ≡ Some c → HasHeader cenv c core
import_there cenv earlier c core known i at =
    let o = front_at (IsImport cenv.core.structs) (of_kind true earlier.callees) cenv.core.imports core.callee c known.imports at in
    record { header = import_header o.value; there = ap (λ b. cond b (option_map import_header (slice_get cenv.core.imports core.callee)) (option_map proc_header (slice_get cenv.earlier core.callee))) i ∙ ap (option_map import_header) o.there; is = o.related }

proc_there : (cenv : around.Env) (earlier : Earlier) (c : Callee) (core : CallCore) → Known cenv.core cenv.earlier earlier → core.import ≡ false → slice_get (of_kind false earlier.callees) core.callee ≡ Some c → HasHeader cenv c core
proc_there cenv earlier c core known i at =
    let o = front_at (IsProc cenv.core.structs) (of_kind false earlier.callees) cenv.earlier core.callee c known.procedures at in
    record { header = proc_header o.value; there = ap (λ b. cond b (option_map import_header (slice_get cenv.core.imports core.callee)) (option_map proc_header (slice_get cenv.earlier core.callee))) i ∙ ap (option_map proc_header) o.there; is = o.related }

has_header : (cenv : around.Env) (earlier : Earlier) (name : Word) (c : Callee) (core : CallCore) → Known cenv.core cenv.earlier earlier → callee_named earlier name ≡ Some c → callee_number earlier c ≡ Some core.callee → core.import ≡ c.import
    → HasHeader cenv c core
has_header cenv earlier name c core known h g k = go c.import refl
  where
    go : (b : Bool) → c.import ≡ b → HasHeader cenv c core
    go true e = import_there cenv earlier c core known (k ∙ e) (callee_at earlier name c core.callee true h g e)
    go false e = proc_there cenv earlier c core known (k ∙ e) (callee_at earlier name c core.callee false h g e)

-- ---- arguments

value_fits : (regions : ℕ → Region) (p t : ValueType) → reference_of p ≡ None → t ≡ p → Fits (applied regions p) t
value_fits regions types.Truth t h e = e
value_fits regions (types.Int kind) t h e = e
value_fits regions (types.Ix n) t h e = e
value_fits regions (types.Bits k) t h e = e
value_fits regions (types.Ref c r a) t h e = absurd (cc)

reference_fits : (regions : ℕ → Region) (p t : ValueType) (wanted given : Reference) → reference_of p ≡ Some wanted → reference_of t ≡ Some given → FitsReference regions wanted given → Fits (applied regions p) t
reference_fits regions types.Truth t wanted given h g f = absurd (cc)
reference_fits regions (types.Int kind) t wanted given h g f = absurd (cc)
reference_fits regions (types.Ix n) t wanted given h g f = absurd (cc)
reference_fits regions (types.Bits k) t wanted given h g f = absurd (cc)
reference_fits regions (types.Ref c r a) types.Truth wanted given h g f = absurd (cc)
reference_fits regions (types.Ref c r a) (types.Int kind) wanted given h g f = absurd (cc)
reference_fits regions (types.Ref c r a) (types.Ix n) wanted given h g f = absurd (cc)
reference_fits regions (types.Ref c r a) (types.Bits k) wanted given h g f = absurd (cc)
reference_fits regions (types.Ref c r a) (types.Ref d s b) wanted given h g f =
    let w : wanted ≡ record { constant = c; region = r; area = a } = sym (some_same h) in
    let v : given ≡ record { constant = d; region = s; area = b } = sym (some_same g) in
    let fit = subst (λ x. FitsReference regions x (record { constant = d; region = s; area = b })) w (subst (FitsReference regions wanted) v f) in
    (fit.region, fit.area, fit.access)

record ArgsTyped (cenv : around.Env) (scope : List ℕ) (regions : ℕ → Region) (ps : List ValueType) (cs : List ExprCore) : Type 0 where
  typed : All (ExprTyped cenv scope) cs
  fit : ArgumentsFit regions ps (map type_of cs)

args_more : (cenv : around.Env) (scope : List ℕ) (regions : ℕ → Region) (p : ValueType) (ps : List ValueType) (c : ExprCore) (cs : List ExprCore) → ExprTyped cenv scope c → Fits (applied regions p) (type_of c) → ArgsTyped cenv scope regions ps cs
    → ArgsTyped cenv scope regions (p ∷ ps) (c ∷ cs)
args_more cenv scope regions p ps c cs h f a = record { typed = All-cons (ExprTyped cenv scope) c cs h a.typed; fit = (f, a.fit) }

first_param : (t : ValueType) (params : List (Option ValueType)) (p : ValueType) (ps : List ValueType) → Some t ∷ params ≡ map Some (p ∷ ps) → (t ≡ p) × (params ≡ map Some ps)
first_param t params p ps h = (cc, cc)

args_typed : {env : Env} {regions : ℕ → Region} {params : List (Option ValueType)} {args : List ExprSyntax} {cs : List ExprCore} → Fit env regions params args cs → (n : ℕ) (cenv : around.Env) (scope : List ℕ) → Around n env cenv scope
    → (k : ℕ) (ps : List ValueType) → params ≡ map Some ps → All (λ t. IsTrue (is_type cenv.core.structs k t)) ps → ArgsTyped cenv scope regions ps cs
args_typed rule.no_args n cenv scope a k [] e h = record { typed = All-nil (ExprTyped cenv scope); fit = tt }
args_typed rule.no_args n cenv scope a k (p ∷ ps) e h = let no : ⊥ = cc in absurd no
args_typed (rule.value_arg x u fit) n cenv scope a k [] e h = let no : ⊥ = cc in absurd no
args_typed {regions = regions} (rule.value_arg {t = t} {params = params} {c = c} {cs = cs} x u fit) n cenv scope a k (p ∷ ps) e h =
    let q = first_param t params p ps e in
    let of_p : IsTrue (is_type cenv.core.structs k p) = All-head (λ y. IsTrue (is_type cenv.core.structs k y)) p ps h in
    let f = under_fine u n cenv scope a (value_usable cenv.core.structs k n t x (type_usable cenv.core.structs k t (subst (λ y. IsTrue (is_type cenv.core.structs k y)) (sym q.0) of_p))) in
    args_more cenv scope regions p ps c cs f.typed (value_fits regions p (type_of c) (ap reference_of (sym q.0) ∙ x) (f.type ∙ q.0)) (args_typed fit n cenv scope a k ps q.1 (All-tail (λ y. IsTrue (is_type cenv.core.structs k y)) p ps h))
args_typed (rule.reference_arg x hs g f fit) n cenv scope a k [] e h = let no : ⊥ = cc in absurd no
args_typed {regions = regions} (rule.reference_arg {t = t} {wanted = wanted} {given = given} {params = params} {c = c} {cs = cs} x hs g f fit) n cenv scope a k (p ∷ ps) e h =
    let q = first_param t params p ps e in
    let typed = has_fine hs n cenv scope a in
    args_more cenv scope regions p ps c cs typed.typed (reference_fits regions p (type_of c) wanted given (ap reference_of (sym q.0) ∙ x) g f)
    (args_typed fit n cenv scope a k ps q.1 (All-tail (λ y. IsTrue (is_type cenv.core.structs k y)) p ps h))

-- ---- results

-- the region of a reference
region_of_reference : (table : Table) (n : ℕ) (t : ValueType) (r : Reference) → Usable table n t → reference_of t ≡ Some r → RegionIn n r.region
region_of_reference table n (types.Ref c s a) r u h = subst (λ (x : Reference). RegionIn n x.region) (some_same h) u.0
region_of_reference table n types.Truth r u h = absurd (cc)
region_of_reference table n (types.Int kind) r u h = absurd (cc)
region_of_reference table n (types.Ix m) r u h = absurd (cc)
region_of_reference table n (types.Bits k) r u h = absurd (cc)

-- a region that a parameter names is that of an argument
region_there : {env : Env} {regions : ℕ → Region} {params : List (Option ValueType)} {args : List ExprSyntax} {cs : List ExprCore} → Fit env regions params args cs → (n : ℕ) (cenv : around.Env) (scope : List ℕ) → Around n env cenv scope
    → (j : ℕ) → Occurs j params → RegionIn n (regions j)
region_there rule.no_args n cenv scope a j o = absurd o
region_there (rule.value_arg {t = t} x u fit) n cenv scope a j (inl i) = let q : None ≡ Some _ = sym x ∙ ap reference_of (some_same i.is) in let no : ⊥ = cc in absurd no
region_there (rule.value_arg x u fit) n cenv scope a j (inr o) = region_there fit n cenv scope a j o
region_there {regions = regions} (rule.reference_arg {t = t} {wanted = wanted} {given = given} {c = c} x hs g f fit) n cenv scope a j (inl i) =
    let w : record { constant = i.constant; region = Param j; area = i.area } ≡ wanted = some_same (ap reference_of (sym (some_same i.is)) ∙ x) in
    let r : given.region ≡ regions j = f.region ∙ ap (λ (y : Reference). under regions y.region) (sym w) in
    subst (RegionIn n) r (region_of_reference cenv.core.structs n (type_of c) given (has_fine hs n cenv scope a).usable g)
region_there (rule.reference_arg x hs g f fit) n cenv scope a j (inr o) = region_there fit n cenv scope a j o

result_usable : (table : Table) (n k : ℕ) (regions : ℕ → Region) (t : ValueType) → IsTrue (is_type table k t) → ((constant : Bool) (j : ℕ) (area : Area) → t ≡ types.Ref constant (Param j) area → RegionIn n (regions j)) → Usable table n (applied regions t)
result_usable table n k regions types.Truth h o = tt
result_usable table n k regions (types.Int kind) h o = tt
result_usable table n k regions (types.Ix m) h o = h
result_usable table n k regions (types.Bits b) h o = h
result_usable table n k regions (types.Ref c Global a) h o = type_usable table n (types.Ref c Global a) h
result_usable table n k regions (types.Ref c (Param j) a) h o = (o c j a refl, (type_usable table k (types.Ref c (Param j) a) h).1)
result_usable table n k regions (types.Ref c Own a) h o = absurd (cc)

-- ---- calls

pub call_typed : {env : Env} {call : CallSyntax} {core : CallCore} {result : Option ValueType} → Calls env call core result → (n : ℕ) (cenv : around.Env) (scope : List ℕ) → Around n env cenv scope → CallTyped cenv scope core
call_typed {env = env} {call = call} {core = core} k n cenv scope a =
    let h = has_header cenv env.earlier call.name.text k.callee core a.known k.earlier k.number k.kind in
    let args = args_typed k.fit n cenv scope a (region_count 0 h.header.params) h.header.params h.is.params h.is.types in
    record { header = h.header; callee = h.there; args = args.typed; regions = k.regions; fit = args.fit }

-- the value of a call, and its type
pub record CallFine (n : ℕ) (cenv : around.Env) (scope : List ℕ) (core : CallCore) (t : ValueType) : Type 0 where
  pub value : CallHasType cenv scope core t
  pub usable : Usable cenv.core.structs n t

pub call_fine : {env : Env} {call : CallSyntax} {core : CallCore} {t : ValueType} → Calls env call core (Some t) → (n : ℕ) (cenv : around.Env) (scope : List ℕ) → Around n env cenv scope → CallFine n cenv scope core t
call_fine {env = env} {call = call} {core = core} {t = t} k n cenv scope a =
    let h = has_header cenv env.earlier call.name.text k.callee core a.known k.earlier k.number k.kind in
    let p = mapped (applied k.regions) k.callee.result t (sym k.gives) in
    let given : h.header.result ≡ Some p.value = sym h.is.result ∙ p.there in
    let args = args_typed k.fit n cenv scope a (region_count 0 h.header.params) h.header.params h.is.params h.is.types in
    let typed : CallTyped cenv scope core = record { header = h.header; callee = h.there; args = args.typed; regions = k.regions; fit = args.fit } in
    let d = determined_found (λ (c : Callee). same_word c.name call.name.text) env.earlier.callees k.callee a.known.determined k.earlier in
    record {
      value = record { typed = typed; given = p.value; result = given; type = p.is };
      usable = subst (Usable cenv.core.structs n) (sym p.is)
          (result_usable cenv.core.structs n (region_count 0 h.header.params) k.regions p.value (h.is.result_type p.value given)
          (λ constant j area e. region_there k.fit n cenv scope a j (d.occurs constant j area (p.there ∙ ap Some e))));
    }

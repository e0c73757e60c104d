-- What is known of each earlier import and procedure: it has a result where that has a type, and the region of its result occurs in a
-- parameter. So the arguments of a call that stands determine the type of its result.
use Rattle.std.proofs.Common.{◌≡◌, ℕ, ◌⊎◌, inl, inr, List, [], ◌∷◌, ◌++◌, map, Option, Some, None, option_map, option_and_then, unwrap_or, Bool, true, false, cond, ◌||◌, refl, sym, ◌∙◌, ap, subst, eq-eqb}
use Rattle.std.specs.List.{find, position_from}
use Rattle.iv_words.specs.Words.{same_word}
use Rattle.iv_words.specs.declared.Span.{Span}
use Rattle.ivory_tree.specs.Syntax.{Word, TypeSyntax, TruthType, IntType, IndexType, BitsType, RefType, AreaSyntax, ParamSyntax, HeaderSyntax, ExprSyntax, CallSyntax}
use Rattle.ivory_tree.specs.declared.types.RegionText.{RegionText}
use Rattle.ivory_tree.specs.declared.types.RegionText.TheVariants as region
use Rattle.area_types.specs.Syntax as types
use Rattle.area_types.specs.Syntax.{ValueType, Area}
use Rattle.area_types.specs.declared.region.Region.{Region}
use Rattle.area_types.specs.declared.region.Region.TheVariants.{Global, Param, Own}
use Rattle.region_check.specs.Calls.{Reference, reference_of}
use Rattle.region_check.specs.Substitutions.{applied}
use Rattle.region_check.specs.Faults.{known, region_at, or_else}
use Rattle.core_tree.specs.Syntax.{ExprCore, CallCore}
use Rattle.source_types.specs.Environments.{Earlier, Callee, has_word}
use Rattle.source_types.specs.Written.{with_region, with_regions, regions_of, region_in, type_in, area_in, ref_type, has_result, callee_in}
use Rattle.rule_faults.specs.ExpressionRows.{matched_all}
use Rattle.rule_faults.specs.StatementRows.{result_for, call_type}
use Rattle.typing_rules.specs.Environments.{Env}
use Rattle.typing_rules.specs.Contexts.{context_of}
use Rattle.typing_rules.specs.Calls.{Fit, no_args, value_arg, reference_arg, Calls}
use Rattle.typing_rules.specs.Items.{Params, no_params, more_params}
use Rattle.typing_rules.specs.WellTyped.{at_header}
use Rattle.typing_laws.proofs.Lookups.{some_same, same_equal, placed_any, any_last, mapped, bound}
use Rattle.typing_laws.proofs.TypesAgree.{typed}
use Rattle.typing_laws.proofs.CleanAreas.{ref_parts, index_length}
use Rattle.typing_laws.proofs.CleanCalls.{region_at_fits}

-- ---- what is known

-- a reference in the region of this number
pub record IsIn (j : ℕ) (param : Option ValueType) : Type 0 where
  pub constant : Bool
  pub area : Area
  pub is : param ≡ Some (types.Ref constant (Param j) area)

abbrev pub Occurs : ℕ → List (Option ValueType) → Type 0
Occurs j [] = ⊥
Occurs j (p ∷ ps) = IsIn j p ⊎ Occurs j ps

pub record Determined (c : Callee) : Type 0 where
  pub gives : (t : ValueType) → c.result ≡ Some t → c.gives ≡ true
  pub occurs : (constant : Bool) (j : ℕ) (area : Area) → c.result ≡ Some (types.Ref constant (Param j) area) → Occurs j c.params

abbrev pub AllDetermined : List Callee → Type 0
AllDetermined [] = Unit {0}
AllDetermined (c ∷ cs) = Determined c × AllDetermined cs

pub determined_last : (cs : List Callee) (c : Callee) → AllDetermined cs → Determined c → AllDetermined (cs ++ c ∷ [])
determined_last [] c h d = (d, tt)
determined_last (x ∷ cs) c h d = (h.0, determined_last cs c h.1 d)

pub determined_found : (f : Callee → Bool) (cs : List Callee) (c : Callee) → AllDetermined cs → find f cs ≡ Some c → Determined c
determined_found f [] c h e = let no : ⊥ = cc in absurd no
determined_found f (x ∷ cs) c h e = go (determined_found f cs c h.1) (f x) e
  where
    go : (find f cs ≡ Some c → Determined c) → (b : Bool) → cond b (Some x) (find f cs) ≡ Some c → Determined c
    go ih true g = subst Determined (some_same g) h.0
    go ih false g = ih g

-- ---- calls

-- what an argument says of the region of this number, where its parameter does not
none_said : (j : ℕ) (t : ValueType) → reference_of t ≡ None → IsIn j (Some t) → ⊥
none_said j t n i = let e : t ≡ types.Ref i.constant (Param j) i.area = some_same i.is in let g = ap reference_of (sym e) ∙ n in let no : ⊥ = cc in no

said_at : (j : ℕ) (t : ValueType) (wanted : Reference) (given : Region) → reference_of t ≡ Some wanted → IsIn j (Some t) → region_at j wanted.region given ≡ None → ⊥
said_at j t wanted given r i h =
    let e : t ≡ types.Ref i.constant (Param j) i.area = some_same i.is in
    let w : record { constant = i.constant; region = Param j; area = i.area } ≡ wanted = some_same (ap reference_of (sym e) ∙ r) in
    let g : region_at j (Param j) given ≡ None = ap (λ (x : Reference). region_at j x.region given) w ∙ h in
    let k : Some given ≡ None = ap (λ b. cond b (Some given) None) (sym (eq-eqb j j refl)) ∙ g in
    let no : ⊥ = cc in no

pub known_there : {env : Env} {regions : ℕ → Region} {params : List (Option ValueType)} {args : List ExprSyntax} {cs : List ExprCore} → Fit env regions params args cs → (j : ℕ) → Occurs j params
    → known (matched_all (context_of env) params args) j ≡ Some (regions j)
known_there no_args j o = absurd o
known_there {env = env} {regions = regions} (value_arg {t = t} {params = params} {args = args} n u fit) j (inl i) = absurd (none_said j t n i)
known_there {env = env} {regions = regions} (value_arg {t = t} {params = params} {args = args} n u fit) j (inr o) = rw n (known_there fit j o)
known_there {env = env} {regions = regions} (reference_arg {t = t} {wanted = wanted} {given = given} {params = params} {args = args} r h g f fit) j o =
    rw (r, typed h None, g) (go (λ q. known_there fit j q) (region_at j wanted.region given.region) refl)
  where
    later : (Occurs j params → known (matched_all (context_of env) params args) j ≡ Some (regions j)) → Occurs j (Some t ∷ params) → region_at j wanted.region given.region ≡ None → known (matched_all (context_of env) params args) j ≡ Some (regions j)
    later ih (inl i) e = absurd (said_at j t wanted given.region r i e)
    later ih (inr q) e = ih q

    go : (Occurs j params → known (matched_all (context_of env) params args) j ≡ Some (regions j)) → (p : Option Region) → region_at j wanted.region given.region ≡ p → or_else (region_at j wanted.region given.region) (known (matched_all (context_of env) params args) j) ≡ Some (regions j)
    go ih None e = ap (λ x. or_else x (known (matched_all (context_of env) params args) j)) e ∙ later ih o e
    go ih (Some q) e = ap (λ x. or_else x (known (matched_all (context_of env) params args) j)) e ∙ ap Some (sym (region_at_fits regions j wanted.region given.region q f.region e))

-- substitutions that agree on the region of a result
pub same_result : (f g : ℕ → Region) (o : Option ValueType) → ((constant : Bool) (j : ℕ) (area : Area) → o ≡ Some (types.Ref constant (Param j) area) → f j ≡ g j) → option_map (applied f) o ≡ option_map (applied g) o
same_result f g None h = refl
same_result f g (Some types.Truth) h = refl
same_result f g (Some (types.Int k)) h = refl
same_result f g (Some (types.Ix n)) h = refl
same_result f g (Some (types.Bits k)) h = refl
same_result f g (Some (types.Ref c Global a)) h = refl
same_result f g (Some (types.Ref c (Param j) a)) h = ap (λ r. Some (types.Ref c r a)) (h c j a refl)
same_result f g (Some (types.Ref c Own a)) h = refl

pub call_type_agrees : (env : Env) (call : CallSyntax) (core : CallCore) (result : Option ValueType) → AllDetermined env.earlier.callees → Calls env call core result → call_type (context_of env) call ≡ result
call_type_agrees env call core result all k =
    let d = determined_found (λ (c : Callee). same_word c.name call.name.text) env.earlier.callees k.callee all k.earlier in
    ap (option_and_then (result_for (context_of env) call)) k.earlier
    ∙ same_result (λ j. unwrap_or (known (matched_all (context_of env) k.callee.params call.args) j) Global) k.regions k.callee.result
    (λ constant j area e. ap (λ o. unwrap_or o Global) (known_there k.fit j (d.occurs constant j area e)))
    ∙ sym k.gives

-- ---- what headers declare

-- a type that names the region
pub record Names (name : Word) (ty : TypeSyntax) : Type 0 where
  pub at : Span
  pub constant : Bool
  pub text : Word
  pub area : AreaSyntax
  pub is : ty ≡ RefType at constant (region.Named text) area
  pub same : same_word text name ≡ true

abbrev pub Mentions : Word → List ParamSyntax → Type 0
Mentions name [] = ⊥
Mentions name (p ∷ ps) = Names name p.ty ⊎ Mentions name ps

one_more : (name : Word) (names : List Word) (ty : TypeSyntax) → has_word (with_region names ty) name ≡ true → (has_word names name ≡ true) ⊎ Names name ty
one_more name names (TruthType s) h = inl h
one_more name names (IntType s k) h = inl h
one_more name names (IndexType s n) h = inl h
one_more name names (BitsType s w) h = inl h
one_more name names (RefType s c region.Global area) h = inl h
one_more name names (RefType s c (region.Named text) area) h = go (has_word names text) h
  where
    last : (a b : Bool) → has_word names name ≡ a → same_word text name ≡ b → a || b ≡ true → (has_word names name ≡ true) ⊎ Names name (RefType s c (region.Named text) area)
    last true b e g k = inl e
    last false true e g k = inr (record { at = s; constant = c; text = text; area = area; is = refl; same = g })
    last false false e g k = let no : ⊥ = cc in absurd no

    go : (b : Bool) → has_word (cond b names (names ++ text ∷ [])) name ≡ true → (has_word names name ≡ true) ⊎ Names name (RefType s c (region.Named text) area)
    go true k = inl k
    go false k = last (has_word names name) (same_word text name) refl refl (sym (any_last (λ n. same_word n name) names text) ∙ k)

mentioned : (name : Word) (params : List ParamSyntax) (names : List Word) → has_word (with_regions names params) name ≡ true → (has_word names name ≡ true) ⊎ Mentions name params
mentioned name [] names h = inl h
mentioned name (p ∷ ps) names h = go (mentioned name ps (with_region names p.ty) h)
  where
    more : (has_word names name ≡ true) ⊎ Names name p.ty → (has_word names name ≡ true) ⊎ Mentions name (p ∷ ps)
    more (inl e) = inl e
    more (inr n) = inr (inl n)

    go : (has_word (with_region names p.ty) name ≡ true) ⊎ Mentions name ps → (has_word names name ≡ true) ⊎ Mentions name (p ∷ ps)
    go (inl e) = more (one_more name names p.ty e)
    go (inr m) = inr (inr m)

-- a type that names the region is a reference in it
names_in : (earlier : Earlier) (regions : List Word) (name : Word) (j : ℕ) (ty : TypeSyntax) (t : ValueType) → position_from (λ n. same_word n name) 0 regions ≡ Some j → Names name ty → type_in earlier regions ty ≡ Some t
    → IsIn j (type_in earlier regions ty)
names_in earlier regions name j ty t h n e =
    let at : type_in earlier regions ty ≡ ref_type n.constant (region_in regions (region.Named n.text)) (area_in earlier n.area) = ap (type_in earlier regions) n.is in
    let p = ref_parts n.constant (region_in regions (region.Named n.text)) (area_in earlier n.area) t (sym at ∙ e) in
    let r : region_in regions (region.Named n.text) ≡ Some (Param j) = ap (λ w. region_in regions (region.Named w)) (same_equal n.text name n.same) ∙ ap (option_map Param) h in
    let to : p.to ≡ Param j = some_same (sym p.region_there ∙ r) in
    record { constant = n.constant; area = p.target; is = e ∙ ap Some p.is ∙ ap (λ x. Some (types.Ref n.constant x p.target)) to }

occurs_in : {env : Env} {before : List Word} {params : List ParamSyntax} {ts : List ValueType} → Params env before params ts → (name : Word) (j : ℕ) → position_from (λ n. same_word n name) 0 env.regions ≡ Some j → Mentions name params
    → Occurs j (map (λ (p : ParamSyntax). type_in env.earlier env.regions p.ty) params)
occurs_in no_params name j h m = absurd m
occurs_in {env = env} (more_params {p = p} {t = t} taken again names more) name j h (inl n) = inl (names_in env.earlier env.regions name j p.ty t h n names.exists)
occurs_in (more_params taken again names more) name j h (inr m) = inr (occurs_in more name j h m)

-- the region of a reference that a text names
pub record Placed (regions : List Word) (j : ℕ) : Type 0 where
  pub name : Word
  pub position : position_from (λ n. same_word n name) 0 regions ≡ Some j

region_placed : (regions : List Word) (text : RegionText) (j : ℕ) → region_in regions text ≡ Some (Param j) → Placed regions j
region_placed regions region.Global j h = let no : ⊥ = cc in absurd no
region_placed regions (region.Named name) j h = let p = mapped Param (position_from (λ n. same_word n name) 0 regions) (Param j) h in record { name = name; position = p.there ∙ ap Some (param_same p.is) }
  where
    param_same : {i k : ℕ} → Param k ≡ Param i → i ≡ k
    param_same e = cc

type_placed : (earlier : Earlier) (regions : List Word) (ty : TypeSyntax) (constant : Bool) (j : ℕ) (area : Area) → type_in earlier regions ty ≡ Some (types.Ref constant (Param j) area) → Placed regions j
type_placed earlier regions (TruthType s) constant j area h = let no : ⊥ = cc in absurd no
type_placed earlier regions (IntType s k) constant j area h = let no : ⊥ = cc in absurd no
type_placed earlier regions (IndexType s n) constant j area h = let e = index_length n (types.Ref constant (Param j) area) h in let g : Some (types.Ix n) ≡ Some (types.Ref constant (Param j) area) = ap (λ b. cond b (Some (types.Ix n)) None) (sym e) ∙ h in let no : ⊥ = cc in absurd no
type_placed earlier regions (BitsType s name) constant j area h = let p = mapped types.Bits _ (types.Ref constant (Param j) area) h in let e = p.is in let no : ⊥ = cc in absurd no
type_placed earlier regions (RefType s c text target) constant j area h =
    let p = ref_parts c (region_in regions text) (area_in earlier target) (types.Ref constant (Param j) area) h in
    region_placed regions text j (p.region_there ∙ ap Some (ref_region p.is))
  where
    ref_region : {c d : Bool} {r q : Region} {a b : Area} → types.Ref c r a ≡ types.Ref d q b → q ≡ r
    ref_region e = cc

result_gives : (earlier : Earlier) (regions : List Word) (text : Option TypeSyntax) (t : ValueType) → option_and_then (type_in earlier regions) text ≡ Some t → has_result text ≡ true
result_gives earlier regions (Some ty) t h = refl
result_gives earlier regions None t h = let no : ⊥ = cc in absurd no

pub header_determined : (names : List Word) (earlier : Earlier) (import : Bool) (h : HeaderSyntax) (ts : List ValueType) → Params (at_header names earlier h) [] h.params ts → Determined (callee_in earlier import h)
header_determined names earlier import h ts ps = record {
  gives = λ t e. result_gives earlier (regions_of h.params) h.result t e;
  occurs = λ constant j area e.
      let p = bound (type_in earlier (regions_of h.params)) h.result (types.Ref constant (Param j) area) e in
      in_params j (type_placed earlier (regions_of h.params) p.value constant j area p.is);
}
  where
    none_before : (name : Word) → (false ≡ true) ⊎ Mentions name h.params → Mentions name h.params
    none_before name (inl e) = let no : ⊥ = cc in absurd no
    none_before name (inr m) = m

    in_params : (j : ℕ) → Placed (regions_of h.params) j → Occurs j (map (λ (p : ParamSyntax). type_in earlier (regions_of h.params) p.ty) h.params)
    in_params j p = occurs_in ps p.name j p.position (none_before p.name (mentioned p.name h.params [] (placed_any (λ n. same_word n p.name) 0 (regions_of h.params) j p.position)))

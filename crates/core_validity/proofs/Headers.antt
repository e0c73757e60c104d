-- The types of a header: its region parameters are numbered as they first occur, and each type is one of the core's table.
use Rattle.std.proofs.Common.{◌≡◌, ℕ, zero, suc, ◌+◌, ◌<◌, List, [], ◌∷◌, ◌++◌, map, length, Option, Some, None, option_map, Bool, true, false, cond, ◌&&◌, ◌||◌, All, IsTrue, refl, sym, ◌∙◌, ap, subst, arith, le-leb, eq-eqb, length-append, append_assoc, append-nil, IfSome}
use Rattle.std.specs.List.{list_all, list_any, position_from}
use Rattle.std.proofs.lemmas.List.Elements.{All-head, All-tail, All-cons, All-nil}
use Rattle.iv_words.specs.Words.{same_word}
use Rattle.ivory_tree.specs.Syntax.{Word, TypeSyntax, TruthType, IntType, IndexType, BitsType, RefType, ParamSyntax, HeaderSyntax}
use Rattle.ivory_tree.specs.Formed.{FormedType, FormedParam, FormedHeader}
use Rattle.ivory_tree.specs.declared.types.RegionText.TheVariants as region
use Rattle.type_trees.specs.Trees as trees
use Rattle.type_trees.specs.Trees.{repeated, scalars, scalars_row}
use Rattle.area_types.specs.Syntax as types
use Rattle.area_types.specs.Syntax.{ValueType, Area}
use Rattle.area_types.specs.Tables.{Table, written_out}
use Rattle.area_types.specs.Trees.{Written, WrittenRow}
use Rattle.area_types.specs.declared.region.Region.{Region}
use Rattle.area_types.specs.declared.region.Region.TheVariants.{Global, Param}
use Rattle.region_check.specs.Calls.{reference_of}
use Rattle.region_check.specs.Found.{may_follow, count_with, is_numbered, region_count}
use Rattle.core_tree.specs.Types.{is_type}
use Rattle.core_tree.specs.Environments.{type_of_plain}
use Rattle.core_tree.specs.TypedItems.{ParamsTyped, is_given_plain}
use Rattle.source_types.specs.Environments.{Earlier, has_word, number_of_bits}
use Rattle.source_types.specs.Values.{is_plain}
use Rattle.source_types.specs.Written.{with_region, with_regions, region_in, type_in, area_in, callee_in}
use Rattle.typing_rules.specs.Areas.{written}
use Rattle.typing_rules.specs.Environments.{Env}
use Rattle.typing_rules.specs.Items as item
use Rattle.typing_rules.specs.Items.{Params, Results, StandsHeader, none_or_plain, plain_result, has_plain_cells, have_plain_cells, writes_plain}
use Rattle.typing_rules.specs.WellTyped.{at_header}
use Rattle.typing_laws.proofs.Lookups.{some_same, and_both, mapped}
use Rattle.typing_laws.proofs.CleanAreas.{index_length, ref_parts}
use Rattle.typing_laws.proofs.CleanItems.{results_agree}
use Rattle.core_validity.proofs.Lists.{Begins}
use Rattle.core_validity.proofs.Known.{IsHeader}
use Rattle.core_validity.proofs.Named.{Grows, index_is, names_type, written_same}

-- ---- places of region parameters

-- a name that stands at the front stands there
position_front : {A : Type 0} (f : A → Bool) (i : ℕ) (xs ys : List A) (k : ℕ) → list_any f xs ≡ true → position_from f i (xs ++ ys) ≡ Some k → k < i + length xs
position_front f i [] ys k h e = let no : ⊥ = cc in absurd no
position_front f i (x ∷ xs) ys k h e = go (λ q r. position_front f (i + 1) xs ys k q r) (f x) refl e
  where
    go : (list_any f xs ≡ true → position_from f (i + 1) (xs ++ ys) ≡ Some k → k < i + 1 + length xs) → (b : Bool) → f x ≡ b → cond b (Some i) (position_from f (i + 1) (xs ++ ys)) ≡ Some k → k < i + length (x ∷ xs)
    go ih true g q = let same = some_same q in omega (arith, same)
    go ih false g q = omega (arith, ih (ap (λ b. b || list_any f xs) (sym g) ∙ h) q)

-- and one that does not is the next
position_next : {A : Type 0} (f : A → Bool) (i : ℕ) (xs : List A) (x : A) (ys : List A) → list_any f xs ≡ false → f x ≡ true → position_from f i (xs ++ x ∷ ys) ≡ Some (i + length xs)
position_next f i [] x ys h e = ap (λ b. cond b (Some i) (position_from f (i + 1) ys)) e ∙ ap Some (let n : i ≡ i + 0 = omega arith in n)
position_next f i (y ∷ xs) x ys h e = go (λ q. position_next f (i + 1) xs x ys q e) (f y) refl h
  where
    go : (list_any f xs ≡ false → position_from f (i + 1) (xs ++ x ∷ ys) ≡ Some (i + 1 + length xs)) → (b : Bool) → f y ≡ b → b || list_any f xs ≡ false → position_from f i (y ∷ xs ++ x ∷ ys) ≡ Some (i + length (y ∷ xs))
    go ih true g q = let no : ⊥ = cc in absurd no
    go ih false g q = ap (λ b. cond b (Some i) (position_from f (i + 1) (xs ++ x ∷ ys))) g ∙ ih q ∙ ap Some (let n : i + 1 + length xs ≡ i + length (y ∷ xs) = omega arith in n)

pub same_self : (a : List ℕ) → same_word a a ≡ true
same_self [] = refl
same_self (x ∷ xs) = ap (λ b. b && same_word xs xs) (eq-eqb x x refl) ∙ same_self xs

-- ---- numbered

record Follows (n m : ℕ) (t : ValueType) : Type 0 where
  come : may_follow n (reference_of t) ≡ true
  count : count_with n (reference_of t) ≡ m

value_follows : (n : ℕ) (t : ValueType) → reference_of t ≡ None → Follows n n t
value_follows n t e = record { come = ap (may_follow n) e; count = ap (count_with n) e }

old_region : (n j : ℕ) (constant : Bool) (area : Area) → j < n → Follows n n (types.Ref constant (Param j) area)
old_region n j constant area h = record { come = le-leb j n (omega (arith, h)); count = omega (arith, h) }

new_region : (n j : ℕ) (constant : Bool) (area : Area) → j ≡ n → Follows n (n + 1) (types.Ref constant (Param j) area)
new_region n j constant area h = record { come = le-leb j n (omega (arith, h)); count = omega (arith, h) }

-- a region that was named before, and one that was not
seen_follows : (names final : List Word) (name : Word) (j : ℕ) (constant : Bool) (area : Area) → has_word names name ≡ true → Begins Word names final → position_from (λ n. same_word n name) 0 final ≡ Some j
    → Follows (length names) (length names) (types.Ref constant (Param j) area)
seen_follows names final name j constant area h b e =
    let less = position_front (λ n. same_word n name) 0 names b.rest j h (ap (position_from (λ n. same_word n name) 0) (sym b.is) ∙ e) in
    old_region (length names) j constant area (omega (arith, less))

fresh_follows : (names final : List Word) (name : Word) (j : ℕ) (constant : Bool) (area : Area) → has_word names name ≡ false → Begins Word (names ++ name ∷ []) final → position_from (λ n. same_word n name) 0 final ≡ Some j
    → Follows (length names) (length (names ++ name ∷ [])) (types.Ref constant (Param j) area)
fresh_follows names final name j constant area h b e =
    let test : Word → Bool = λ n. same_word n name in
    let is : final ≡ names ++ name ∷ b.rest = b.is ∙ append_assoc names (name ∷ []) b.rest in
    let at : Some j ≡ Some (0 + length names) = sym e ∙ ap (position_from test 0) is ∙ position_next test 0 names name b.rest h (same_self name) in
    let same : j ≡ 0 + length names = some_same at in
    let long : length names + 1 ≡ length (names ++ name ∷ []) = omega (arith, length-append names (name ∷ [])) in
    subst (λ m. Follows (length names) m (types.Ref constant (Param j) area)) long (new_region (length names) j constant area (omega (arith, same)))

named_follows : (names final : List Word) (name : Word) (to : Region) (constant : Bool) (area : Area) → Begins Word (cond (has_word names name) names (names ++ name ∷ [])) final → region_in final (region.Named name) ≡ Some to
    → Follows (length names) (length (cond (has_word names name) names (names ++ name ∷ []))) (types.Ref constant to area)
named_follows names final name to constant area b e =
    let p = mapped Param (position_from (λ n. same_word n name) 0 final) to e in
    subst (λ r. Follows (length names) (length (cond (has_word names name) names (names ++ name ∷ []))) (types.Ref constant r area)) (sym p.is) (go p.value p.there (has_word names name) refl b)
  where
    go : (j : ℕ) → position_from (λ n. same_word n name) 0 final ≡ Some j → (seen : Bool) → has_word names name ≡ seen → Begins Word (cond seen names (names ++ name ∷ [])) final
        → Follows (length names) (length (cond seen names (names ++ name ∷ []))) (types.Ref constant (Param j) area)
    go j at true h c = seen_follows names final name j constant area h c at
    go j at false h c = fresh_follows names final name j constant area h c at

value_type : (n : ℕ) (t u : ValueType) → reference_of t ≡ None → t ≡ u → Follows n n u
value_type n t u h e = value_follows n u (ap reference_of (sym e) ∙ h)

type_follows : (earlier : Earlier) (names final : List Word) (ty : TypeSyntax) (t : ValueType) → Begins Word (with_region names ty) final → type_in earlier final ty ≡ Some t → Follows (length names) (length (with_region names ty)) t
type_follows earlier names final (TruthType s) t b h = value_type (length names) types.Truth t refl (some_same h)
type_follows earlier names final (IntType s kind) t b h = value_type (length names) (types.Int kind) t refl (some_same h)
type_follows earlier names final (IndexType s n) t b h = value_type (length names) (types.Ix n) t refl (index_is n t (index_length n t h) h)
type_follows earlier names final (BitsType s name) t b h = let p = mapped types.Bits (number_of_bits earlier name) t h in value_type (length names) (types.Bits p.value) t refl (sym p.is)
type_follows earlier names final (RefType s c region.Global area) t b h =
    let p = ref_parts c (Some Global) (area_in earlier area) t h in
    let is : types.Ref c Global p.target ≡ t = ap (λ r. types.Ref c r p.target) (some_same p.region_there) ∙ sym p.is in
    subst (Follows (length names) (length names)) is (record { come = refl; count = refl })
type_follows earlier names final (RefType s c (region.Named name) area) t b h =
    let p = ref_parts c (region_in final (region.Named name)) (area_in earlier area) t h in
    subst (Follows (length names) (length (with_region names (RefType s c (region.Named name) area)))) (sym p.is) (named_follows names final name p.to c p.target b p.region_there)

-- later parameters only add names
begins_self : (names : List Word) → Begins Word names names
begins_self names = record { rest = []; is = sym (append-nil names) }

begins_twice : (xs ys zs : List Word) → Begins Word xs ys → Begins Word ys zs → Begins Word xs zs
begins_twice xs ys zs a b = record { rest = a.rest ++ b.rest; is = b.is ∙ ap (λ l. l ++ b.rest) a.is ∙ append_assoc xs a.rest b.rest }

region_begins : (names : List Word) (ty : TypeSyntax) → Begins Word names (with_region names ty)
region_begins names (TruthType s) = begins_self names
region_begins names (IntType s kind) = begins_self names
region_begins names (IndexType s n) = begins_self names
region_begins names (BitsType s name) = begins_self names
region_begins names (RefType s c region.Global area) = begins_self names
region_begins names (RefType s c (region.Named name) area) = go (has_word names name)
  where
    go : (b : Bool) → Begins Word names (cond b names (names ++ name ∷ []))
    go true = begins_self names
    go false = record { rest = name ∷ []; is = refl }

regions_begin : (names : List Word) (params : List ParamSyntax) → Begins Word names (with_regions names params)
regions_begin names [] = begins_self names
regions_begin names (p ∷ params) = begins_twice names (with_region names p.ty) (with_regions (with_region names p.ty) params) (region_begins names p.ty) (regions_begin (with_region names p.ty) params)

record Numbered (n m : ℕ) (ts : List ValueType) : Type 0 where
  numbered : is_numbered n ts ≡ true
  counted : region_count n ts ≡ m

numbered_more : (n k m : ℕ) (t : ValueType) (ts : List ValueType) → Follows n k t → Numbered k m ts → Numbered n m (t ∷ ts)
numbered_more n k m t ts f h = record {
  numbered = ap (λ b. b && is_numbered (count_with n (reference_of t)) ts) f.come ∙ ap (λ c. is_numbered c ts) f.count ∙ h.numbered;
  counted = ap (λ c. region_count c ts) f.count ∙ h.counted;
}

params_numbered : {env : Env} {before : List Word} {params : List ParamSyntax} {ts : List ValueType} → Params env before params ts → (names : List Word) → env.regions ≡ with_regions names params → Numbered (length names) (length env.regions) ts
params_numbered item.no_params names e = record { numbered = refl; counted = ap length (sym e) }
params_numbered {env = env} (item.more_params {p = p} {params = params} {t = t} {ts = ts} taken again type_named more) names e =
    let b : Begins Word (with_region names p.ty) env.regions = subst (Begins Word (with_region names p.ty)) (sym e) (regions_begin (with_region names p.ty) params) in
    numbered_more (length names) (length (with_region names p.ty)) (length env.regions) t ts (type_follows env.earlier names env.regions p.ty t b type_named.exists) (params_numbered more (with_region names p.ty) e)

-- ---- types of the table

params_typed : {env : Env} {before : List Word} {params : List ParamSyntax} {ts : List ValueType} → Params env before params ts → (table : Table) → Grows table env.earlier → All FormedParam params → All (λ t. IsTrue (is_type table (length env.regions) t)) ts
params_typed {env = env} item.no_params table g f = All-nil (λ t. IsTrue (is_type table (length env.regions) t))
params_typed {env = env} (item.more_params {p = p} {params = params} {t = t} {ts = ts} taken again type_named more) table g f =
    All-cons (λ u. IsTrue (is_type table (length env.regions) u)) t ts (names_type table env.earlier env.regions p.ty t g (All-head FormedParam p params f) type_named)
    (params_typed more table g (All-tail FormedParam p params f))

result_typed : {env : Env} {text : Option TypeSyntax} {r : Option ValueType} → Results env text r → (table : Table) → Grows table env.earlier → IfSome text FormedType → (t : ValueType) → r ≡ Some t → IsTrue (is_type table (length env.regions) t)
result_typed item.no_result table g f t e = let no : ⊥ = cc in absurd no
result_typed {env = env} (item.a_result {text = text} {t = u} type_named) table g f t e = subst (λ x. IsTrue (is_type table (length env.regions) x)) (some_same e) (names_type table env.earlier env.regions text u g f type_named)

-- what holds of the types of a header that stands
pub record HeaderTyped (table : Table) (ts : List ValueType) (r : Option ValueType) : Type 0 where
  pub params : ParamsTyped table ts
  pub result : (t : ValueType) → r ≡ Some t → IsTrue (is_type table (region_count 0 ts) t)

pub header_typed : (table : Table) (names : List Word) (earlier : Earlier) (h : HeaderSyntax) (ts : List ValueType) (r : Option ValueType) → Grows table earlier → FormedHeader h → StandsHeader (at_header names earlier h) h ts r → HeaderTyped table ts r
header_typed table names earlier h ts r g f s =
    let n = params_numbered s.params_stand [] refl in
    let types = params_typed s.params_stand table g f.0 in
    record {
      params = record { numbered = n.numbered; types = subst (λ k. All (λ t. IsTrue (is_type table k t)) ts) (sym n.counted) types };
      result = λ t e. subst (λ k. IsTrue (is_type table k t)) (sym n.counted) (result_typed s.result_stands table g f.1 t e);
    }

-- ---- what is declared

params_exist : {env : Env} {before : List Word} {params : List ParamSyntax} {ts : List ValueType} → Params env before params ts → map (λ (p : ParamSyntax). type_in env.earlier env.regions p.ty) params ≡ map Some ts
params_exist item.no_params = refl
params_exist {env = env} (item.more_params {p = p} {params = params} {t = t} {ts = ts} taken again type_named more) =
    ap (λ o. o ∷ map (λ (q : ParamSyntax). type_in env.earlier env.regions q.ty) params) type_named.exists ∙ ap (λ os. Some t ∷ os) (params_exist more)

pub header_is : (table : Table) (names : List Word) (earlier : Earlier) (import : Bool) (h : HeaderSyntax) (ts : List ValueType) (r : Option ValueType) → StandsHeader (at_header names earlier h) h ts r → HeaderTyped table ts r
    → IsHeader table (callee_in earlier import h) (record { params = ts; result = r })
header_is table names earlier import h ts r s t = record {
  params = params_exist s.params_stand;
  result = sym (results_agree s.result_stands).1;
  types = t.params.types;
  result_type = t.result;
}

pub plain_back : (r : Option ValueType) → IsTrue (none_or_plain r) → option_map type_of_plain (plain_result r) ≡ r
plain_back None h = refl
plain_back (Some types.Truth) h = refl
plain_back (Some (types.Int kind)) h = refl
plain_back (Some (types.Ix n)) h = absurd (cc)
plain_back (Some (types.Bits k)) h = absurd (cc)
plain_back (Some (types.Ref c s a)) h = absurd (cc)

-- ---- what an import may be given

all_both : (xs ys : List ValueType) → list_all is_plain xs ≡ true → list_all is_plain ys ≡ true → list_all is_plain (xs ++ ys) ≡ true
all_both [] ys h k = k
all_both (x ∷ xs) ys h k = let p = and_both (is_plain x) (list_all is_plain xs) h in ap (λ b. b && list_all is_plain (xs ++ ys)) p.0 ∙ all_both xs ys p.1 k

all_repeated : (n : ℕ) (xs : List ValueType) → list_all is_plain xs ≡ true → list_all is_plain (repeated n xs) ≡ true
all_repeated zero xs h = refl
all_repeated (suc n) xs h = all_both xs (repeated n xs) h (all_repeated n xs h)

mutual
  plain_scalars : (a : Written) → has_plain_cells a ≡ true → list_all is_plain (scalars a) ≡ true
  plain_scalars (trees.Leaf t) h = ap (λ b. b && true) h
  plain_scalars (trees.Many n a) h = all_repeated n (scalars a) (plain_scalars a h)
  plain_scalars (trees.Struct k fields) h = plain_row fields h

  plain_row : (r : WrittenRow) → have_plain_cells r ≡ true → list_all is_plain (scalars_row r) ≡ true
  plain_row trees.End h = refl
  plain_row (trees.Field i a r) h = let p = and_both (has_plain_cells a) (have_plain_cells r) h in all_both (scalars a) (scalars_row r) (plain_scalars a p.0) (plain_row r p.1)

reference_given : (table : Table) (earlier : Earlier) (constant : Bool) (r : Region) (area : Area) → written_out table area ≡ written earlier area → writes_plain earlier (types.Ref constant r area) ≡ true → IsTrue (is_given_plain table (types.Ref constant r area))
reference_given table earlier true r area e h = refl
reference_given table earlier false r area e h = plain_scalars (written_out table area) (ap has_plain_cells e ∙ h)

type_given : (table : Table) (earlier : Earlier) (regions : List Word) (ty : TypeSyntax) (t : ValueType) → Grows table earlier → FormedType ty → type_in earlier regions ty ≡ Some t → writes_plain earlier t ≡ true → IsTrue (is_given_plain table t)
type_given table earlier regions (TruthType s) t g f h w = subst (λ u. IsTrue (is_given_plain table u)) (some_same h) refl
type_given table earlier regions (IntType s kind) t g f h w = subst (λ u. IsTrue (is_given_plain table u)) (some_same h) refl
type_given table earlier regions (IndexType s n) t g f h w = subst (λ u. IsTrue (is_given_plain table u)) (index_is n t (index_length n t h) h) refl
type_given table earlier regions (BitsType s name) t g f h w = let p = mapped types.Bits (number_of_bits earlier name) t h in subst (λ u. IsTrue (is_given_plain table u)) (sym p.is) refl
type_given table earlier regions (RefType s c r area) t g f h w =
    let p = ref_parts c (region_in regions r) (area_in earlier area) t h in
    subst (λ u. IsTrue (is_given_plain table u)) (sym p.is)
    (reference_given table earlier c p.to p.target (written_same table earlier area p.target g f p.area_there) (ap (writes_plain earlier) (sym p.is) ∙ w))

pub params_given : {env : Env} {before : List Word} {params : List ParamSyntax} {ts : List ValueType} → Params env before params ts → (table : Table) → Grows table env.earlier → All FormedParam params → list_all (writes_plain env.earlier) ts ≡ true
    → All (λ t. IsTrue (is_given_plain table t)) ts
params_given item.no_params table g f w = All-nil (λ t. IsTrue (is_given_plain table t))
params_given {env = env} (item.more_params {p = p} {params = params} {t = t} {ts = ts} taken again type_named more) table g f w =
    let q = and_both (writes_plain env.earlier t) (list_all (writes_plain env.earlier) ts) w in
    All-cons (λ u. IsTrue (is_given_plain table u)) t ts (type_given table env.earlier env.regions p.ty t g (All-head FormedParam p params f) type_named.exists q.0) (params_given more table g (All-tail FormedParam p params f) q.1)

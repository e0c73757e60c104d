-- An initializer that fits an area fits the area written out, part by part.
use Rattle.std.proofs.Common.{◌≡◌, ℕ, zero, suc, ◌+◌, ◌≤◌, List, [], ◌∷◌, length, slice_get, Option, Some, None, IsTrue, refl, sym, ◌∙◌, ap, subst, arith, if◌then◌else◌, nat_le}
use Rattle.std.specs.List.{list_all}
use Rattle.std.specs.Option.{option_map, option_and_then}
use Rattle.std.proofs.lemmas.Bool.{lt-ltb, le-ltb}
use Rattle.std.proofs.lemmas.Option.{slice_get-map}
use Rattle.type_trees.specs.Trees as trees
use Rattle.type_trees.specs.Trees.{repeated}
use Rattle.area_types.specs.Syntax as types
use Rattle.area_types.specs.Syntax.{Area, StructType}
use Rattle.area_types.specs.View.{struct_of}
use Rattle.area_types.specs.Tables.{structs_of, written_out, is_field, is_length, is_made_of}
use Rattle.area_types.specs.Trees.{Written, fields_from, trees_of}
use Rattle.area_types.specs.declared.structs.StructDef.{StructDef}
use Rattle.area_types.proofs.Truths.{both, is_at_most}
use Rattle.core_tree.specs.Syntax.{ModuleCore, InitCore, One, Many, InitsCore, NoInits, MoreInits}
use Rattle.core_tree.specs.Environments.{Env, struct_field}
use Rattle.core_tree.specs.TypedExpressions.{HasType}
use Rattle.core_tree.specs.TypedInits.{InitTyped, InitsTyped, place}
use Rattle.core_meaning.specs.Initializers.{field_types}
use Rattle.region_soundness.proofs.Structs.{TableFits, Made, element_made, field_is_made, made_struct}

module _ (env : Env) (scope : List ℕ) where
  abbrev mutual
    pub WrittenTyped : InitCore → Written → Type 0
    WrittenTyped (One e) (trees.Leaf t) = HasType env scope e t
    WrittenTyped (One e) (trees.Many n a) = ⊥
    WrittenTyped (One e) (trees.Struct k r) = ⊥
    WrittenTyped (Many is) (trees.Leaf t) = ⊥
    WrittenTyped (Many is) (trees.Many n a) = (1 ≤ n) × AllTyped is (repeated n (a ∷ []))
    WrittenTyped (Many is) (trees.Struct k r) = AllTyped is (field_types r)

    -- the first parts, and no more than there are
    pub AllTyped : InitsCore → List Written → Type 0
    AllTyped NoInits tys = Unit {0}
    AllTyped (MoreInits i is) [] = ⊥
    AllTyped (MoreInits i is) (ty ∷ tys) = WrittenTyped i ty × AllTyped is tys

-- ---- places

-- the element or field of the number i is of this type
record Placed (core : ModuleCore) (whole : Area) (i : ℕ) (ty : Written) : Type 0 where
  area : Area
  is : place core whole i ≡ Some area
  made : Made core.structs area
  type : ty ≡ written_out core.structs area

-- those from i on are of these types, and there are no more
abbrev PlacesFrom : ModuleCore → Area → ℕ → List Written → Type 0
PlacesFrom core whole i [] = place core whole i ≡ None
PlacesFrom core whole i (ty ∷ tys) = Placed core whole i ty × PlacesFrom core whole (suc i) tys

element_places : (core : ModuleCore) (n : ℕ) (element : Area) → Made core.structs element → (m i : ℕ) → i + m ≡ n → PlacesFrom core (types.Array n element) i (repeated m (written_out core.structs element ∷ []))
element_places core n element made zero i e = ap (λ b. if b then Some element else None) (le-ltb i n (omega (arith, e)))
element_places core n element made (suc m) i e =
    (record { area = element; is = ap (λ b. if b then Some element else None) (lt-ltb i n (omega (arith, e))); made = made; type = refl }, element_places core n element made m (suc i) (omega (arith, e)))

field_places : (core : ModuleCore) (number : ℕ) (fs : List types.Field) → IsTrue (list_all (is_field (length (structs_of core.structs)) (length core.structs.words)) fs)
    → (i : ℕ) → ((j k : ℕ) → k ≡ i + j → struct_field core number k ≡ option_map (λ f. f.area) (slice_get fs j)) → PlacesFrom core (types.Struct number) i (field_types (fields_from i (trees_of (structs_of core.structs)) fs))
field_places core number [] h i at = at 0 i (omega arith)
field_places core number (f ∷ fs) h i at =
    let p = both (is_field (length (structs_of core.structs)) (length core.structs.words) f) (list_all (is_field (length (structs_of core.structs)) (length core.structs.words)) fs) h in
    (record { area = f.area; is = at 0 i (omega arith); made = field_is_made core.structs f p.0; type = refl }, field_places core number fs p.1 (suc i) (λ j k e. at (suc j) k (omega (arith, e))))

struct_fields : (core : ModuleCore) (number : ℕ) (s : StructType) → slice_get (structs_of core.structs) number ≡ Some s → (k : ℕ) → struct_field core number k ≡ option_map (λ f. f.area) (slice_get s.fields k)
struct_fields core number s e k = go (slice_get core.structs.structs number) refl
  where
    go : (o : Option StructDef) → slice_get core.structs.structs number ≡ o → option_and_then (λ (d : StructDef). option_map (λ (f : types.Field). f.area) (slice_get (struct_of d).fields k)) o ≡ option_map (λ (f : types.Field). f.area) (slice_get s.fields k)
    go None q = let no : ⊥ = (let n : None ≡ Some s = ap (option_map struct_of) (sym q) ∙ sym (slice_get-map struct_of core.structs.structs number) ∙ e in cc) in absurd no
    go (Some d) q =
        let n : Some (struct_of d) ≡ Some s = ap (option_map struct_of) (sym q) ∙ sym (slice_get-map struct_of core.structs.structs number) ∙ e in
        let same : struct_of d ≡ s = cc in
        ap (λ (x : StructType). option_map (λ (f : types.Field). f.area) (slice_get x.fields k)) same

-- an array has an element
has_element : (env : Env) (n : ℕ) (element : Area) → Made env.core.structs (types.Array n element) → 1 ≤ n
has_element env n element made =
    let length_fits : IsTrue (is_length n) = (both (is_length n) (is_made_of (length (structs_of env.core.structs)) (length env.core.structs.words) element) made.of_structs).0 in
    is_at_most 1 n (both (nat_le 1 n) (nat_le n 65_535) length_fits).0

-- ---- initializers

module _ (env : Env) (table : TableFits env.core.structs) (scope : List ℕ) where
  mutual
    pub written_typed : (init : InitCore) (area : Area) → Made env.core.structs area → InitTyped env scope (Some area) init → WrittenTyped env scope init (written_out env.core.structs area)
    written_typed (One e) (types.Stored t) made h = h
    written_typed (One e) (types.Array m element) made h = absurd h
    written_typed (One e) (types.Struct k) made h = absurd h
    written_typed (Many is) (types.Stored t) made h = absurd h
    written_typed (Many is) (types.Array m element) made h =
        let tys : List Written = repeated m (written_out env.core.structs element ∷ []) in
        let places : PlacesFrom env.core (types.Array m element) 0 tys = element_places env.core m element (element_made env.core.structs m element made) m 0 (omega arith) in
        (has_element env m element made, all_typed is (types.Array m element) 0 tys places h)
    written_typed (Many is) (types.Struct k) made h =
        let there = made_struct env.core.structs table k made in
        let fields : (j i : ℕ) → i ≡ 0 + j → struct_field env.core k i ≡ option_map (λ f. f.area) (slice_get there.0.fields j) = λ j i e. (let same : i ≡ j = omega (arith, e) in struct_fields env.core k there.0 there.1 i ∙ ap (λ x. option_map (λ f. f.area) (slice_get there.0.fields x)) same) in
        let tys : List Written = field_types (fields_from 0 (trees_of (structs_of env.core.structs)) there.0.fields) in
        let places : PlacesFrom env.core (types.Struct k) 0 tys = field_places env.core k there.0.fields there.2.fields 0 fields in
        subst (λ t. WrittenTyped env scope (Many is) t) (sym there.2.is) (all_typed is (types.Struct k) 0 tys places h)

    all_typed : (inits : InitsCore) (whole : Area) (i : ℕ) (tys : List Written) → PlacesFrom env.core whole i tys → InitsTyped env scope whole i inits → AllTyped env scope inits tys
    all_typed NoInits whole i tys places h = tt
    all_typed (MoreInits init inits) whole i [] places h = absurd (subst (λ o. InitTyped env scope o init) places h.0)
    all_typed (MoreInits init inits) whole i (ty ∷ tys) places h =
        let p = places.0 in
        let typed : InitTyped env scope (Some p.area) init = subst (λ o. InitTyped env scope o init) p.is h.0 in
        (subst (λ t. WrittenTyped env scope init t) (sym p.type) (written_typed init p.area p.made typed), all_typed inits whole (suc i) tys places.1 h.1)

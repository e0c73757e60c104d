-- What the initializer of a local area is given fits the area, element by element and field by field.
use Rattle.std.proofs.Common.{◌≡◌, ℕ, zero, suc, ◌+◌, ℤ, List, [], ◌∷◌, length, slice_get, Option, Some, None, IsTrue, refl, sym, ◌∙◌, ap, subst, arith, if◌then◌else◌}
use Rattle.std.specs.List.{list_all}
use Rattle.std.specs.Option.{option_map, option_and_then}
use Rattle.std.proofs.lemmas.Bool.{lt-ltb, le-ltb}
use Rattle.std.proofs.lemmas.Option.{slice_get-map}
use Rattle.type_trees.specs.Trees as trees
use Rattle.type_trees.specs.Trees.{repeated}
use Rattle.type_trees.specs.Values as tree
use Rattle.type_trees.specs.Values.{Nil, Cons, EachOf, FitsRow}
use Rattle.area_types.specs.Syntax as types
use Rattle.area_types.specs.Syntax.{ValueType, Area, StructType}
use Rattle.area_types.specs.View.{struct_of}
use Rattle.area_types.specs.Tables.{Table, structs_of, written_out, is_field}
use Rattle.area_types.specs.Trees.{Written, WrittenRow, fields_from, fields_of, trees_of}
use Rattle.area_types.specs.declared.structs.StructDef.{StructDef}
use Rattle.area_types.proofs.Truths.{both}
use Rattle.core_tree.specs.Syntax.{ModuleCore, ExprCore, InitCore, One, Many, InitsCore, NoInits, MoreInits}
use Rattle.core_tree.specs.Types.{is_value}
use Rattle.core_tree.specs.Environments.{Env, struct_field}
use Rattle.core_tree.specs.TypedExpressions.{HasType}
use Rattle.core_tree.specs.TypedInits.{InitTyped, InitsTyped, place}
use Rattle.core_meaning.specs.Values.{Num}
use Rattle.core_meaning.specs.Areas.{Held, filled}
use Rattle.core_meaning.specs.State.{State}
use Rattle.core_meaning.specs.Gives.{Gives, CellIs, InitGives, InitsGive}
use Rattle.core_meaning.specs.Initializers.{field_types, zeros}
use Rattle.region_soundness.specs.Scoped.{HeldFits}
use Rattle.region_soundness.proofs.Inits.{RowFits}
use Rattle.region_soundness.proofs.Structs.{TableFits, Made, core_area_made, element_made, field_is_made, made_struct, made_zeros_fit}
use Rattle.region_soundness.proofs.Trees.{Holds}
use Rattle.value_fitting.specs.Laws.{GivenFirstValuesFit}
use Rattle.value_fitting.proofs.Arguments.{value_fits}

-- ---- values in a row

elements_row : (table : Table) (n : ℕ) (a : Written) (vs : tree.Values ℤ) → RowFits table (repeated n (a ∷ [])) vs → EachOf n (HeldFits table a) vs
elements_row table zero a Nil h = tt
elements_row table zero a (Cons v vs) h = h
elements_row table (suc n) a Nil h = h
elements_row table (suc n) a (Cons v vs) h = (h.0, elements_row table n a vs h.1)

fields_row : (table : Table) (r : WrittenRow) (vs : tree.Values ℤ) → RowFits table (field_types r) vs → FitsRow (Holds table) r vs
fields_row table trees.End Nil h = tt
fields_row table trees.End (Cons v vs) h = h
fields_row table (trees.Field f a r) Nil h = h
fields_row table (trees.Field f a r) (Cons v vs) h = (h.0, fields_row table r vs h.1)

-- ---- places

-- the element or field of the number i is of this type
record Placed (core : ModuleCore) (whole : Area) (i : ℕ) (ty : Written) : Type 0 where
  area : Area
  is : place core whole i ≡ Some area
  made : Made core.structs area
  type : ty ≡ written_out core.structs area

-- those from i on are of these types, and there are no more
abbrev PlacesFrom : ModuleCore → Area → ℕ → List Written → Type 0
PlacesFrom core whole i [] = place core whole i ≡ None
PlacesFrom core whole i (ty ∷ types) = Placed core whole i ty × PlacesFrom core whole (suc i) types

element_places : (core : ModuleCore) (n : ℕ) (element : Area) → Made core.structs element → (m i : ℕ) → i + m ≡ n → PlacesFrom core (types.Array n element) i (repeated m (written_out core.structs element ∷ []))
element_places core n element made zero i e = ap (λ b. if b then Some element else None) (le-ltb i n (omega (arith, e)))
element_places core n element made (suc m) i e =
    (record { area = element; is = ap (λ b. if b then Some element else None) (lt-ltb i n (omega (arith, e))); made = made; type = refl }, element_places core n element made m (suc i) (omega (arith, e)))

field_places : (core : ModuleCore) (number : ℕ) (fs : List types.Field) → IsTrue (list_all (is_field (length (structs_of core.structs)) (length core.structs.words)) fs)
    → (i : ℕ) → ((j k : ℕ) → k ≡ i + j → struct_field core number k ≡ option_map (λ f. f.area) (slice_get fs j)) → PlacesFrom core (types.Struct number) i (field_types (fields_from i (trees_of (structs_of core.structs)) fs))
field_places core number [] h i at = at 0 i (omega arith)
field_places core number (f ∷ fs) h i at =
    let p = both (is_field (length (structs_of core.structs)) (length core.structs.words) f) (list_all (is_field (length (structs_of core.structs)) (length core.structs.words)) fs) h in
    (record { area = f.area; is = at 0 i (omega arith); made = field_is_made core.structs f p.0; type = refl }, field_places core number fs p.1 (suc i) (λ j k e. at (suc j) k (omega (arith, e))))

struct_fields : (core : ModuleCore) (number : ℕ) (s : StructType) → slice_get (structs_of core.structs) number ≡ Some s → (k : ℕ) → struct_field core number k ≡ option_map (λ f. f.area) (slice_get s.fields k)
struct_fields core number s e k = go (slice_get core.structs.structs number) refl
  where
    go : (o : Option StructDef) → slice_get core.structs.structs number ≡ o → option_and_then (λ (d : StructDef). option_map (λ (f : types.Field). f.area) (slice_get (struct_of d).fields k)) o ≡ option_map (λ (f : types.Field). f.area) (slice_get s.fields k)
    go None q = let no : ⊥ = (let n : None ≡ Some s = ap (option_map struct_of) (sym q) ∙ sym (slice_get-map struct_of core.structs.structs number) ∙ e in cc) in absurd no
    go (Some d) q =
        let n : Some (struct_of d) ≡ Some s = ap (option_map struct_of) (sym q) ∙ sym (slice_get-map struct_of core.structs.structs number) ∙ e in
        let same : struct_of d ≡ s = cc in
        ap (λ (x : StructType). option_map (λ (f : types.Field). f.area) (slice_get x.fields k)) same

-- ---- initializers

-- a number that an expression of a body gives is one of its type
abbrev NumbersFit : Env → List ℕ → State → Type 0
NumbersFit env scope s = (e : ExprCore) (t : ValueType) → HasType env scope e t → (v : ℤ) → Gives env.core None s e (Num v) → IsTrue (is_value env.core.structs t v)

module _ (env : Env) (table : TableFits env.core.structs) (scope : List ℕ) (s : State) (numbers_fit : NumbersFit env scope s) where
  zeros_fit : (whole : Area) (i : ℕ) (types : List Written) → PlacesFrom env.core whole i types → RowFits env.core.structs types (zeros types)
  zeros_fit whole i [] h = tt
  zeros_fit whole i (ty ∷ types) h =
      (subst (λ t. HeldFits env.core.structs t (filled t [])) (sym h.0.type) (made_zeros_fit env.core.structs table h.0.area h.0.made), zeros_fit whole (suc i) types h.1)

  cell_fits : (e : ExprCore) (t : ValueType) → HasType env scope e t → (held : Held) → CellIs (Gives env.core None s e) held → HeldFits env.core.structs (trees.Leaf t) held
  cell_fits e t typed held g = subst (λ x. HeldFits env.core.structs (trees.Leaf t) x) (sym g.is) (numbers_fit e t typed g.number g.is_given)

  mutual
    init_fits : (init : InitCore) (area : Area) → Made env.core.structs area → InitTyped env scope (Some area) init → (held : Held) → InitGives env.core s init (written_out env.core.structs area) held
        → HeldFits env.core.structs (written_out env.core.structs area) held
    init_fits (One e) (types.Stored t) made h held g = cell_fits e t h held g
    init_fits (One e) (types.Array m element) made h held g = absurd h
    init_fits (One e) (types.Struct k) made h held g = absurd h
    init_fits (Many is) (types.Stored t) made h held g = absurd h
    init_fits (Many is) (types.Array m element) made h held g =
        let a : Written = written_out env.core.structs element in
        let places : PlacesFrom env.core (types.Array m element) 0 (repeated m (a ∷ [])) = element_places env.core m element (element_made env.core.structs m element made) m 0 (omega arith) in
        subst (λ x. HeldFits env.core.structs (trees.Many m a) x) (sym g.2)
        (elements_row env.core.structs m a g.0 (inits_fit is (types.Array m element) 0 (repeated m (a ∷ [])) places h g.0 g.1))
    init_fits (Many is) (types.Struct k) made h held g =
        let there = made_struct env.core.structs table k made in
        let r : WrittenRow = fields_of (trees_of (structs_of env.core.structs)) there.0.fields in
        let fields : (j i : ℕ) → i ≡ 0 + j → struct_field env.core k i ≡ option_map (λ f. f.area) (slice_get there.0.fields j) = λ j i e. (let same : i ≡ j = omega (arith, e) in struct_fields env.core k there.0 there.1 i ∙ ap (λ x. option_map (λ (f : types.Field). f.area) (slice_get there.0.fields x)) same) in
        let places : PlacesFrom env.core (types.Struct k) 0 (field_types r) = field_places env.core k there.0.fields there.2.fields 0 fields in
        let given : InitGives env.core s (Many is) (trees.Struct k r) held = subst (λ t. InitGives env.core s (Many is) t held) there.2.is g in
        subst (λ t. HeldFits env.core.structs t held) (sym there.2.is)
        (subst (λ x. HeldFits env.core.structs (trees.Struct k r) x) (sym given.2)
        (fields_row env.core.structs r given.0 (inits_fit is (types.Struct k) 0 (field_types r) places h given.0 given.1)))

    inits_fit : (inits : InitsCore) (whole : Area) (i : ℕ) (types : List Written) → PlacesFrom env.core whole i types → InitsTyped env scope whole i inits → (vs : tree.Values ℤ) → InitsGive env.core s inits types vs
        → RowFits env.core.structs types vs
    inits_fit NoInits whole i types places h vs g = subst (λ x. RowFits env.core.structs types x) (sym g) (zeros_fit whole i types places)
    inits_fit (MoreInits init inits) whole i [] places h vs g = absurd (subst (λ o. InitTyped env scope o init) places h.0)
    inits_fit (MoreInits init inits) whole i (ty ∷ types) places h Nil g = absurd g
    inits_fit (MoreInits init inits) whole i (ty ∷ types) places h (Cons v vs) g =
        let p = places.0 in
        let typed : InitTyped env scope (Some p.area) init = subst (λ o. InitTyped env scope o init) p.is h.0 in
        let given : InitGives env.core s init (written_out env.core.structs p.area) v = subst (λ t. InitGives env.core s init t v) p.type g.0 in
        (subst (λ t. HeldFits env.core.structs t v) (sym p.type) (init_fits init p.area p.made typed v given), inits_fit inits whole (suc i) types places.1 h.1 vs g.1)

pub given_first_values_fit : GivenFirstValuesFit
given_first_values_fit env valid at entry s known none area is None h held g =
    subst (λ x. HeldFits env.core.structs (written_out env.core.structs area) x) (sym g) (made_zeros_fit env.core.structs valid.table area (core_area_made env.core.structs area is))
given_first_values_fit env valid at entry s known none area is (Some init) h held g =
    init_fits env valid.table at.scope s
    (λ e t typed v given. subst (λ ty. IsTrue (is_value env.core.structs ty v)) typed.type (value_fits env valid at.scope entry s known none e typed.typed (Num v) given))
    init area (core_area_made env.core.structs area is) h held g

-- First values of local areas: where the expressions of an initializer give numbers of their types, the value fits the area.
use Rattle.std.proofs.Common.{◌≡◌, ℕ, zero, suc, ◌+◌, ℤ, List, [], ◌∷◌, length, slice_get, Option, Some, None, IsTrue, refl, sym, ◌∙◌, ap, subst, arith, if◌then◌else◌}
use Rattle.std.specs.List.{list_all}
use Rattle.std.specs.Option.{option_map, option_and_then}
use Rattle.std.proofs.lemmas.Bool.{lt-ltb, le-ltb}
use Rattle.std.proofs.lemmas.Option.{slice_get-map}
use Rattle.step_semantics.specs.Steps.{World, Part, give, bind}
use Rattle.step_semantics.specs.Safe.{Safe}
use Rattle.type_trees.specs.Trees as trees
use Rattle.type_trees.specs.Trees.{repeated}
use Rattle.type_trees.specs.Values as tree
use Rattle.type_trees.specs.Values.{Cell, Parts, Nil, Cons, EachOf, FitsRow}
use Rattle.area_types.specs.Syntax as types
use Rattle.area_types.specs.Syntax.{ValueType, Area, StructType}
use Rattle.area_types.specs.View.{struct_of}
use Rattle.area_types.specs.Tables.{Table, structs_of, written_out, is_stored, is_field}
use Rattle.area_types.specs.Trees.{Written, WrittenRow, fields_from, fields_of, trees_of}
use Rattle.area_types.specs.declared.structs.StructDef.{StructDef}
use Rattle.area_types.proofs.Truths.{both}
use Rattle.core_tree.specs.Syntax.{ModuleCore, ExprCore, InitCore, One, Many, InitsCore, NoInits, MoreInits}
use Rattle.core_tree.specs.Types.{is_core_area}
use Rattle.core_tree.specs.Environments.{Env, Point, struct_field}
use Rattle.core_tree.specs.TypedExpressions.{HasType}
use Rattle.core_tree.specs.TypedInits.{InitTyped, InitsTyped, place}
use Rattle.core_tree.specs.TypedStatements.{MayInit}
use Rattle.core_tree.specs.Valid.{ValidCore}
use Rattle.core_meaning.specs.Areas.{Held, filled}
use Rattle.core_meaning.specs.State.{State}
use Rattle.core_meaning.specs.Checks.{on_number}
use Rattle.core_meaning.specs.Expressions.{eval}
use Rattle.core_meaning.specs.Initializers.{field_types, zeros, init_value, init_values, first_value}
use Rattle.region_soundness.specs.Scoped.{HeldFits}
use Rattle.region_soundness.proofs.Trees.{Holds}
use Rattle.region_soundness.proofs.Structs.{TableFits, Made, core_area_made, element_made, field_is_made, made_struct, made_zeros_fit}
use Rattle.region_soundness.proofs.Parts.{Steady, NumberOf, steady_after, on_number_safe}

-- ---- values in a row

abbrev pub RowFits : Table → List Written → tree.Values ℤ → Type 0
RowFits table [] Nil = Unit {0}
RowFits table [] (Cons v vs) = ⊥
RowFits table (ty ∷ types) Nil = ⊥
RowFits table (ty ∷ types) (Cons v vs) = HeldFits table ty v × RowFits table types vs

elements_row : (table : Table) (n : ℕ) (a : Written) (vs : tree.Values ℤ) → RowFits table (repeated n (a ∷ [])) vs → EachOf n (HeldFits table a) vs
elements_row table zero a Nil h = tt
elements_row table zero a (Cons v vs) h = h
elements_row table (suc n) a Nil h = h
elements_row table (suc n) a (Cons v vs) h = (h.0, elements_row table n a vs h.1)

fields_row : (table : Table) (r : WrittenRow) (vs : tree.Values ℤ) → RowFits table (field_types r) vs → FitsRow (Holds table) r vs
fields_row table trees.End Nil h = tt
fields_row table trees.End (Cons v vs) h = h
fields_row table (trees.Field f a r) Nil h = h
fields_row table (trees.Field f a r) (Cons v vs) h = (h.0, fields_row table r vs h.1)

-- ---- places

-- the element or field of the number i is of this type
record Placed (core : ModuleCore) (whole : Area) (i : ℕ) (ty : Written) : Type 0 where
  area : Area
  is : place core whole i ≡ Some area
  made : Made core.structs area
  type : ty ≡ written_out core.structs area

-- those from i on are of these types, and there are no more
abbrev PlacesFrom : ModuleCore → Area → ℕ → List Written → Type 0
PlacesFrom core whole i [] = place core whole i ≡ None
PlacesFrom core whole i (ty ∷ types) = Placed core whole i ty × PlacesFrom core whole (suc i) types

element_places : (core : ModuleCore) (n : ℕ) (element : Area) → Made core.structs element → (m i : ℕ) → i + m ≡ n → PlacesFrom core (types.Array n element) i (repeated m (written_out core.structs element ∷ []))
element_places core n element made zero i e = ap (λ b. if b then Some element else None) (le-ltb i n (omega (arith, e)))
element_places core n element made (suc m) i e =
    (record { area = element; is = ap (λ b. if b then Some element else None) (lt-ltb i n (omega (arith, e))); made = made; type = refl }, element_places core n element made m (suc i) (omega (arith, e)))

field_places : (core : ModuleCore) (number : ℕ) (fs : List types.Field) → IsTrue (list_all (is_field (length (structs_of core.structs)) (length core.structs.words)) fs)
    → (i : ℕ) → ((j k : ℕ) → k ≡ i + j → struct_field core number k ≡ option_map (λ f. f.area) (slice_get fs j)) → PlacesFrom core (types.Struct number) i (field_types (fields_from i (trees_of (structs_of core.structs)) fs))
field_places core number [] h i at = at 0 i (omega arith)
field_places core number (f ∷ fs) h i at =
    let p = both (is_field (length (structs_of core.structs)) (length core.structs.words) f) (list_all (is_field (length (structs_of core.structs)) (length core.structs.words)) fs) h in
    (record { area = f.area; is = at 0 i (omega arith); made = field_is_made core.structs f p.0; type = refl }, field_places core number fs p.1 (suc i) (λ j k e. at (suc j) k (omega (arith, e))))

struct_fields : (core : ModuleCore) (number : ℕ) (s : StructType) → slice_get (structs_of core.structs) number ≡ Some s → (k : ℕ) → struct_field core number k ≡ option_map (λ f. f.area) (slice_get s.fields k)
struct_fields core number s e k = go (slice_get core.structs.structs number) refl
  where
    go : (o : Option StructDef) → slice_get core.structs.structs number ≡ o → option_and_then (λ (d : StructDef). option_map (λ (f : types.Field). f.area) (slice_get (struct_of d).fields k)) o ≡ option_map (λ (f : types.Field). f.area) (slice_get s.fields k)
    go None q = let no : ⊥ = (let n : None ≡ Some s = ap (option_map struct_of) (sym q) ∙ sym (slice_get-map struct_of core.structs.structs number) ∙ e in cc) in absurd no
    go (Some d) q =
        let n : Some (struct_of d) ≡ Some s = ap (option_map struct_of) (sym q) ∙ sym (slice_get-map struct_of core.structs.structs number) ∙ e in
        let same : struct_of d ≡ s = cc in
        ap (λ (x : StructType). option_map (λ (f : types.Field). f.area) (slice_get x.fields k)) same

-- ---- initializers

-- each expression whose type an area stores gives a number of the type, and leaves the state as it is
abbrev pub EvalGives : Env → List ℕ → State → Type 0
EvalGives env scope s = (e : ExprCore) (t : ValueType) → HasType env scope e t → IsTrue (is_stored (length env.core.structs.words) t) → (n : ℕ) (w : World) → Safe (Steady s (NumberOf env.core.structs t)) (eval env.core None e n w s)

module _ (env : Env) (table : TableFits env.core.structs) (scope : List ℕ) (s : State) (eval_gives : EvalGives env scope s) where
  zeros_fit : (whole : Area) (i : ℕ) (types : List Written) → PlacesFrom env.core whole i types → RowFits env.core.structs types (zeros types)
  zeros_fit whole i [] h = tt
  zeros_fit whole i (ty ∷ types) h =
      (subst (λ t. HeldFits env.core.structs t (filled t [])) (sym h.0.type) (made_zeros_fit env.core.structs table h.0.area h.0.made), zeros_fit whole (suc i) types h.1)

  one_safe : (e : ExprCore) (t : ValueType) → IsTrue (is_stored (length env.core.structs.words) t) → HasType env scope e t → (n : ℕ) (w : World)
      → Safe (Steady s (HeldFits env.core.structs (trees.Leaf t))) (init_value env.core (One e) (trees.Leaf t) n w s)
  one_safe e t stored typed n w =
      let post : Held → State → Type 0 = Steady s (HeldFits env.core.structs (trees.Leaf t)) in
      let cell : ℤ → Part State Held = λ v. give (Cell v) in
      steady_after s (NumberOf env.core.structs t) post (eval env.core None e n w s) (λ x. on_number env.core x cell) (eval_gives e t typed stored n w)
      (λ x k m z. on_number_safe env.core post env.core.structs t x cell m z s k (λ v f. (refl, f)))

  mutual
    pub init_safe : (init : InitCore) (area : Area) → Made env.core.structs area → InitTyped env scope (Some area) init → (n : ℕ) (w : World)
        → Safe (Steady s (HeldFits env.core.structs (written_out env.core.structs area))) (init_value env.core init (written_out env.core.structs area) n w s)
    init_safe (One e) (types.Stored t) made h n w = one_safe e t made.of_structs h n w
    init_safe (One e) (types.Array m element) made h n w = absurd h
    init_safe (One e) (types.Struct k) made h n w = absurd h
    init_safe (Many is) (types.Stored t) made h n w = absurd h
    init_safe (Many is) (types.Array m element) made h n w =
        let a : Written = written_out env.core.structs element in
        let start : 0 + m ≡ m = omega arith in
        let places : PlacesFrom env.core (types.Array m element) 0 (repeated m (a ∷ [])) = element_places env.core m element (element_made env.core.structs m element made) m 0 start in
        let row : tree.Values ℤ → Type 0 = RowFits env.core.structs (repeated m (a ∷ [])) in
        let post : Held → State → Type 0 = Steady s (HeldFits env.core.structs (trees.Many m a)) in
        steady_after s row post (init_values env.core is (repeated m (a ∷ [])) n w s) (λ vs. give (Parts vs)) (inits_safe is (types.Array m element) 0 (repeated m (a ∷ [])) places h n w)
        (λ vs f j z. (refl, elements_row env.core.structs m a vs f))
    init_safe (Many is) (types.Struct k) made h n w =
        let there = made_struct env.core.structs table k made in
        let built : List Written = trees_of (structs_of env.core.structs) in
        let r : WrittenRow = fields_of built there.0.fields in
        let fields : (j i : ℕ) → i ≡ 0 + j → struct_field env.core k i ≡ option_map (λ f. f.area) (slice_get there.0.fields j) = λ j i e. (let same : i ≡ j = omega (arith, e) in struct_fields env.core k there.0 there.1 i ∙ ap (λ x. option_map (λ (f : types.Field). f.area) (slice_get there.0.fields x)) same) in
        let places : PlacesFrom env.core (types.Struct k) 0 (field_types r) = field_places env.core k there.0.fields there.2.fields 0 fields in
        let row : tree.Values ℤ → Type 0 = RowFits env.core.structs (field_types r) in
        let post : Held → State → Type 0 = Steady s (HeldFits env.core.structs (trees.Struct k r)) in
        subst (λ t. Safe (Steady s (HeldFits env.core.structs t)) (init_value env.core (Many is) t n w s)) (sym there.2.is)
        (steady_after s row post (init_values env.core is (field_types r) n w s) (λ vs. give (Parts vs)) (inits_safe is (types.Struct k) 0 (field_types r) places h n w)
        (λ vs f j z. (refl, fields_row env.core.structs r vs f)))

    inits_safe : (inits : InitsCore) (whole : Area) (i : ℕ) (types : List Written) → PlacesFrom env.core whole i types → InitsTyped env scope whole i inits → (n : ℕ) (w : World)
        → Safe (Steady s (RowFits env.core.structs types)) (init_values env.core inits types n w s)
    inits_safe NoInits whole i types places h n w = (refl, zeros_fit whole i types places)
    inits_safe (MoreInits init inits) whole i [] places h n w = absurd (subst (λ o. InitTyped env scope o init) places h.0)
    inits_safe (MoreInits init inits) whole i (ty ∷ types) places h n w =
        let p = places.0 in
        let typed : InitTyped env scope (Some p.area) init = subst (λ o. InitTyped env scope o init) p.is h.0 in
        let first : Held → Type 0 = HeldFits env.core.structs ty in
        let later : tree.Values ℤ → Type 0 = RowFits env.core.structs types in
        let post : tree.Values ℤ → State → Type 0 = Steady s (RowFits env.core.structs (ty ∷ types)) in
        let rest : Held → Part State (tree.Values ℤ) = λ v. bind (init_values env.core inits types) (λ vs. give (Cons v vs)) in
        steady_after s first post (init_value env.core init ty n w s) rest
        (subst (λ t. Safe (Steady s (HeldFits env.core.structs t)) (init_value env.core init t n w s)) (sym p.type) (init_safe init p.area p.made typed n w))
        (λ v f m z. steady_after s later post (init_values env.core inits types m z s) (λ vs. give (Cons v vs)) (inits_safe inits whole (suc i) types places.1 h.1 m z)
        (λ vs g j y. (refl, (f, g))))

pub first_value_safe : (env : Env) → ValidCore env.core → (at : Point) (s : State) → EvalGives env at.scope s → (area : Area) → IsTrue (is_core_area env.core.structs area) → (init : Option InitCore) → MayInit env at area init → (n : ℕ) (w : World)
    → Safe (Steady s (HeldFits env.core.structs (written_out env.core.structs area))) (first_value env.core init (written_out env.core.structs area) n w s)
first_value_safe env valid at s gives area is None h n w = (refl, made_zeros_fit env.core.structs valid.table area (core_area_made env.core.structs area is))
first_value_safe env valid at s gives area is (Some init) h n w = init_safe env valid.table at.scope s gives init area (core_area_made env.core.structs area is) h n w

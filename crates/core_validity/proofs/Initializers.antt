-- An initializer that fills an area fits it in the core.
use Rattle.std.proofs.Common.{◌≡◌, ℕ, suc, ◌+◌, ◌<◌, ◌≤◌, List, [], ◌∷◌, slice_get, Some, None, option_map, option_and_then, cond, All, IsTrue, sym, ◌∙◌, ap, subst, arith, lt-ltb}
use Rattle.std.proofs.lemmas.List.Elements.{All-head, All-tail}
use Rattle.ivory_tree.specs.Syntax.{InitSyntax, InitsSyntax}
use Rattle.area_types.specs.Syntax as types
use Rattle.area_types.specs.Syntax.{ValueType, Area, StructType}
use Rattle.area_types.specs.View.{struct_of}
use Rattle.area_types.specs.declared.StructDef.{StructDef}
use Rattle.core_tree.specs.Syntax.{InitCore, InitsCore}
use Rattle.core_tree.specs.Environments as around
use Rattle.core_tree.specs.Environments.{struct_field}
use Rattle.core_tree.specs.Types.{is_core_area}
use Rattle.core_tree.specs.TypedInits.{place, InitTyped, InitsTyped}
use Rattle.typing_rules.specs.Environments.{Env}
use Rattle.typing_rules.specs.Initializers as rule
use Rattle.typing_rules.specs.Initializers.{Fills, FillElements, FillFields}
use Rattle.core_validity.proofs.Types.{element_area, held_usable}
use Rattle.core_validity.proofs.Known.{struct_at}
use Rattle.core_validity.proofs.Expressions.{Around, under_fine}

-- the fields from the place i on are those of the struct
abbrev FieldsAt : around.Env → (k i : ℕ) → List types.Field → Type 0
FieldsAt cenv k i [] = Unit {0}
FieldsAt cenv k i (f ∷ fs) = (struct_field cenv.core k i ≡ Some f.area) × FieldsAt cenv k (suc i) fs

fields_from : (cenv : around.Env) (k : ℕ) (d : StructDef) (s : StructType) (i : ℕ) (fs : List types.Field) → slice_get cenv.core.structs.structs k ≡ Some d → struct_of d ≡ s → ((j : ℕ) → slice_get s.fields (i + j) ≡ slice_get fs j) → FieldsAt cenv k i fs
fields_from cenv k d s i [] there is at = tt
fields_from cenv k d s i (f ∷ fs) there is at =
    let here : slice_get s.fields i ≡ Some f = ap (slice_get s.fields) (let r : i ≡ i + 0 = omega arith in r) ∙ at 0 in (
      ap (option_and_then (λ (x : StructDef). option_map (λ (y : types.Field). y.area) (slice_get (struct_of x).fields i))) there
          ∙ ap (λ (x : StructType). option_map (λ (y : types.Field). y.area) (slice_get x.fields i)) is ∙ ap (option_map (λ (y : types.Field). y.area)) here,
      fields_from cenv k d s (suc i) fs there is (λ j. ap (slice_get s.fields) (let r : suc i + j ≡ i + suc j = omega arith in r) ∙ at (suc j)),
    )

element_place : (cenv : around.Env) (n i : ℕ) (element : Area) → i < n → place cenv.core (types.Array n element) i ≡ Some element
element_place cenv n i element h = ap (λ b. cond b (Some element) None) (lt-ltb i n h)

mutual
  pub init_typed : {env : Env} {a : Area} {i : InitSyntax} {c : InitCore} → Fills env a i c → (n : ℕ) (cenv : around.Env) (scope : List ℕ) → Around n env cenv scope → IsTrue (is_core_area cenv.core.structs a) → InitTyped cenv scope (Some a) c
  init_typed (rule.stored {t = t} u) n cenv scope k h = under_fine u n cenv scope k (held_usable cenv.core.structs n t h)
  init_typed (rule.array {n = m} {element = element} {cs = cs} fill) n cenv scope k h = elements_typed fill n cenv scope k (element_area cenv.core.structs m element h) m 0 (omega arith)
  init_typed (rule.struct {env = env} {k = b} {struct_type = s} there fill) n cenv scope k h =
      let o = struct_at cenv.core cenv.earlier env.earlier b s k.known there in
      fields_typed fill n cenv scope k o.areas b 0 (fields_from cenv b o.definition s 0 s.fields o.there o.is (λ j. ap (slice_get s.fields) (let r : 0 + j ≡ j = omega arith in r)))

  elements_typed : {env : Env} {m : ℕ} {element : Area} {is : InitsSyntax} {cs : InitsCore} → FillElements env m element is cs → (n : ℕ) (cenv : around.Env) (scope : List ℕ) → Around n env cenv scope → IsTrue (is_core_area cenv.core.structs element)
      → (all i : ℕ) → i + m ≤ all → InitsTyped cenv scope (types.Array all element) i cs
  elements_typed rule.no_elements n cenv scope k h all i le = tt
  elements_typed (rule.more_elements {n = m} {element = element} {c = c} fill more) n cenv scope k h all i le =
      (subst (λ o. InitTyped cenv scope o c) (sym (element_place cenv all i element (omega (arith, le)))) (init_typed fill n cenv scope k h), elements_typed more n cenv scope k h all (suc i) (omega (arith, le)))

  fields_typed : {env : Env} {fs : List types.Field} {is : InitsSyntax} {cs : InitsCore} → FillFields env fs is cs → (n : ℕ) (cenv : around.Env) (scope : List ℕ) → Around n env cenv scope → All (λ (f : types.Field). IsTrue (is_core_area cenv.core.structs f.area)) fs
      → (b i : ℕ) → FieldsAt cenv b i fs → InitsTyped cenv scope (types.Struct b) i cs
  fields_typed rule.no_fields n cenv scope k h b i at = tt
  fields_typed (rule.more_fields {f = f} {fields = fs} {c = c} fill more) n cenv scope k h b i at = (
    subst (λ o. InitTyped cenv scope o c) (sym at.0) (init_typed fill n cenv scope k (All-head (λ (g : types.Field). IsTrue (is_core_area cenv.core.structs g.area)) f fs h)),
    fields_typed more n cenv scope k (All-tail (λ (g : types.Field). IsTrue (is_core_area cenv.core.structs g.area)) f fs h) b (suc i) at.1,
  )

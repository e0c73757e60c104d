-- An initializer that fills its area breaks no rule.
use Rattle.std.proofs.Common.{◌≡◌, ℕ, suc, ◌+◌, ◌≤◌, List, ◌∷◌, length, Some, None, Bool, true, false, not, refl, sym, ◌∙◌, ap, arith, nat_lt, slice_get}
use Rattle.std.proofs.lemmas.Bool.Decides.{nat_tests}
use Rattle.iv_words.specs.declared.Span.{Span}
use Rattle.ivory_tree.specs.Syntax as syntax
use Rattle.ivory_tree.specs.Syntax.{ExprSyntax, InitSyntax, InitsSyntax}
use Rattle.area_types.specs.Syntax as types
use Rattle.area_types.specs.Syntax.{Area, StructType}
use Rattle.core_tree.specs.Syntax.{InitCore, InitsCore}
use Rattle.rule_faults.specs.Wants.{Wants}
use Rattle.rule_faults.specs.Nodes.{AnInit}
use Rattle.rule_faults.specs.ItemRules.{inits_count, is_first_value, rule_16, rule_17}
use Rattle.rule_faults.specs.ExpressionRows.{expr_row, init_row, inits_row, place_in}
use Rattle.rule_faults.specs.FirstFault.{first_of}
use Rattle.typing_rules.specs.Environments.{Env}
use Rattle.typing_rules.specs.Contexts.{context_of}
use Rattle.typing_rules.specs.Initializers.{Fills, FillElements, FillFields, stored, array, struct, no_elements, more_elements, no_fields, more_fields, has_constants, have_constants, is_constant, is_number}
use Rattle.rule_faults.specs.ItemRules as faults
use Rattle.typing_laws.proofs.Lookups.{and_both}
use Rattle.typing_laws.proofs.Quiet.{quiet_cons, quiet_append}
use Rattle.typing_laws.proofs.QuietNodes.{quiet_init}
use Rattle.typing_laws.proofs.Clean.{clean_under}

-- ---- constants

same_number : (e : ExprSyntax) → is_number e ≡ faults.is_number e
same_number (syntax.Literal s value) = refl
same_number (syntax.Truth s value) = refl
same_number (syntax.Outcome s) = refl
same_number (syntax.Variable s name) = refl
same_number (syntax.Cast s kind e) = refl
same_number (syntax.ToIndex s n e) = refl
same_number (syntax.WrapIndex s n e) = refl
same_number (syntax.MakeBits s name e) = refl
same_number (syntax.Raw s e) = refl
same_number (syntax.SetField s e field value) = refl
same_number (syntax.Prefix s op e) = refl
same_number (syntax.Binary s op at left right) = refl
same_number (syntax.Field s e field) = refl
same_number (syntax.Element s brackets e index) = refl
same_number (syntax.Cond s test first second) = refl
same_number (syntax.Bare s e) = refl

pub same_constant : (e : ExprSyntax) → is_constant e ≡ is_first_value e
same_constant (syntax.Literal s value) = refl
same_constant (syntax.Truth s value) = refl
same_constant (syntax.Outcome s) = refl
same_constant (syntax.Variable s name) = refl
same_constant (syntax.Cast s kind e) = refl
same_constant (syntax.ToIndex s n e) = refl
same_constant (syntax.WrapIndex s n e) = refl
same_constant (syntax.MakeBits s name e) = same_number e
same_constant (syntax.Raw s e) = refl
same_constant (syntax.SetField s e field value) = refl
same_constant (syntax.Prefix s op e) = refl
same_constant (syntax.Binary s op at left right) = refl
same_constant (syntax.Field s e field) = refl
same_constant (syntax.Element s brackets e index) = refl
same_constant (syntax.Cond s test first second) = refl
same_constant (syntax.Bare s e) = refl

-- where the area is one of the module, the initializer is made of constants
abbrev pub Allowed : (global : Bool) → InitSyntax → Type 0
Allowed global i = global ≡ true → has_constants i ≡ true

first_value_quiet : (env : Env) (global : Bool) (t : types.ValueType) (e : ExprSyntax) → Allowed global (syntax.One e) → rule_17 (AnInit env.earlier global (Some (types.Stored t)) (syntax.One e)) ≡ false
first_value_quiet env true t e h = ap not (sym (same_constant e) ∙ h refl)
first_value_quiet env false t e h = refl

braces_quiet : (env : Env) (global : Bool) (a : Area) (s : Span) (is : InitsSyntax) → rule_17 (AnInit env.earlier global (Some a) (syntax.Many s is)) ≡ false
braces_quiet env true (types.Stored t) s is = refl
braces_quiet env true (types.Array n element) s is = refl
braces_quiet env true (types.Struct k) s is = refl
braces_quiet env false a s is = refl

-- ---- counts

not_below : (m n : ℕ) → n ≤ m → nat_lt m n ≡ false
not_below m n h = grind (arith, nat_tests)

elements_fit : {env : Env} {n : ℕ} {element : Area} {is : InitsSyntax} {cs : InitsCore} → FillElements env n element is cs → inits_count is ≤ n
elements_fit no_elements = omega arith
elements_fit (more_elements h more) = let f = elements_fit more in omega arith

fields_fit : {env : Env} {fields : List types.Field} {is : InitsSyntax} {cs : InitsCore} → FillFields env fields is cs → inits_count is ≤ length fields
fields_fit no_fields = omega arith
fields_fit (more_fields h more) = let f = fields_fit more in omega arith

-- ---- places

-- the fields from i on are those of the struct
abbrev pub From : List types.Field → ℕ → List types.Field → Type 0
From all i fields = (j : ℕ) → slice_get all (i + j) ≡ slice_get fields j

pub from_next : (all : List types.Field) (i : ℕ) (f : types.Field) (fields : List types.Field) → From all i (f ∷ fields) → From all (i + 1) fields
from_next all i f fields h j =
    let e : (i + 1) + j ≡ i + suc j = omega arith in
    ap (slice_get all) e ∙ h (suc j)

pub field_place : (env : Env) (k : ℕ) (st : StructType) (i : ℕ) (f : types.Field) (fields : List types.Field) → slice_get env.earlier.structs k ≡ Some st → From st.fields i (f ∷ fields)
    → place_in env.earlier (Some (types.Struct k)) i ≡ Some f.area
field_place env k st i f fields h at =
    let e : i + 0 ≡ i = omega arith in
    let g : slice_get st.fields i ≡ Some f = ap (slice_get st.fields) (sym e) ∙ at 0 in
    rw (h, g) refl

-- ---- initializers

mutual
  pub init_clean : {env : Env} {a : Area} {i : InitSyntax} {c : InitCore} → Fills env a i c → (global : Bool) → Allowed global i → first_of (init_row (context_of env) global (Some a) i) ≡ None
  init_clean {env = env} (stored {t = t} {e = e} u) global h =
      quiet_cons (AnInit env.earlier global (Some (types.Stored t)) (syntax.One e)) (expr_row (context_of env) (Wants t) e)
      (quiet_init env.earlier global (Some (types.Stored t)) (syntax.One e) (refl, refl, first_value_quiet env global t e h)) (clean_under u).wanted
  init_clean {env = env} (array {n = n} {element = element} {s = s} {inits = inits} more) global h =
      quiet_cons (AnInit env.earlier global (Some (types.Array n element)) (syntax.Many s inits)) (inits_row (context_of env) global (Some (types.Array n element)) 0 inits)
      (quiet_init env.earlier global (Some (types.Array n element)) (syntax.Many s inits) (refl, not_below n (inits_count inits) (elements_fit more), braces_quiet env global (types.Array n element) s inits))
      (elements_clean more n 0 global h)
  init_clean {env = env} (struct {k = k} {struct_type = st} {s = s} {inits = inits} at more) global h =
      quiet_cons (AnInit env.earlier global (Some (types.Struct k)) (syntax.Many s inits)) (inits_row (context_of env) global (Some (types.Struct k)) 0 inits)
      (quiet_init env.earlier global (Some (types.Struct k)) (syntax.Many s inits) (refl, rw at (not_below (length st.fields) (inits_count inits) (fields_fit more)), braces_quiet env global (types.Struct k) s inits))
      (fields_clean more k st at 0 (λ j. let e : 0 + j ≡ j = omega arith in ap (slice_get st.fields) e) global h)

  elements_clean : {env : Env} {n : ℕ} {element : Area} {is : InitsSyntax} {cs : InitsCore} → FillElements env n element is cs → (m i : ℕ) (global : Bool) → (global ≡ true → have_constants is ≡ true)
      → first_of (inits_row (context_of env) global (Some (types.Array m element)) i is) ≡ None
  elements_clean no_elements m i global h = refl
  elements_clean {env = env} (more_elements {element = element} {i = init} {is = is} f more) m i global h =
      quiet_append (init_row (context_of env) global (Some element) init) (inits_row (context_of env) global (Some (types.Array m element)) (i + 1) is)
      (init_clean f global (λ q. (and_both (has_constants init) (have_constants is) (h q)).0))
      (elements_clean more m (i + 1) global (λ q. (and_both (has_constants init) (have_constants is) (h q)).1))

  fields_clean : {env : Env} {fields : List types.Field} {is : InitsSyntax} {cs : InitsCore} → FillFields env fields is cs → (k : ℕ) (st : StructType) → slice_get env.earlier.structs k ≡ Some st → (i : ℕ) → From st.fields i fields
      → (global : Bool) → (global ≡ true → have_constants is ≡ true) → first_of (inits_row (context_of env) global (Some (types.Struct k)) i is) ≡ None
  fields_clean no_fields k st at i rest global h = refl
  fields_clean {env = env} (more_fields {f = f} {fields = fields} {i = init} {is = is} g more) k st at i rest global h =
      quiet_append (init_row (context_of env) global (place_in env.earlier (Some (types.Struct k)) i) init) (inits_row (context_of env) global (Some (types.Struct k)) (i + 1) is)
      (ap (λ o. first_of (init_row (context_of env) global o init)) (field_place env k st i f fields at rest) ∙ init_clean g global (λ q. (and_both (has_constants init) (have_constants is) (h q)).0))
      (fields_clean more k st at (i + 1) (from_next st.fields i f fields rest) global (λ q. (and_both (has_constants init) (have_constants is) (h q)).1))

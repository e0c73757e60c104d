-- A state that is scoped for an open call of a procedure is staged: what its expressions are given fits, and their indices have lengths.
use Rattle.std.proofs.Common.{◌≡◌, ◌||◌, ℕ, Bool, true, false, not, List, take, slice_get, Option, Some, None, IsTrue, refl, subst}
use Rattle.area_types.specs.Syntax as types
use Rattle.area_types.specs.Syntax.{ValueType, Truth, Int, Ix, Bits, Ref}
use Rattle.area_types.specs.Tables.{Table, has_index_length}
use Rattle.area_types.specs.declared.region.Region.{Region}
use Rattle.source_types.specs.Values.{is_reference}
use Rattle.area_types.specs.declared.region.Region.TheVariants.{Global, Param, Own}
use Rattle.region_check.specs.Found.{region_count}
use Rattle.area_types.proofs.Truths.{both}
use Rattle.core_tree.specs.Syntax.{ExprCore, ProcCore, ModuleCore, type_of}
use Rattle.core_tree.specs.Environments.{Env}
use Rattle.core_tree.specs.TypedExpressions.{ExprTyped}
use Rattle.core_tree.specs.TypedItems.{AreaTyped, env_of, contract_env, is_own, is_local_type, is_result, param_types}
use Rattle.core_tree.specs.Types.{is_type, is_core_area, is_region}
use Rattle.core_tree.specs.Valid.{ValidCore}
use Rattle.region_soundness.proofs.Structs.{Made, core_area_made, element_made, field_made}
use Rattle.value_fitting.proofs.Expressions.{given_values_fit}
use Rattle.value_fitting.proofs.States.{scoped_is_known, no_result_is_known, contracts_know, results_are_known}
use Rattle.lowered_surroundings.specs.Laws.{ScopedStatesAreStaged, EnsuresAreStaged}
use Rattle.lowered_surroundings.proofs.ExpressionTypes.{Passes, all_at, types_hold, no_outcome}

-- ---- types of locals

-- a reference is one to an area of the module's types, and an index has a length
abbrev pub IsMade : Table → ValueType → Type 0
IsMade table Truth = Unit {0}
IsMade table (Int kind) = Unit {0}
IsMade table (Ix n) = IsTrue (has_index_length (Ix n))
IsMade table (Bits k) = Unit {0}
IsMade table (Ref constant region area) = Made table area

pub type_made : (table : Table) (regions : ℕ) (ty : ValueType) → IsTrue (is_type table regions ty) → IsMade table ty
type_made table regions Truth h = tt
type_made table regions (Int kind) h = tt
type_made table regions (Ix n) h = h
type_made table regions (Bits k) h = tt
type_made table regions (Ref constant region area) h = core_area_made table area (both (is_region regions region) (is_core_area table area) h).1

own_made : (table : Table) (ty : ValueType) → IsTrue (is_own table ty) → IsMade table ty
own_made table Truth h = tt
own_made table (Int kind) h = tt
own_made table (Ix n) h = let no : ⊥ = cc in absurd no
own_made table (Bits k) h = tt
own_made table (Ref constant Global area) h = let no : ⊥ = cc in absurd no
own_made table (Ref constant (Param j) area) h = let no : ⊥ = cc in absurd no
own_made table (Ref constant Own area) h = core_area_made table area h

pub local_made : (table : Table) (regions : ℕ) (ty : ValueType) → IsTrue (is_local_type table regions ty) → IsMade table ty
local_made table regions ty h = go (is_type table regions ty) refl h
  where
    go : (b : Bool) → is_type table regions ty ≡ b → IsTrue (b || is_own table ty) → IsMade table ty
    go true e h = type_made table regions ty e
    go false e h = own_made table ty h

-- ---- what areas hold

stored_made : (table : Table) (ty : ValueType) → Made table (types.Stored ty) → IsMade table ty
stored_made table Truth m = tt
stored_made table (Int kind) m = tt
stored_made table (Ix n) m = m.lengths
stored_made table (Bits k) m = tt
stored_made table (Ref constant region area) m = let is = m.of_structs in let no : ⊥ = cc in absurd no

-- no area holds references
plain_stored : (table : Table) (ty : ValueType) → Made table (types.Stored ty) → IsTrue (not (is_reference ty))
plain_stored table Truth m = refl
plain_stored table (Int kind) m = refl
plain_stored table (Ix n) m = refl
plain_stored table (Bits k) m = refl
plain_stored table (Ref constant region area) m = let is = m.of_structs in let no : ⊥ = cc in absurd no

made_indexed : (table : Table) (ty : ValueType) → IsMade table ty → IsTrue (has_index_length ty)
made_indexed table Truth m = refl
made_indexed table (Int kind) m = refl
made_indexed table (Ix n) m = m
made_indexed table (Bits k) m = refl
made_indexed table (Ref constant region area) m = refl

pub result_made : (table : Table) (p : ProcCore) (r : Option ValueType) → IsTrue (is_result table p r) → (ty : ValueType) → r ≡ Some ty → IsMade table ty
result_made table p None h ty e = let no : ⊥ = cc in absurd no
result_made table p (Some t) h ty e = let same : t ≡ ty = cc in subst (IsMade table) same (type_made table (region_count 0 (param_types p)) t h)

module _ (core : ModuleCore) (valid : ValidCore core) (k : ℕ) (p : ProcCore) (at_k : slice_get core.procs k ≡ Some p) (scope : List ℕ) where
  -- in a body, or where the result may be named
  abbrev around : Option ValueType → Env
  around outcome = record (env_of core (take k core.procs) p) { outcome = outcome }

  locals_made : (x : ℕ) (ty : ValueType) → slice_get p.locals x ≡ Some ty → IsMade core.structs ty
  locals_made x ty e =
      let regions = region_count 0 (param_types p) in
      local_made core.structs regions ty (all_at (λ t. IsTrue (is_local_type core.structs regions t)) p.locals x ty (valid.procs k p at_k).local_types e)

  made_passes : (outcome : Option ValueType) → ((ty : ValueType) → outcome ≡ Some ty → IsMade core.structs ty) → Passes (around outcome) scope (IsMade core.structs)
  made_passes outcome named = record {
    truth = tt;
    int = λ kind. tt;
    index = λ n h. h;
    bits = λ j. tt;
    area = λ j a e. core_area_made core.structs a.area (all_at (AreaTyped core) core.areas j a valid.areas e).area_is;
    local = λ x ty inside e. locals_made x ty e;
    outcome = named;
    stored = λ constant region ty m. stored_made core.structs ty m;
    field = λ constant region j f area e m. field_made core valid.table j f area e;
    element = λ constant region n area m. element_made core.structs n area m;
  }

  pub indices_have_lengths : (outcome : Option ValueType) → ((ty : ValueType) → outcome ≡ Some ty → IsMade core.structs ty) → (e : ExprCore) → ExprTyped (around outcome) scope e → IsTrue (has_index_length (type_of e))
  indices_have_lengths outcome named e t = made_indexed core.structs (type_of e) (types_hold (around outcome) scope (IsMade core.structs) (made_passes outcome named) e t)

  pub cells_are_plain : (outcome : Option ValueType) → ((ty : ValueType) → outcome ≡ Some ty → IsMade core.structs ty) → (e : ExprCore) (constant : Bool) (region : Region) (held : ValueType) → ExprTyped (around outcome) scope e → type_of e ≡ Ref constant region (types.Stored held)
      → IsTrue (not (is_reference held))
  cells_are_plain outcome named e constant region held t is =
      plain_stored core.structs held (subst (IsMade core.structs) is (types_hold (around outcome) scope (IsMade core.structs) (made_passes outcome named) e t))

pub scoped_states_are_staged : ScopedStatesAreStaged
scoped_states_are_staged core valid k p at_k skip t functions scope entry waiting s scoped =
    let env : Env = env_of core (take k core.procs) p in
    record {
      entry = entry;
      fits = λ e v typed gives. given_values_fit env valid scope entry s (scoped_is_known env scope entry waiting s scoped) None (no_result_is_known env entry s.areas refl) e typed v gives;
      stored = λ e constant region held typed is. cells_are_plain core valid k p at_k scope None (λ ty none. absurd (no_outcome ty none)) e constant region held typed is;
      indexed = λ e typed. indices_have_lengths core valid k p at_k scope None (λ ty none. absurd (no_outcome ty none)) e typed;
    }

pub ensures_are_staged : EnsuresAreStaged
ensures_are_staged core valid k p at_k skip t functions scope entry waiting s scoped value fits outcome n =
    let env : Env = env_of core (take k core.procs) p in
    let known = contracts_know env false scope entry s (scoped_is_known env scope entry waiting s scoped) in
    record {
      entry = entry;
      fits = λ e v typed gives. given_values_fit (contract_env env false) valid scope entry s known value (results_are_known env entry s.areas value fits) e typed v gives;
      stored = λ e constant region held typed is. cells_are_plain core valid k p at_k scope p.result (result_made core.structs p p.result (valid.procs k p at_k).result) e constant region held typed is;
      indexed = λ e typed. indices_have_lengths core valid k p at_k scope p.result (result_made core.structs p p.result (valid.procs k p at_k).result) e typed;
    }

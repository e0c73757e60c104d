-- What is known of scoped states, with fewer names, around contracts, and of results.
use Rattle.std.proofs.Common.{◌≡◌, true, false, Option, Some, None, refl, subst}
use Rattle.area_types.specs.Syntax.{ValueType}
use Rattle.core_tree.specs.Syntax.{ModuleCore}
use Rattle.core_meaning.specs.Values.{Value}
use Rattle.core_meaning.specs.Areas.{Areas}
use Rattle.region_soundness.specs.Fitting.{Entry, ValueFits}
use Rattle.value_fitting.specs.Known.{OutcomeFits, ResultFits}
use Rattle.value_fitting.specs.Laws.{ScopedIsKnown, FewerAreKnown, ContractsKnow, ResultsAreKnown, NoResultIsKnown}

pub scoped_is_known : ScopedIsKnown
scoped_is_known env scope entry waiting s h = record { areas = h.areas; globals = h.globals; names = h.frame.names }

pub fewer_are_known : FewerAreKnown
fewer_are_known env scope fewer entry s less known = record { areas = known.areas; globals = known.globals; names = λ m t c e. known.names m t (less m c) e }

pub contracts_know : ContractsKnow
contracts_know env true scope entry s known = known
contracts_know env false scope entry s known = record { areas = known.areas; globals = known.globals; names = known.names }

outcome_fits : (core : ModuleCore) (entry : Entry) (areas : Areas) (wanted : Option ValueType) (result : Option Value) → ResultFits core entry areas wanted result → (ty : ValueType) → wanted ≡ Some ty → OutcomeFits core entry areas result ty
outcome_fits core entry areas (Some t) (Some v) h ty e = let same : t ≡ ty = cc in record { value = v; has = refl; fits = subst (λ x. ValueFits core entry areas x v) same h }
outcome_fits core entry areas (Some t) None h ty e = absurd h
outcome_fits core entry areas None result h ty e = let no : ⊥ = cc in absurd no

pub results_are_known : ResultsAreKnown
results_are_known env entry areas result fits ty e = outcome_fits env.core entry areas env.result result fits ty e

pub no_result_is_known : NoResultIsKnown
no_result_is_known env entry areas none ty e = let no : ⊥ = cc in absurd no

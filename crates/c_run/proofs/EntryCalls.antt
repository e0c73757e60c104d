-- Calls of the outside, one after another, and their numbers as values.
use Rattle.std.proofs.Common.{◌≡◌, ◌≢◌, ℕ, suc, ℤ, List, [], ◌∷◌, length, Option, Ok, Err, refl, ap}
use Rattle.run_records.specs.declared.EntryCall.{EntryCall}
use Rattle.step_semantics.specs.Steps as steps
use Rattle.step_semantics.specs.Steps.{Part, Progress, Finished, Halted, Exhausted, after, bind, tick, give}
use Rattle.step_semantics.specs.Runs.{returned, entry_calls}
use Rattle.c_ast.specs.declared.CType.{CType}
use Rattle.c_ast.specs.declared.CType.TheVariants.{Void, Value, Pointer}
use Rattle.c_meaning.specs.Runs.{entry, entry_values}
use Rattle.c_meaning.specs.State.{Program, CState}
use Rattle.c_meaning.specs.Values.{Stuck, Num, on_ok}
use Rattle.c_ast.specs.declared.CKind.TheVariants.{Scalar}
use Rattle.c_run.specs.Entries.{entry_step, number_as}

abbrev done : Part CState (Unit {0})
done = give (tt {0})

then_seen : (name : List ℕ) (rest : Part CState (Unit {0})) (r : Progress CState (Option ℤ)) → after r (returned name rest) ≡ after (after r (returned name done)) (λ u. rest)
then_seen name rest (Finished a w s n) = refl
then_seen name rest (Halted how w seen) = refl
then_seen name rest (Exhausted w) = refl

pub calls_split : (p : Program) (call : EntryCall) (calls : List EntryCall) (n : ℕ) (w : steps.World) (s : CState) → entry_calls (entry p) (call ∷ calls) n w s ≡ after (entry_step p call n w s) (λ u. entry_calls (entry p) calls)
calls_split p call calls n w s = then_seen call.name (entry_calls (entry p) calls) (tick (entry p call) n w s)

pub unlike_counts : (ts : List CType) (vs : List ℤ) → length ts ≢ length vs → entry_values ts vs ≡ Err Stuck
unlike_counts [] [] h = absurd (h refl)
unlike_counts [] (v ∷ vs) h = refl
unlike_counts (t ∷ ts) [] h = refl
unlike_counts (Void ∷ ts) (v ∷ vs) h = refl
unlike_counts (Pointer constant base ∷ ts) (v ∷ vs) h = refl
unlike_counts (Value s ∷ ts) (v ∷ vs) h = ap (λ r. on_ok r (λ rest. Ok (Num (Scalar s) v ∷ rest))) (unlike_counts ts vs (λ e. h (ap suc e)))

pub one_value : (t : CType) (ts : List CType) (v : ℤ) (vs : List ℤ) → entry_values (t ∷ ts) (v ∷ vs) ≡ on_ok (number_as t v) (λ a. on_ok (entry_values ts vs) (λ rest. Ok (a ∷ rest)))
one_value (Value s) ts v vs = refl
one_value Void ts v vs = refl
one_value (Pointer constant base) ts v vs = refl

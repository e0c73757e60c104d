-- Calls of imports and whole runs keep the laws, and so do the outcomes of a run.
use Rattle.std.proofs.Common.{◌≡◌, ◌≢◌, ℕ, ◌+◌, ◌-◌, ℤ, List, [], ◌∷◌, Option, refl, sym, ◌∙◌, ap, subst, arith}
use Rattle.run_records.specs.declared.AreaCells.{AreaCells}
use Rattle.run_records.specs.declared.End.TheVariants.{Going}
use Rattle.run_records.specs.declared.EntryCall.{EntryCall}
use Rattle.run_records.specs.declared.Event.{Event}
use Rattle.run_records.specs.declared.Event.TheVariants.{Call, Ret}
use Rattle.run_records.specs.declared.Outcome.{Outcome}
use Rattle.run_records.specs.declared.Piece.{Piece}
use Rattle.run_records.specs.declared.Plain.{Plain}
use Rattle.run_records.specs.declared.Script.{Script}
use Rattle.run_records.specs.Scripts.{values_fit}
use Rattle.step_semantics.specs.Steps.{World, UnfitReply, Progress, Finished, Halted, Exhausted, Part, give, halt, tick, world_of, with_event}
use Rattle.step_semantics.specs.Imports.{checked, next_reply, replied, import_call}
use Rattle.step_semantics.specs.Runs.{Body, returned, entry_calls, outcome, start, run}
use Rattle.step_semantics.specs.Lawful.{Prefix, Stays, Lawful}
use Rattle.step_semantics.specs.Outcomes.{OutcomeLaws}
use Rattle.step_semantics.proofs.Prefixes.{prefix_refl, prefix_of_equal, prefix_trans, prefix_with_event}
use Rattle.step_semantics.proofs.Laws.{give_lawful, choice_lawful, halt_lawful, bind_lawful, tick_lawful}

-- ---- imports
checked_lawful : {S : Type 0} (see : S → List AreaCells) (shape : List Plain) (reply : List ℤ) → Lawful (checked see shape reply)
checked_lawful see shape reply = choice_lawful (give reply) (halt see UnfitReply) (give_lawful reply) (halt_lawful see UnfitReply) (values_fit shape reply)

module _ {S : Type 0} (see : S → List AreaCells) where
  next_reply_grows : (shape : List Plain) (replies : List (List ℤ)) (n : ℕ) (w : World) (s : S) → Prefix w.events (world_of (next_reply see shape replies n w s)).events
  next_reply_grows shape [] n w s = prefix_refl w.events
  next_reply_grows shape (reply ∷ later) n w s = (checked_lawful see shape reply).grows n (record w { replies = later }) s

  next_reply_stays : (shape : List Plain) (replies : List (List ℤ)) (n k : ℕ) (w : World) (s : S) → Stays n k (next_reply see shape replies n w s) (next_reply see shape replies (n + k) w s)
  next_reply_stays shape [] n k w s = refl
  next_reply_stays shape (reply ∷ later) n k w s = (checked_lawful see shape reply).stays n k (record w { replies = later }) s

  replied_lawful : (shape : List Plain) → Lawful (replied see shape)
  replied_lawful [] = give_lawful []
  replied_lawful (t ∷ ts) = record { grows = λ n w s. next_reply_grows (t ∷ ts) w.replies n w s; stays = λ n k w s. next_reply_stays (t ∷ ts) w.replies n k w s }

-- an event, and then a part
event_lawful : {S A : Type 0} (event : Event) (part : Part S A) → Lawful part → Lawful (λ n w s. part n (with_event event w) s)
event_lawful event part l = record {
  grows = λ n w s. prefix_trans w.events (with_event event w).events (world_of (part n (with_event event w) s)).events (prefix_with_event event w) (l.grows n (with_event event w) s);
  stays = λ n k w s. l.stays n k (with_event event w) s;
}

pub import_call_lawful : {S : Type 0} (see : S → List AreaCells) (name : List ℕ) (pieces : List Piece) (shape : List Plain) → Lawful (import_call see name pieces shape)
import_call_lawful see name pieces shape = event_lawful (Call name pieces) (replied see shape) (replied_lawful see shape)

-- ---- runs
pub returned_lawful : {S A : Type 0} (name : List ℕ) (next : Part S A) (result : Option ℤ) → Lawful next → Lawful (returned name next result)
returned_lawful name next result l = event_lawful (Ret name result) next l

pub entry_calls_lawful : {S : Type 0} (body : Body S) → ((call : EntryCall) → Lawful (body call)) → (calls : List EntryCall) → Lawful (entry_calls body calls)
entry_calls_lawful body l [] = give_lawful tt
entry_calls_lawful body l (call ∷ calls) =
    bind_lawful (tick (body call)) (returned call.name (entry_calls body calls)) (tick_lawful (body call) (l call)) (λ result. returned_lawful call.name (entry_calls body calls) result (entry_calls_lawful body l calls))

-- ---- outcomes
module _ {S A : Type 0} (see : S → List AreaCells) where
  pub outcome_events : (r : Progress S A) → (outcome see r).events ≡ (world_of r).events
  outcome_events (Finished a w s n) = refl
  outcome_events (Halted how w seen) = refl
  outcome_events (Exhausted w) = refl

  later_same : (n k : ℕ) (r q : Progress S A) → Stays n k r q → (outcome see r).end ≢ Going → outcome see q ≡ outcome see r
  later_same n k (Finished a w s m) q h going = ap (outcome see) h.1
  later_same n k (Halted how w seen) q h going = ap (outcome see) h
  later_same n k (Exhausted w) q h going = absurd (going refl)

  later_more : (n k : ℕ) (r q : Progress S A) → Stays n k r q → Prefix (outcome see r).events (outcome see q).events
  later_more n k (Finished a w s m) q h = prefix_of_equal w.events (outcome see q).events (ap (λ x. (outcome see x).events) h.1)
  later_more n k (Halted how w seen) q h = prefix_of_equal w.events (outcome see q).events (ap (λ x. (outcome see x).events) h)
  later_more n k (Exhausted w) q h = record { more = h.more; is = outcome_events q ∙ h.is }

  module _ (part : Part S A) (l : Lawful part) (w : World) (s : S) where
    abbrev shown : ℕ → Outcome
    shown n = outcome see (part n w s)

    pub part_outcomes : OutcomeLaws shown
    part_outcomes = record {
      events_grow = λ n m le.
          let e : n + (m - n) ≡ m = omega arith in
          subst (λ j. Prefix (shown n).events (shown j).events) e (later_more n (m - n) (part n w s) (part (n + (m - n)) w s) (l.stays n (m - n) w s));
      ends_stay = λ n m le over.
          let e : n + (m - n) ≡ m = omega arith in
          ap shown (sym e) ∙ later_same n (m - n) (part n w s) (part (n + (m - n)) w s) (l.stays n (m - n) w s) over;
    }

-- the outcomes of a run have their laws, where each procedure has those of a part
pub run_outcomes : {S : Type 0} (see : S → List AreaCells) (body : Body S) → ((call : EntryCall) → Lawful (body call)) → (first : S) (script : Script) → OutcomeLaws (run see body first script)
run_outcomes see body l first script = part_outcomes see (entry_calls body script.calls) (entry_calls_lawful body l script.calls) (start script) first

-- What the outside sees of calls, whatever comes of them: the statements of laws that hold for every state and every way to see it.
use Rattle.std.specs.Prelude.{◌≡◌, ◌≢◌, ℕ, suc, ℤ, List, [], ◌∷◌, ◌++◌, Bool, true, false, Option}
use Rattle.run_records.specs.declared.AreaCells.{AreaCells}
use Rattle.run_records.specs.declared.End.TheVariants.{Ended}
use Rattle.run_records.specs.declared.EntryCall.{EntryCall}
use Rattle.run_records.specs.declared.Event.TheVariants.{Call, Ret}
use Rattle.run_records.specs.declared.Piece.{Piece}
use Rattle.run_records.specs.declared.Plain.{Plain}
use Rattle.run_records.specs.declared.Script.{Script}
use Rattle.run_records.specs.Scripts.{values_fit}
use Rattle.step_semantics.specs.Steps.{Exhausted, Finished, Halted, MissingReply, Progress, UnfitReply, World, with_event, world_of}
use Rattle.step_semantics.specs.Imports.{import_call}
use Rattle.step_semantics.specs.Runs.{Body, entry_calls, outcome, run}

-- ---- imports

abbrev pub CallsAreSeen : Type 0 → Type 0
CallsAreSeen S =
    (see : S → List AreaCells) (name : List ℕ) (pieces : List Piece) (shape : List Plain) (n : ℕ) (w : World) (s : S)
    → (world_of (import_call see name pieces shape n w s)).events ≡ w.events ++ Call name pieces ∷ []

abbrev pub NoReplyIsWanted : Type 0 → Type 0
NoReplyIsWanted S =
    (see : S → List AreaCells) (name : List ℕ) (pieces : List Piece) (n : ℕ) (w : World) (s : S)
    → import_call see name pieces [] n w s ≡ Finished [] (with_event (Call name pieces) w) s n

-- no reply is left
abbrev pub MissingEnds : Type 0 → Type 0
MissingEnds S =
    (see : S → List AreaCells) (name : List ℕ) (pieces : List Piece) (shape : List Plain) (n : ℕ) (w : World) (s : S)
    → shape ≢ [] → w.replies ≡ [] → import_call see name pieces shape n w s ≡ Halted MissingReply (with_event (Call name pieces) w) (see s)

-- the next reply, which fits the shape or does not
abbrev pub UnfitEnds : Type 0 → Type 0
UnfitEnds S =
    (see : S → List AreaCells) (name : List ℕ) (pieces : List Piece) (shape : List Plain) (n : ℕ) (w : World) (s : S)
    (reply : List ℤ) (later : List (List ℤ))
    → shape ≢ [] → w.replies ≡ reply ∷ later → values_fit shape reply ≡ false
    → import_call see name pieces shape n w s ≡ Halted UnfitReply (record (with_event (Call name pieces) w) { replies = later }) (see s)

abbrev pub FittingIsGiven : Type 0 → Type 0
FittingIsGiven S =
    (see : S → List AreaCells) (name : List ℕ) (pieces : List Piece) (shape : List Plain) (n : ℕ) (w : World) (s : S)
    (reply : List ℤ) (later : List (List ℤ))
    → shape ≢ [] → w.replies ≡ reply ∷ later → values_fit shape reply ≡ true
    → import_call see name pieces shape n w s ≡ Finished reply (record (with_event (Call name pieces) w) { replies = later }) s n

-- ---- entry calls

abbrev pub CallsWaitForAStep : Type 0 → Type 0
CallsWaitForAStep S = (body : Body S) (call : EntryCall) (calls : List EntryCall) (w : World) (s : S) → entry_calls body (call ∷ calls) 0 w s ≡ Exhausted w

abbrev pub CallsGoOn : Type 0 → Type 0
CallsGoOn S =
    (body : Body S) (call : EntryCall) (calls : List EntryCall) (n m : ℕ) (w v : World) (s u : S) (result : Option ℤ)
    → body call n w s ≡ Finished result v u m → entry_calls body (call ∷ calls) (suc n) w s ≡ entry_calls body calls m (with_event (Ret call.name result) v) u

abbrev pub NoCallIsNoStep : Type 0 → Type 0
NoCallIsNoStep S =
    (see : S → List AreaCells) (body : Body S) (first : S) (script : Script) (n : ℕ)
    → script.calls ≡ [] → run see body first script n ≡ record { events = []; end = Ended; areas = see first }

-- ---- ends

-- where a part finished, with the last state
pub record FinishedSeen {S A : Type 0} (see : S → List AreaCells) (r : Progress S A) : Type 0 where
  pub value : A
  pub state : S
  pub left : ℕ
  pub is : r ≡ Finished value (world_of r) state left
  pub areas : (outcome see r).areas ≡ see state

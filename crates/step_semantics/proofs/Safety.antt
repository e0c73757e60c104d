-- Parts that never lack a meaning, and runs of them.
use Rattle.std.proofs.Common.{ℕ, List, [], ◌∷◌, Bool, true, false}
use Rattle.std.specs.Prelude.{if◌then◌else◌}
use Rattle.run_records.specs.declared.AreaCells.{AreaCells}
use Rattle.run_records.specs.declared.EntryCall.{EntryCall}
use Rattle.run_records.specs.declared.Event.TheVariants.{Ret}
use Rattle.run_records.specs.declared.Export.{Export}
use Rattle.run_records.specs.declared.Piece.{Piece}
use Rattle.run_records.specs.declared.Plain.{Plain}
use Rattle.run_records.specs.declared.Script.{Script}
use Rattle.run_records.specs.Scripts.{Fits}
use Rattle.step_semantics.specs.Steps.{World, Halt, NoMeaning, Part, give, halt, bind, tick, ticks, by_state, change, block, with_event}
use Rattle.step_semantics.specs.Control.{Control, also, forever}
use Rattle.step_semantics.specs.Imports.{import_call}
use Rattle.step_semantics.specs.Runs.{Body, returned, entry_calls, start, run}
use Rattle.step_semantics.specs.Bodies.{CallFits}
use Rattle.step_semantics.specs.Safe.{HasMeaning, Safe, AlwaysSafe, NeverUndefined}
use Rattle.step_semantics.proofs.Keeping.{Given, keeps_weaker, keeps_after, keeps_tick, keeps_ticks, keeps_left, keeps_also, keeps_forever, keeps_import_call, keeps_outcome, keeps_run}

-- where each entry call keeps an invariant and has a meaning, so has the run of each script that fits
pub run_never_undefined : {S : Type 0} (inv : S → Type 0) (exports : List Export) (body : Body S) → ((call : EntryCall) → CallFits call exports → (n : ℕ) (w : World) (s : S) → inv s → Safe (λ a u. inv u) (body call n w s)) → (see : S → List AreaCells) (first : S) → inv first → (script : Script) → Fits script exports → NeverUndefined (run see body first script)
run_never_undefined inv exports body h see first i script fits n reason e = keeps_run HasMeaning inv exports body h see first i script fits n (NoMeaning reason) e

-- ---- parts that have a meaning from every state

pub give_safe : {S A : Type 0} (a : A) → AlwaysSafe {S = S} (give a)
give_safe a = record { safe = λ n w s. tt }

pub halt_safe : {S A : Type 0} (see : S → List AreaCells) (how : Halt) → HasMeaning how → AlwaysSafe {S = S} {A = A} (halt see how)
halt_safe see how h = record { safe = λ n w s. h }

pub change_safe : {S A : Type 0} (a : A) (to : S → S) → AlwaysSafe (change a to)
change_safe a to = record { safe = λ n w s. tt }

pub by_state_safe : {S A : Type 0} (part : S → Part S A) → ((s : S) → AlwaysSafe (part s)) → AlwaysSafe (by_state part)
by_state_safe part h = record { safe = λ n w s. (h s).safe n w s }

pub bind_safe : {S A B : Type 0} (part : Part S A) (next : A → Part S B) → AlwaysSafe part → ((a : A) → AlwaysSafe (next a)) → AlwaysSafe (bind part next)
bind_safe part next h f = record { safe = λ n w s. keeps_after HasMeaning (λ a u. Unit {0}) (λ a u. Unit {0}) (part n w s) next (h.safe n w s) (λ a u t m v. (f a).safe m v u) }

pub tick_safe : {S A : Type 0} (part : Part S A) → AlwaysSafe part → AlwaysSafe (tick part)
tick_safe part h = record { safe = λ n w s. keeps_tick HasMeaning (λ a u. Unit {0}) part n w s (λ m. h.safe m w s) }

pub ticks_safe : {S A : Type 0} (k : ℕ) (part : Part S A) → AlwaysSafe part → AlwaysSafe (ticks k part)
ticks_safe k part h = record { safe = λ n w s. keeps_ticks HasMeaning (λ a u. Unit {0}) k part n w s (λ m. h.safe m w s) }

pub block_safe : {S A : Type 0} (leave : S → S → S) (part : Part S A) → AlwaysSafe part → AlwaysSafe (block leave part)
block_safe leave part h = record { safe = λ n w s. keeps_left HasMeaning (λ a u. Unit {0}) (λ a u. Unit {0}) leave s (part n w s) (λ a u t. tt) (h.safe n w s) }

pub choice_safe : {S A : Type 0} (c d : Part S A) → AlwaysSafe c → AlwaysSafe d → (b : Bool) → AlwaysSafe (if b then c else d)
choice_safe c d h f true = h
choice_safe c d h f false = f

pub also_safe : {S V : Type 0} (first rest : Part S (Control V)) → AlwaysSafe first → AlwaysSafe rest → AlwaysSafe (also first rest)
also_safe first rest h f = record { safe = λ n w s. keeps_also HasMeaning (λ a u. Unit {0}) (λ a u. Unit {0}) first rest n w s (h.safe n w s) (λ u t m v. f.safe m v u) (λ u t. tt) (λ v u t. tt) }

pub forever_safe : {S V : Type 0} (body : Part S (Control V)) → AlwaysSafe body → AlwaysSafe (forever body)
forever_safe body h = record { safe = λ n w s. keeps_forever HasMeaning (λ a u. Unit {0}) (λ a u. Unit {0}) (λ u t. tt) (λ v u t. tt) body (λ u t m v. h.safe m v u) n w s tt }

pub import_call_safe : {S : Type 0} (see : S → List AreaCells) (name : List ℕ) (pieces : List Piece) (shape : List Plain) → AlwaysSafe (import_call see name pieces shape)
import_call_safe see name pieces shape = record { safe = λ n w s. keeps_weaker HasMeaning (Given s shape) (λ a u. Unit {0}) (import_call see name pieces shape n w s) (λ a u h. tt) (keeps_import_call HasMeaning see tt tt s name pieces shape n w) }

entry_calls_safe : {S : Type 0} (body : Body S) → ((call : EntryCall) → AlwaysSafe (body call)) → (calls : List EntryCall) → AlwaysSafe (entry_calls body calls)
entry_calls_safe body h [] = give_safe tt
entry_calls_safe body h (call ∷ calls) =
    bind_safe (tick (body call)) (returned call.name (entry_calls body calls)) (tick_safe (body call) (h call)) (λ a. record { safe = λ n w s. (entry_calls_safe body h calls).safe n (with_event (Ret call.name a) w) s })

pub run_always_safe : {S : Type 0} (see : S → List AreaCells) (body : Body S) → ((call : EntryCall) → AlwaysSafe (body call)) → (first : S) (script : Script) → NeverUndefined (run see body first script)
run_always_safe see body h first script n reason e = keeps_outcome HasMeaning see (λ a u. Unit {0}) (entry_calls body script.calls n (start script) first) ((entry_calls_safe body h script.calls).safe n (start script) first) (NoMeaning reason) e

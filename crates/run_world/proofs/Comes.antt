-- How what code comes to is put together: a part and the next, a block, steps, the call of an import, and the whole run.
use Rattle.std.proofs.Common.{ℕ, zero, suc, ◌+◌, ◌<◌, ◌≡◌, ℤ, Bool, true, false, List, [], ◌∷◌, Some, None, Result, Ok, Err, if◌then◌else◌, refl, sym, ◌∙◌, ap, subst, arith}
use Rattle.run_records.specs.declared.AreaCells.{AreaCells}
use Rattle.run_records.specs.declared.End.{End}
use Rattle.run_records.specs.declared.End.TheVariants.{Ended, Going}
use Rattle.run_records.specs.declared.Outcome.{Outcome}
use Rattle.run_records.specs.declared.Piece.{Piece}
use Rattle.run_records.specs.declared.Plain.{Plain}
use Rattle.run_records.specs.Scripts.{values_fit}
use Rattle.step_semantics.specs.Steps as steps
use Rattle.step_semantics.specs.Steps.{Progress, Part, Finished, Halted, Exhausted, give, after, left, tick, ticks}
use Rattle.step_semantics.specs.Imports.{checked, next_reply, replied, import_call}
use Rattle.step_semantics.specs.Runs.{outcome, end_of}
use Rattle.step_semantics.proofs.Equations.{ticks_paid, ticks_short}
use Rattle.run_world.specs.declared.stopped.Halt.{Halt}
use Rattle.run_world.specs.declared.stopped.Halt.TheVariants.{FailedCheck, MissingReply, UnfitReply, NoMeaning}
use Rattle.run_world.specs.declared.stopped.Stopped.{Stopped}
use Rattle.run_world.specs.declared.stopped.Stopped.TheVariants as stopped
use Rattle.run_world.specs.declared.world.World.{World}
use Rattle.run_world.specs.Comes.{world_of, halt_of, Comes, Ticked, TicksTaken, unseen, itself, end_after, shows_areas}

-- ---- a part and the next

pub goes_on : {S A B C : Type 0} (see : S → List AreaCells) (view : C → B) (part : Progress S A) (next : A → Part S B) {a : A} {w : steps.World} {s : S} {n : ℕ} (r : Result C Stopped) (v : World) (t : S) → part ≡ Finished a w s n → Comes see view (next a n w s) r v t → Comes see view (after part next) r v t
goes_on see view part next r v t e h = subst (λ p. Comes see view (after p next) r v t) (sym e) h

pub stops : {S A B C D : Type 0} (see : S → List AreaCells) (view : D → A) (view' : C → B) (part : Progress S A) (next : A → Part S B) (why : Stopped) (w : World) (s : S) → Comes see view part (Err why) w s → Comes see view' (after part next) (Err why) w s
stops see view view' part next (stopped.Halted how) w s h = ap (λ p. after p next) h
stops see view view' part next stopped.Exhausted w s h = ap (λ p. after p next) h
stops see view view' part next stopped.Memory w s h = tt

-- ---- blocks and frames

pub leaves : {S A B : Type 0} (see : S → List AreaCells) (view : B → A) (leave : S → S → S) (before : S) (part : Progress S A) (b : B) (w : World) (s : S) → Comes see view part (Ok b) w s → Comes see view (left leave before part) (Ok b) w (leave before s)
leaves see view leave before part b w s h = ap (left leave before) h

pub stops_within : {S A B C : Type 0} (see : S → List AreaCells) (view : B → A) (view' : C → A) (leave : S → S → S) (before : S) (part : Progress S A) (why : Stopped) (w : World) (s : S) → Comes see view part (Err why) w s → Comes see view' (left leave before part) (Err why) w s
stops_within see view view' leave before part (stopped.Halted how) w s h = ap (left leave before) h
stops_within see view view' leave before part stopped.Exhausted w s h = ap (left leave before) h
stops_within see view view' leave before part stopped.Memory w s h = tt

-- a refusal is of no type
pub refused_alike : {S A B C : Type 0} (see : S → List AreaCells) (view : B → A) (view' : C → A) (part : Progress S A) (why : Stopped) (w : World) (s : S) → Comes see view part (Err why) w s → Comes see view' part (Err why) w s
refused_alike see view view' part (stopped.Halted how) w s h = h
refused_alike see view view' part stopped.Exhausted w s h = h
refused_alike see view view' part stopped.Memory w s h = tt

-- ---- steps

pub ticked : {S A B C : Type 0} (see : S → List AreaCells) (view : B → A) (part : Part S A) (c : C) (old new : World) (s : S) (r : Result B Stopped) (v : World) (t : S) → Ticked (Ok c) old new → Comes see view (part new.steps (world_of new) s) r v t → Comes see view (tick part old.steps (world_of old) s) r v t
ticked see view part c old new s r v t e h = subst (λ (w : World). Comes see view (tick part w.steps (world_of w) s) r v t) (sym e) h

pub not_ticked : {S A B : Type 0} (C : Type 0) (see : S → List AreaCells) (view : B → A) (part : Part S A) (why : Stopped) (old new : World) (s : S) → Ticked {A = C} (Err why) old new → Comes see view (tick part old.steps (world_of old) s) (Err why) new s
not_ticked C see view part (stopped.Halted how) old new s h = absurd h
not_ticked C see view part stopped.Exhausted old new s h = ap (λ n. tick part n (world_of old) s) h.1 ∙ ap (λ w. Exhausted (world_of w)) (sym h.0)
not_ticked C see view part stopped.Memory old new s h = absurd h

pub ticks_taken : {S A B C : Type 0} (see : S → List AreaCells) (view : B → A) (part : Part S A) (count : ℕ) (c : C) (old new : World) (s : S) (r : Result B Stopped) (v : World) (t : S) → TicksTaken count (Ok c) old new → Comes see view (part new.steps (world_of new) s) r v t → Comes see view (ticks count part old.steps (world_of old) s) r v t
ticks_taken see view part count c old new s r v t e h = subst (λ (w : World). Comes see view (ticks count part w.steps (world_of w) s) r v t) (sym e) (subst (λ p. Comes see view p r v t) (sym (ticks_paid count part new.steps (world_of new) s)) h)

pub ticks_missing : {S A B : Type 0} (C : Type 0) (see : S → List AreaCells) (view : B → A) (part : Part S A) (count : ℕ) (why : Stopped) (old new : World) (s : S) → TicksTaken {A = C} count (Err why) old new → Comes see view (ticks count part old.steps (world_of old) s) (Err why) new s
ticks_missing C see view part count (stopped.Halted how) old new s h = absurd h
ticks_missing C see view part count stopped.Exhausted old new s h = ticks_short count part old.steps (world_of old) s h.1 ∙ ap (λ w. Exhausted (world_of w)) (sym h.0)
ticks_missing C see view part count stopped.Memory old new s h = absurd h

-- ---- imports

-- the same progress, in another state
abbrev pub placed : {S A : Type 0} → (S → List AreaCells) → S → Progress (Unit {0}) A → Progress S A
placed see s (Finished a w u n) = Finished a w s n
placed see s (Halted how w seen) = Halted how w (see s)
placed see s (Exhausted w) = Exhausted w

pub checked_placed : {S : Type 0} (see : S → List AreaCells) (s : S) (shape : List Plain) (reply : List ℤ) (n : ℕ) (w : steps.World) → checked see shape reply n w s ≡ placed see s (checked unseen shape reply n w tt)
checked_placed see s shape reply n w =
    elim (values_fit shape reply) as (λ b. (if b then give reply else steps.halt see steps.UnfitReply) n w s ≡ placed see s ((if b then give reply else steps.halt unseen steps.UnfitReply) n w tt)) [ true ↦ refl | false ↦ refl ]

pub next_placed : {S : Type 0} (see : S → List AreaCells) (s : S) (shape : List Plain) (replies : List (List ℤ)) (n : ℕ) (w : steps.World) → next_reply see shape replies n w s ≡ placed see s (next_reply unseen shape replies n w tt)
next_placed see s shape [] n w = refl
next_placed see s shape (reply ∷ later) n w = checked_placed see s shape reply n (record w { replies = later })

pub replied_placed : {S : Type 0} (see : S → List AreaCells) (s : S) (shape : List Plain) (n : ℕ) (w : steps.World) → replied see shape n w s ≡ placed see s (replied unseen shape n w tt)
replied_placed see s [] n w = refl
replied_placed see s (t ∷ ts) n w = next_placed see s (t ∷ ts) w.replies n w

pub comes_placed : {S A B : Type 0} (see : S → List AreaCells) (view : B → A) (s : S) (part : Progress S A) (apart : Progress (Unit {0}) A) (r : Result B Stopped) (v : World) → part ≡ placed see s apart → Comes unseen view apart r v tt → Comes see view part r v s
comes_placed see view s part apart (Ok b) v e h = e ∙ ap (placed see s) h
comes_placed see view s part apart (Err (stopped.Halted how)) v e h = e ∙ ap (placed see s) h
comes_placed see view s part apart (Err stopped.Exhausted) v e h = e ∙ ap (placed see s) h
comes_placed see view s part apart (Err stopped.Memory) v e h = tt

-- what a call of an import comes to, whatever the state
pub import_comes : {S : Type 0} (see : S → List AreaCells) (s : S) (name : List ℕ) (pieces : List Piece) (shape : List Plain) (old : World) (r : Result (List ℤ) Stopped) (new : World) → Comes unseen itself (import_call unseen name pieces shape old.steps (world_of old) tt) r new tt → Comes see itself (import_call see name pieces shape old.steps (world_of old) s) r new s
import_comes see s name pieces shape old r new h = comes_placed see itself s _ _ r new (replied_placed see s shape old.steps _) h

-- ---- whole runs

-- what is seen of a run that came to such an end
abbrev pub shown : {S : Type 0} → (S → List AreaCells) → World → S → End → Outcome
shown see w s end = record { events = w.events; end = end; areas = if shows_areas end then see s else [] }

pub outcome_halted : {S A : Type 0} (see : S → List AreaCells) (part : Progress S A) (how : Halt) (w : World) (s : S) → part ≡ Halted (halt_of how) (world_of w) (see s) → outcome see part ≡ shown see w s (end_of (halt_of how))
outcome_halted see part (FailedCheck site) w s h = ap (outcome see) h
outcome_halted see part MissingReply w s h = ap (outcome see) h
outcome_halted see part UnfitReply w s h = ap (outcome see) h
outcome_halted see part (NoMeaning reason) w s h = ap (outcome see) h

-- what the outside sees of a run whose calls came out so
pub outcome_comes : {S A B : Type 0} (see : S → List AreaCells) (view : B → A) (part : Progress S A) (r : Result B Stopped) (w : World) (s : S) (e : End) → end_after r ≡ Some e → Comes see view part r w s → outcome see part ≡ shown see w s e
outcome_comes see view part (Ok b) w s e is h = let k : Ended ≡ e = cc is in subst (λ x. outcome see part ≡ shown see w s x) k (ap (outcome see) h)
outcome_comes see view part (Err (stopped.Halted how)) w s e is h = let k : end_of (halt_of how) ≡ e = cc is in subst (λ x. outcome see part ≡ shown see w s x) k (outcome_halted see part how w s h)
outcome_comes see view part (Err stopped.Exhausted) w s e is h = let k : Going ≡ e = cc is in subst (λ x. outcome see part ≡ shown see w s x) k (ap (outcome see) h)
outcome_comes see view part (Err stopped.Memory) w s e is h = let no : ⊥ = cc is in absurd no

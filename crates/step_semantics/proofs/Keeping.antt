-- Parts that halt only as is allowed: one lemma for each way to make a part.
use Rattle.std.proofs.Common.{◌≡◌, ℕ, zero, suc, ℤ, List, [], ◌∷◌, Bool, true, false, refl, sym, subst}
use Rattle.std.specs.Prelude.{IsTrue, if◌then◌else◌}
use Rattle.run_records.specs.declared.AreaCells.{AreaCells}
use Rattle.run_records.specs.declared.EntryCall.{EntryCall}
use Rattle.run_records.specs.declared.Event.TheVariants.{Call, Ret}
use Rattle.run_records.specs.declared.Export.{Export}
use Rattle.run_records.specs.declared.Piece.{Piece}
use Rattle.run_records.specs.declared.Plain.{Plain}
use Rattle.run_records.specs.declared.Script.{Script}
use Rattle.run_records.specs.Scripts.{values_fit, calls_fit, Fits}
use Rattle.step_semantics.specs.Steps.{World, Halt, MissingReply, UnfitReply, Progress, Finished, Halted, Exhausted, Part, give, halt, after, tick, ticks, left, with_event}
use Rattle.step_semantics.specs.Control.{Control, Falls, Broke, Returned, onward, also, again, turns, forever}
use Rattle.step_semantics.specs.Imports.{next_reply, replied, import_call}
use Rattle.step_semantics.specs.Runs.{Body, end_of, returned, entry_calls, outcome, start, run}
use Rattle.step_semantics.specs.Bodies.{CallFits}
use Rattle.step_semantics.specs.Safe.{Keeps}
use Rattle.step_semantics.proofs.RunFollows.{calls_fit_parts}
use Rattle.step_semantics.proofs.Ends.{end_of_once, halt_is_no_end, halt_is_over}

-- the values fit the shape, and the state is as it was
pub record Given {S : Type 0} (s : S) (shape : List Plain) (values : List ℤ) (u : S) : Type 0 where
  pub fits : IsTrue (values_fit shape values)
  pub same : u ≡ s

module _ (allowed : Halt → Type 0) where
  -- ---- with a postcondition

  pub keeps_weaker : {S A : Type 0} (post post' : A → S → Type 0) (r : Progress S A) → ((a : A) (s : S) → post a s → post' a s) → Keeps allowed post r → Keeps allowed post' r
  keeps_weaker post post' (Finished a w s n) f h = f a s h
  keeps_weaker post post' (Halted how w seen) f h = h
  keeps_weaker post post' (Exhausted w) f h = tt

  pub keeps_after : {S A B : Type 0} (post : A → S → Type 0) (post' : B → S → Type 0) (r : Progress S A) (next : A → Part S B) → Keeps allowed post r → ((a : A) (s : S) → post a s → (n : ℕ) (w : World) → Keeps allowed post' (next a n w s)) → Keeps allowed post' (after r next)
  keeps_after post post' (Finished a w s n) next h f = f a s h n w
  keeps_after post post' (Halted how w seen) next h f = h
  keeps_after post post' (Exhausted w) next h f = tt

  pub keeps_tick : {S A : Type 0} (post : A → S → Type 0) (part : Part S A) (n : ℕ) (w : World) (s : S) → ((m : ℕ) → Keeps allowed post (part m w s)) → Keeps allowed post (tick part n w s)
  keeps_tick post part zero w s h = tt
  keeps_tick post part (suc n) w s h = h n

  pub keeps_ticks : {S A : Type 0} (post : A → S → Type 0) (k : ℕ) (part : Part S A) (n : ℕ) (w : World) (s : S) → ((m : ℕ) → Keeps allowed post (part m w s)) → Keeps allowed post (ticks k part n w s)
  keeps_ticks post zero part n w s h = h n
  keeps_ticks post (suc k) part n w s h = keeps_tick post (ticks k part) n w s (λ m. keeps_ticks post k part m w s h)

  pub keeps_left : {S A : Type 0} (post post' : A → S → Type 0) (leave : S → S → S) (s : S) (r : Progress S A) → ((a : A) (u : S) → post a u → post' a (leave s u)) → Keeps allowed post r → Keeps allowed post' (left leave s r)
  keeps_left post post' leave s (Finished a w u n) f h = f a u h
  keeps_left post post' leave s (Halted how w seen) f h = h
  keeps_left post post' leave s (Exhausted w) f h = tt

  -- ---- control

  pub keeps_onward : {S V : Type 0} (mid post : Control V → S → Type 0) (next : Part S (Control V)) → ((s : S) → mid Falls s → (n : ℕ) (w : World) → Keeps allowed post (next n w s)) → ((s : S) → mid Broke s → post Broke s) → ((v : V) (s : S) → mid (Returned v) s → post (Returned v) s) → (a : Control V) (s : S) → mid a s → (n : ℕ) (w : World) → Keeps allowed post (onward next a n w s)
  keeps_onward mid post next h broke back Falls s p n w = h s p n w
  keeps_onward mid post next h broke back Broke s p n w = broke s p
  keeps_onward mid post next h broke back (Returned v) s p n w = back v s p

  pub keeps_also : {S V : Type 0} (mid post : Control V → S → Type 0) (first rest : Part S (Control V)) (n : ℕ) (w : World) (s : S) → Keeps allowed mid (first n w s) → ((s : S) → mid Falls s → (n : ℕ) (w : World) → Keeps allowed post (rest n w s)) → ((s : S) → mid Broke s → post Broke s) → ((v : V) (s : S) → mid (Returned v) s → post (Returned v) s) → Keeps allowed post (also first rest n w s)
  keeps_also mid post first rest n w s h next broke back = keeps_after mid post (first n w s) (onward rest) h (keeps_onward mid post rest next broke back)

  -- a loop keeps what its turns keep
  module _ {S V : Type 0} (mid post : Control V → S → Type 0) (broke : (s : S) → mid Broke s → post Falls s) (back : (v : V) (s : S) → mid (Returned v) s → post (Returned v) s) where
    pub keeps_again : (loop : Part S (Control V)) → ((s : S) → mid Falls s → (n : ℕ) (w : World) → Keeps allowed post (loop n w s)) → (a : Control V) (s : S) → mid a s → (n : ℕ) (w : World) → Keeps allowed post (again loop a n w s)
    keeps_again loop h Falls s p n w = h s p n w
    keeps_again loop h Broke s p n w = broke s p
    keeps_again loop h (Returned v) s p n w = back v s p

    module _ (body : Part S (Control V)) (h : (s : S) → mid Falls s → (n : ℕ) (w : World) → Keeps allowed mid (body n w s)) where
      keeps_turns : (most n : ℕ) (w : World) (s : S) → mid Falls s → Keeps allowed post (turns most body n w s)
      keeps_turns zero n w s p = tt
      keeps_turns (suc most) n w s p = keeps_after mid post (tick body n w s) (again (turns most body)) (keeps_tick mid body n w s (λ m. h s p m w)) (keeps_again (turns most body) (λ u q m v. keeps_turns most m v u q))

      pub keeps_forever : (n : ℕ) (w : World) (s : S) → mid Falls s → Keeps allowed post (forever body n w s)
      keeps_forever n w s p = keeps_turns n n w s p

  -- ---- imports

  pub keeps_choice : {S A : Type 0} (post : A → S → Type 0) (b : Bool) (c d : Part S A) (n : ℕ) (w : World) (s : S) → (b ≡ true → Keeps allowed post (c n w s)) → Keeps allowed post (d n w s) → Keeps allowed post ((if b then c else d) n w s)
  keeps_choice post true c d n w s h g = h refl
  keeps_choice post false c d n w s h g = g

  module _ {S : Type 0} (see : S → List AreaCells) (missing : allowed MissingReply) (unfit : allowed UnfitReply) (s : S) where
    keeps_next_reply : (shape : List Plain) (replies : List (List ℤ)) (n : ℕ) (w : World) → Keeps allowed (Given s shape) (next_reply see shape replies n w s)
    keeps_next_reply shape [] n w = missing
    keeps_next_reply shape (reply ∷ later) n w =
        keeps_choice (Given s shape) (values_fit shape reply) (give reply) (halt see UnfitReply) n (record w { replies = later }) s (λ e. record { fits = e; same = refl }) unfit

    keeps_replied : (shape : List Plain) (n : ℕ) (w : World) → Keeps allowed (Given s shape) (replied see shape n w s)
    keeps_replied [] n w = record { fits = refl; same = refl }
    keeps_replied (t ∷ ts) n w = keeps_next_reply (t ∷ ts) w.replies n w

    pub keeps_import_call : (name : List ℕ) (pieces : List Piece) (shape : List Plain) (n : ℕ) (w : World) → Keeps allowed (Given s shape) (import_call see name pieces shape n w s)
    keeps_import_call name pieces shape n w = keeps_replied shape n (with_event (Call name pieces) w)

  -- ---- outcomes

  pub keeps_outcome : {S A : Type 0} (see : S → List AreaCells) (post : A → S → Type 0) (r : Progress S A) → Keeps allowed post r → (how : Halt) → (outcome see r).end ≡ end_of how → allowed how
  keeps_outcome see post (Finished a w s n) h how e = absurd (halt_is_no_end how (sym e))
  keeps_outcome see post (Halted what w seen) h how e = subst allowed (end_of_once what how e) h
  keeps_outcome see post (Exhausted w) h how e = absurd (halt_is_over how (sym e))

  -- ---- runs

  module _ {S : Type 0} (inv : S → Type 0) (exports : List Export) (body : Body S) (h : (call : EntryCall) → CallFits call exports → (n : ℕ) (w : World) (s : S) → inv s → Keeps allowed (λ a u. inv u) (body call n w s)) where
    pub keeps_entry_calls : (calls : List EntryCall) → IsTrue (calls_fit calls exports) → (n : ℕ) (w : World) (s : S) → inv s → Keeps allowed (λ a u. inv u) (entry_calls body calls n w s)
    keeps_entry_calls [] fits n w s i = i
    keeps_entry_calls (call ∷ calls) fits n w s i =
        let p = calls_fit_parts call calls exports fits in
        keeps_after (λ a u. inv u) (λ a u. inv u) (tick (body call) n w s) (returned call.name (entry_calls body calls)) (keeps_tick (λ a u. inv u) (body call) n w s (λ m. h call p.0 m w s i))
        (λ a u j m v. keeps_entry_calls calls p.1 m (with_event (Ret call.name a) v) u j)

    -- where each entry call keeps an invariant and halts only so, the run of each script that fits does
    pub keeps_run : (see : S → List AreaCells) (first : S) → inv first → (script : Script) → Fits script exports → (n : ℕ) (how : Halt) → (run see body first script n).end ≡ end_of how → allowed how
    keeps_run see first i script fits n how e =
        keeps_outcome see (λ a u. inv u) (entry_calls body script.calls n (start script) first) (keeps_entry_calls script.calls fits n (start script) first i) how e

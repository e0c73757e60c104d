-- The same call of an import on both sides, with the same to see of both states.
use Rattle.std.proofs.Common.{◌≡◌, ℕ, ◌≤◌, ℤ, List, [], ◌∷◌, Bool, true, false, refl, sym, subst}
use Rattle.std.specs.Prelude.{IsTrue, if◌then◌else◌}
use Rattle.run_records.specs.declared.AreaCells.{AreaCells}
use Rattle.run_records.specs.declared.Event.TheVariants.{Call}
use Rattle.run_records.specs.declared.Piece.{Piece}
use Rattle.run_records.specs.declared.Plain.{Plain}
use Rattle.run_records.specs.Scripts.{values_fit}
use Rattle.step_semantics.specs.Steps.{World, MissingReply, UnfitReply, Part, give, halt, after, with_event}
use Rattle.step_semantics.specs.Imports.{next_reply, replied, import_call}
use Rattle.step_semantics.specs.Follows.{Follows}
use Rattle.step_semantics.proofs.Following.{rests, halts, bound}

-- both have the same values, which fit the shape, and the states are as they were
pub record Answered {S T : Type 0} (shape : List Plain) (s : S) (t : T) (values : List ℤ) (u : S) (values' : List ℤ) (v : T) : Type 0 where
  pub same : values' ≡ values
  pub fits : IsTrue (values_fit shape values)
  pub first : u ≡ s
  pub second : v ≡ t

module _ {S T : Type 0} (excused : ℕ → Bool) (see : S → List AreaCells) (see' : T → List AreaCells) (s : S) (t : T) (alike : see s ≡ see' t) (x : ℕ) where
  checked_follows : (shape : List Plain) (reply : List ℤ) (b : Bool) → values_fit shape reply ≡ b → (n : ℕ) (w : World) → Follows excused (Answered shape s t) x x n ((if b then give reply else halt see UnfitReply) n w s) (λ j. (if b then give reply else halt see' UnfitReply) j w t)
  checked_follows shape reply true e n w = rests excused (Answered shape s t) x reply reply n w s t (record { same = refl; fits = e; first = refl; second = refl })
  checked_follows shape reply false e n w = halts excused (Answered shape s t) x x n UnfitReply w (see s) (see' t) alike

  next_reply_follows : (shape : List Plain) (replies : List (List ℤ)) (n : ℕ) (w : World) → Follows excused (Answered shape s t) x x n (next_reply see shape replies n w s) (λ j. next_reply see' shape replies j w t)
  next_reply_follows shape [] n w = halts excused (Answered shape s t) x x n MissingReply w (see s) (see' t) alike
  next_reply_follows shape (reply ∷ later) n w = checked_follows shape reply (values_fit shape reply) refl n (record w { replies = later })

  replied_follows : (shape : List Plain) (n : ℕ) (w : World) → Follows excused (Answered shape s t) x x n (replied see shape n w s) (λ j. replied see' shape j w t)
  replied_follows [] n w = rests excused (Answered [] s t) x [] [] n w s t (record { same = refl; fits = refl; first = refl; second = refl })
  replied_follows (p ∷ ps) n w = next_reply_follows (p ∷ ps) w.replies n w

  pub import_call_follows : (name : List ℕ) (pieces : List Piece) (shape : List Plain) (n : ℕ) (w : World) → Follows excused (Answered shape s t) x x n (import_call see name pieces shape n w s) (λ j. import_call see' name pieces shape j w t)
  import_call_follows name pieces shape n w = replied_follows shape n (with_event (Call name pieces) w)

  -- a call, and what is done with the reply's values
  pub import_then_follows : {C D : Type 0} (post : C → S → D → T → Type 0) (z : ℕ) (name : List ℕ) (pieces : List Piece) (shape : List Plain) (next : List ℤ → Part S C) (next' : List ℤ → Part T D) (n : ℕ) (w : World) → ((values : List ℤ) → IsTrue (values_fit shape values) → (m : ℕ) → m ≤ n → (v : World) → Follows excused post x z m (next values m v s) (λ j. next' values j v t)) → Follows excused post x z n (after (import_call see name pieces shape n w s) next) (λ j. after (import_call see' name pieces shape j w t) next')
  import_then_follows post z name pieces shape next next' n w h =
      bound excused (Answered shape s t) post x x z n (import_call see name pieces shape n w s) (λ j. import_call see' name pieces shape j w t) next next' (import_call_follows name pieces shape n w)
      (λ a u b v r m le q.
      subst (λ c. Follows excused post x z m (next a m q u) (λ j. next' c j q v)) (sym r.same)
      (subst (λ c. Follows excused post x z m (next a m q c) (λ j. next' a j q v)) (sym r.first)
      (subst (λ c. Follows excused post x z m (next a m q s) (λ j. next' a j q c)) (sym r.second) (h a r.fits m le q))))

-- A loop that counts follows where each turn does: the second's loop has no end of its own, and its last turn breaks off. A turn of
-- the second has fifteen steps more, for the test and the count.
use Rattle.std.proofs.Common.{◌≡◌, ℕ, zero, suc, ◌+◌, ◌≤◌, Bool, refl, ap, arith}
use Rattle.step_semantics.specs.Steps.{World, Progress, Part, give, after}
use Rattle.step_semantics.specs.Control.{Control, Falls, Broke, Returned, again, forever, counted}
use Rattle.step_semantics.specs.Lawful.{Lawful}
use Rattle.step_semantics.specs.Alike.{Same, Turned, LastTurned}
use Rattle.step_semantics.specs.Follows.{Follows}
use Rattle.step_semantics.proofs.ControlLaws.{forever_turn}
use Rattle.step_semantics.proofs.Leading.{leads_step}
use Rattle.step_semantics.proofs.Following.{carried, rests, bound}

module _ {S T V U : Type 0} (excused : ℕ → Bool) (rel : S → T → Type 0) (back : V → S → U → T → Type 0) where
  -- `head` relates the states before a turn, by how many turns come after it and its value
  module _ (x : ℕ) (next : ℕ → ℕ) (body : ℕ → Part S (Control V)) (turn : Part T (Control U)) (lawful : Lawful turn) (head : ℕ → ℕ → S → T → Type 0)
      (each : (more i : ℕ) (s : S) (t : T) → head (suc more) i s t → (n : ℕ) (w : World) → Follows excused (Turned rel back (head more (next i))) (x + 15) x n (body i n w s) (λ j. turn j w t))
      (last : (i : ℕ) (s : S) (t : T) → head zero i s t → (n : ℕ) (w : World) → Follows excused (LastTurned rel back) (x + 15) x n (body i n w s) (λ j. turn j w t)) where
    turned : (rest : Part S (Control V)) (i more n : ℕ) → ((s : S) (t : T) → head more i s t → (m : ℕ) → m ≤ n → (w : World) → Follows excused (Same rel back) x x m (rest m w s) (λ j. forever turn j w t))
        → (a : Control V) (s : S) (b : Control U) (t : T) → Turned rel back (head more i) a s b t → (m : ℕ) → m ≤ n → (w : World) → Follows excused (Same rel back) x x m (again rest a m w s) (λ j. again (forever turn) b j w t)
    turned rest i more n h Falls s Falls t g m le w = h s t g m le w
    turned rest i more n h Broke s Broke t g m le w = rests excused (Same rel back) x Falls Falls m w s t g
    turned rest i more n h (Returned v) s (Returned u) t g m le w = rests excused (Same rel back) x (Returned v) (Returned u) m w s t g
    turned rest i more n h Falls s Broke t g m le w = absurd g
    turned rest i more n h Falls s (Returned u) t g m le w = absurd g
    turned rest i more n h Broke s Falls t g m le w = absurd g
    turned rest i more n h Broke s (Returned u) t g m le w = absurd g
    turned rest i more n h (Returned v) s Falls t g m le w = absurd g
    turned rest i more n h (Returned v) s Broke t g m le w = absurd g

    last_turned : (a : Control V) (s : S) (b : Control U) (t : T) → LastTurned rel back a s b t → (m : ℕ) (w : World) → Follows excused (Same rel back) x x m (again (give Falls) a m w s) (λ j. again (forever turn) b j w t)
    last_turned Falls s Broke t g m w = rests excused (Same rel back) x Falls Falls m w s t g
    last_turned Broke s Broke t g m w = rests excused (Same rel back) x Falls Falls m w s t g
    last_turned (Returned v) s (Returned u) t g m w = rests excused (Same rel back) x (Returned v) (Returned u) m w s t g
    last_turned Falls s Falls t g m w = absurd g
    last_turned Falls s (Returned u) t g m w = absurd g
    last_turned Broke s Falls t g m w = absurd g
    last_turned Broke s (Returned u) t g m w = absurd g
    last_turned (Returned v) s Falls t g m w = absurd g
    last_turned (Returned v) s Broke t g m w = absurd g

    -- the step of a turn, and then the turn
    stepped : (r : ℕ → Progress S (Control V)) (n : ℕ) (w : World) (t : T) → Follows excused (Same rel back) (x + 15) x n (r n) (λ j. after (turn j w t) (again (forever turn))) → Follows excused (Same rel back) x x (suc n) (r n) (λ j. forever turn j w t)
    stepped r n w t h =
        let g : ℕ → Progress T (Control U) = λ j. after (turn j w t) (again (forever turn)) in
        carried excused (Same rel back) x (x + 15) x (suc n) n (r n) (λ j. forever turn j w t) g (leads_step x (x + 15) n (λ j. forever turn j w t) g (λ k. (suc k, omega arith, omega arith, forever_turn turn lawful k w t))) h

    pub counted_follows : (more i n : ℕ) (w : World) (s : S) (t : T) → head more i s t → Follows excused (Same rel back) x x n (counted more next i body n w s) (λ j. forever turn j w t)
    counted_follows zero i zero w s t r = record { steps = 0; many = omega arith; few = omega arith; is = refl }
    counted_follows (suc more) i zero w s t r = record { steps = 0; many = omega arith; few = omega arith; is = refl }
    counted_follows zero i (suc n) w s t r =
        stepped (λ m. after (body i m w s) (again (give Falls))) n w t
        (bound excused (LastTurned rel back) (Same rel back) (x + 15) x x n (body i n w s) (λ j. turn j w t) (again (give Falls)) (again (forever turn)) (last i s t r n w) (λ a u b v q m le p. last_turned a u b v q m p))
    counted_follows (suc more) i (suc n) w s t r =
        let rest : Part S (Control V) = counted more next (next i) body in
        stepped (λ m. after (body i m w s) (again rest)) n w t
        (bound excused (Turned rel back (head more (next i))) (Same rel back) (x + 15) x x n (body i n w s) (λ j. turn j w t) (again rest) (again (forever turn)) (each more i s t r n w)
        (turned rest (next i) more n (λ u v q m le p. counted_follows more (next i) m p u v q)))

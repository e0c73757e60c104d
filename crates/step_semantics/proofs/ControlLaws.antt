-- Rows of statements and loops keep the laws; and what a turn of a loop comes to.
use Rattle.std.proofs.Common.{◌≡◌, ℕ, zero, suc, ◌+◌, ◌≤◌, refl, sym, ap, subst, arith}
use Rattle.step_semantics.specs.Steps.{World, Progress, Finished, Halted, Exhausted, Part, after, tick, world_of}
use Rattle.step_semantics.specs.Control.{Control, Falls, Broke, Returned, onward, also, again, turns, forever}
use Rattle.step_semantics.specs.Lawful.{Prefix, Stays, Lawful}
use Rattle.step_semantics.proofs.Prefixes.{prefix_refl, prefix_trans}
use Rattle.step_semantics.proofs.Laws.{stays_more, give_lawful, bind_lawful, tick_grows}

pub onward_lawful : {S V : Type 0} (next : Part S (Control V)) → Lawful next → (a : Control V) → Lawful (onward next a)
onward_lawful next l Falls = l
onward_lawful next l Broke = give_lawful Broke
onward_lawful next l (Returned v) = give_lawful (Returned v)

pub also_lawful : {S V : Type 0} (first rest : Part S (Control V)) → Lawful first → Lawful rest → Lawful (also first rest)
also_lawful first rest h l = bind_lawful first (onward rest) h (onward_lawful rest l)

again_grows : {S V : Type 0} (loop : Part S (Control V)) → ((n : ℕ) (w : World) (s : S) → Prefix w.events (world_of (loop n w s)).events) → (w : World) (r : Progress S (Control V)) → Prefix w.events (world_of r).events → Prefix w.events (world_of (after r (again loop))).events
again_grows loop l w (Finished Falls v s n) h = prefix_trans w.events v.events (world_of (loop n v s)).events h (l n v s)
again_grows loop l w (Finished Broke v s n) h = h
again_grows loop l w (Finished (Returned x) v s n) h = h
again_grows loop l w (Halted how v seen) h = h
again_grows loop l w (Exhausted v) h = h

module _ {S V : Type 0} (body : Part S (Control V)) (l : Lawful body) where
  turns_grow : (most n : ℕ) (w : World) (s : S) → Prefix w.events (world_of (turns most body n w s)).events
  turns_grow zero n w s = prefix_refl w.events
  turns_grow (suc most) n w s = again_grows (turns most body) (turns_grow most) w (tick body n w s) (tick_grows body l n w s)

  -- what a turn leaves to do
  turn_stays : (c d : Part S (Control V)) (m n k : ℕ) → ((i : ℕ) → i ≤ m → (w : World) (s : S) → Stays i k (c i w s) (d (i + k) w s)) → ((n : ℕ) (w : World) (s : S) → Prefix w.events (world_of (d n w s)).events) → m ≤ n → (r q : Progress S (Control V)) → Stays m k r q → Stays n k (after r (again c)) (after q (again d))
  turn_stays c d m n k st gr le (Finished Falls w s i) q h =
      subst (λ x. Stays n k (c i w s) (after x (again d))) (sym h.1) (stays_more i n k (c i w s) (d (i + k) w s) (omega (arith, h.0)) (st i h.0 w s))
  turn_stays c d m n k st gr le (Finished Broke w s i) q h = (omega (arith, h.0), ap (λ x. after x (again d)) h.1)
  turn_stays c d m n k st gr le (Finished (Returned v) w s i) q h = (omega (arith, h.0), ap (λ x. after x (again d)) h.1)
  turn_stays c d m n k st gr le (Halted how w seen) q h = ap (λ x. after x (again d)) h
  turn_stays c d m n k st gr le (Exhausted w) q h = again_grows d gr w q h

  turns_stay : (f g n k : ℕ) → n ≤ f → n + k ≤ g → (w : World) (s : S) → Stays n k (turns f body n w s) (turns g body (n + k) w s)
  turns_stay zero g zero k le lt w s = turns_grow g (zero + k) w s
  turns_stay zero g (suc n) k le lt w s = absurd (omega arith)
  turns_stay (suc f) g zero k le lt w s = turns_grow g (zero + k) w s
  turns_stay (suc f) zero (suc n) k le lt w s = absurd (omega arith)
  turns_stay (suc f) (suc g) (suc n) k le lt w s =
      let e : suc (n + k) ≡ suc n + k = omega arith in
      subst (λ j. Stays (suc n) k (after (body n w s) (again (turns f body))) (after (tick body j w s) (again (turns g body)))) e
      (turn_stays (turns f body) (turns g body) n (suc n) k (λ i h v u. turns_stay f g i k (omega arith) (omega arith) v u) (turns_grow g) (omega arith) (body n w s) (body (n + k) w s) (l.stays n k w s))

  pub forever_lawful : Lawful (forever body)
  forever_lawful = record { grows = λ n w s. turns_grow n n w s; stays = λ n k w s. turns_stay n (n + k) n k (omega arith) (omega arith) w s }

  again_same : (c d : Part S (Control V)) (m k : ℕ) → ((i : ℕ) → i ≤ m → (w : World) (s : S) → c i w s ≡ d i w s) → (r q : Progress S (Control V)) → Stays m k r q → after r (again c) ≡ after r (again d)
  again_same c d m k h (Finished Falls w s i) q g = h i g.0 w s
  again_same c d m k h (Finished Broke w s i) q g = refl
  again_same c d m k h (Finished (Returned v) w s i) q g = refl
  again_same c d m k h (Halted how w seen) q g = refl
  again_same c d m k h (Exhausted w) q g = refl

  -- with turns enough, how many more makes no difference
  pub turns_same : (f g n : ℕ) → n ≤ f → n ≤ g → (w : World) (s : S) → turns f body n w s ≡ turns g body n w s
  turns_same zero zero n le lt w s = refl
  turns_same zero (suc g) zero le lt w s = refl
  turns_same zero (suc g) (suc n) le lt w s = absurd (omega arith)
  turns_same (suc f) zero zero le lt w s = refl
  turns_same (suc f) zero (suc n) le lt w s = absurd (omega arith)
  turns_same (suc f) (suc g) zero le lt w s = refl
  turns_same (suc f) (suc g) (suc n) le lt w s =
      again_same (turns f body) (turns g body) n 0 (λ i h v u. turns_same f g i (omega arith) (omega arith) v u) (body n w s) (body (n + 0) w s) (l.stays n 0 w s)

  -- a loop is one turn, and then the loop
  pub forever_turn : (n : ℕ) (w : World) (s : S) → forever body (suc n) w s ≡ after (body n w s) (again (forever body))
  forever_turn n w s =
      again_same (turns n body) (forever body) n 0 (λ i h v u. turns_same n i i h (omega arith) v u) (body n w s) (body (n + 0) w s) (l.stays n 0 w s)

-- How parts that follow others are put together: one lemma for each way to make a part.
use Rattle.std.proofs.Common.{◌≡◌, List, Bool, true, false, ℕ, zero, suc, ◌+◌, ◌-◌, ◌<◌, ◌≤◌, refl, sym, ◌∙◌, ap, subst, arith}
use Rattle.std.specs.Prelude.{if◌then◌else◌}
use Rattle.run_records.specs.declared.AreaCells.{AreaCells}
use Rattle.step_semantics.specs.Steps.{World, Halt, FailedCheck, MissingReply, UnfitReply, NoMeaning, Progress, Finished, Halted, Exhausted, Part, halt, after, tick, ticks, left}
use Rattle.step_semantics.specs.Safe.{Keeps}
use Rattle.step_semantics.specs.Follows.{Leads, Ends, Owed, EndsAs, Follows}
use Rattle.step_semantics.proofs.Leading.{leads_refl, leads_trans, leads_step, leads_equal, leads_eased, leads_on}
use Rattle.step_semantics.proofs.Equations.{ticks_paid, ticks_short}

pub owed_as : (b : Bool) (P Q : Type 0) → (P → Q) → Owed b P → Owed b Q
owed_as true P Q f h = tt
owed_as false P Q f h = f h

owed_now : (b : Bool) (P : Type 0) → P → Owed b P
owed_now true P h = tt
owed_now false P h = h

-- how the second ends is kept by what is done before or after
pub ends_as : {T B U D : Type 0} (excused : ℕ → Bool) (x y n m : ℕ) (how : Halt) (w : World) (seen : List AreaCells) (f : ℕ → Progress T B) (g : ℕ → Progress U D) → (Ends y m how w seen g → Ends x n how w seen f) → EndsAs excused y m how w seen g → EndsAs excused x n how w seen f
ends_as excused x y n m (NoMeaning reason) w seen f g h p = tt
ends_as excused x y n m (FailedCheck site) w seen f g h p = owed_as (excused site) (Ends y m (FailedCheck site) w seen g) (Ends x n (FailedCheck site) w seen f) h p
ends_as excused x y n m MissingReply w seen f g h p = h p
ends_as excused x y n m UnfitReply w seen f g h p = h p

ends_now : {T B : Type 0} (excused : ℕ → Bool) (x n : ℕ) (how : Halt) (w : World) (seen : List AreaCells) (f : ℕ → Progress T B) → Ends x n how w seen f → EndsAs excused x n how w seen f
ends_now excused x n (NoMeaning reason) w seen f h = tt
ends_now excused x n (FailedCheck site) w seen f h = owed_now (excused site) (Ends x n (FailedCheck site) w seen f) h
ends_now excused x n MissingReply w seen f h = h
ends_now excused x n UnfitReply w seen f h = h

pub fewer_or_enough : (P : Type 0) (n d : ℕ) → (n < d → P) → (d ≤ n → P) → P
fewer_or_enough P n zero few enough = enough (omega arith)
fewer_or_enough P zero (suc d) few enough = few (omega arith)
fewer_or_enough P (suc n) (suc d) few enough = fewer_or_enough P n d (λ h. few (omega (arith, h))) (λ h. enough (omega (arith, h)))

module _ {S T : Type 0} (excused : ℕ → Bool) where
  -- ---- how much each side takes

  -- a stretch of steps goes before
  pub carried : {A B : Type 0} (post : A → S → B → T → Type 0) (x y z n m : ℕ) (r : Progress S A) (f g : ℕ → Progress T B) → Leads x y n m f g → Follows excused post y z m r g → Follows excused post x z n r f
  carried post x y z n m (Finished a w s i) f g l h =
      record { value = h.value; state = h.state; holds = h.holds; leads = leads_trans x y z n m i f g (λ k. Finished h.value w h.state k) l h.leads }
  carried post x y z n m (Halted how w seen) f g l h =
      ends_as excused x y n m how w seen f g (λ p. let a = l.by p.steps in record { steps = a.0; few = omega (arith, a.2, p.few); is = a.3 ∙ p.is }) h
  carried post x y z n m (Exhausted w) f g l h =
      let a = l.by h.steps in
      record { steps = a.0; many = omega (arith, a.1, h.many); few = omega (arith, a.2, h.few); is = a.3 ∙ h.is }

  -- more credit before, and as much more, or less, after
  pub eased : {A B : Type 0} (post : A → S → B → T → Type 0) (x y x' y' n : ℕ) (r : Progress S A) (f : ℕ → Progress T B) → x ≤ x' → x + y' ≤ x' + y → Follows excused post x y n r f → Follows excused post x' y' n r f
  eased post x y x' y' n (Finished a w s m) f le lt h = record { value = h.value; state = h.state; holds = h.holds; leads = leads_eased x y x' y' n m f (λ k. Finished h.value w h.state k) lt h.leads }
  eased post x y x' y' n (Halted how w seen) f le lt h = ends_as excused x' x n n how w seen f f (λ p. record { steps = p.steps; few = omega (arith, le, p.few); is = p.is }) h
  eased post x y x' y' n (Exhausted w) f le lt h = record { steps = h.steps; many = h.many; few = omega (arith, le, h.few); is = h.is }

  -- credit that a part has no use for goes by it
  pub framed : {A B : Type 0} (post : A → S → B → T → Type 0) (d x y n : ℕ) (r : Progress S A) (f : ℕ → Progress T B) → Follows excused post x y n r f → Follows excused post (x + d) (y + d) n r f
  framed post d x y n r f h = eased post x y (x + d) (y + d) n r f (omega arith) (omega arith) h

  -- another postcondition
  pub weaker : {A B : Type 0} (post post' : A → S → B → T → Type 0) (x y n : ℕ) (r : Progress S A) (f : ℕ → Progress T B) → ((a : A) (s : S) (b : B) (t : T) → post a s b t → post' a s b t) → Follows excused post x y n r f → Follows excused post' x y n r f
  weaker post post' x y n (Finished a w s m) f g h = record { value = h.value; state = h.state; holds = g a s h.value h.state h.holds; leads = h.leads }
  weaker post post' x y n (Halted how w seen) f g h = h
  weaker post post' x y n (Exhausted w) f g h = h

  -- another way to write the second
  pub as_is : {A B : Type 0} (post : A → S → B → T → Type 0) (x y n : ℕ) (r : Progress S A) (f g : ℕ → Progress T B) → ((j : ℕ) → f j ≡ g j) → Follows excused post x y n r g → Follows excused post x y n r f
  as_is post x y n r f g e h = carried post x x y n n r f g (leads_equal x n f g e) h

  -- ---- where no step is taken

  pub rests : {A B : Type 0} (post : A → S → B → T → Type 0) (x : ℕ) (a : A) (b : B) (n : ℕ) (w : World) (s : S) (t : T) → post a s b t → Follows excused post x x n (Finished a w s n) (λ j. Finished b w t j)
  rests post x a b n w s t h = record { value = b; state = t; holds = h; leads = leads_refl x n (λ k. Finished b w t k) }

  -- both halt, and the same is seen
  pub halts : {A B : Type 0} (post : A → S → B → T → Type 0) (x y n : ℕ) (how : Halt) (w : World) (seen seen' : List AreaCells) → seen ≡ seen' → Follows {A = A} {B = B} excused post x y n (Halted how w seen) (λ j. Halted how w seen')
  halts post x y n how w seen seen' e = ends_now excused x n how w seen (λ j. Halted how w seen') (record { steps = 0; few = omega arith; is = ap (Halted how w) (sym e) })

  -- where the first has no meaning, nothing is owed
  pub undefined_owes : {A B : Type 0} (post : A → S → B → T → Type 0) (x y n : ℕ) (see : S → List AreaCells) (f : ℕ → Progress T B) (w : World) (s : S) → (reason : _) → Follows {A = A} excused post x y n (halt see (NoMeaning reason) n w s) f
  undefined_owes post x y n see f w s reason = tt

  -- ---- steps

  -- a step of the first; the second waits where there is none, and else takes at least one
  pub ticked : {A B : Type 0} (post : A → S → B → T → Type 0) (x y z : ℕ) (part : Part S A) (w : World) (s : S) (f g : ℕ → Progress T B) → f 0 ≡ Exhausted w → ((m : ℕ) → Leads x y (suc m) m f g) → ((m : ℕ) → Follows excused post y z m (part m w s) g) → (n : ℕ) → Follows excused post x z n (tick part n w s) f
  ticked post x y z part w s f g e l h zero = record { steps = 0; many = omega arith; few = omega arith; is = e }
  ticked post x y z part w s f g e l h (suc m) = carried post x y z (suc m) m (part m w s) f g (l m) (h m)

  -- one step on both sides; the fifteen more that the second may take are credit
  pub both_tick : {A B : Type 0} (post : A → S → B → T → Type 0) (x z : ℕ) (part : Part S A) (part' : Part T B) (w : World) (s : S) (t : T) → ((m : ℕ) → Follows excused post (x + 15) z m (part m w s) (λ j. part' j w t)) → (n : ℕ) → Follows excused post x z n (tick part n w s) (λ j. tick part' j w t)
  both_tick post x z part part' w s t h n =
      ticked post x (x + 15) z part w s (λ j. tick part' j w t) (λ j. part' j w t) refl (λ m. leads_step x (x + 15) m (λ j. tick part' j w t) (λ j. part' j w t) (λ k. (suc k, omega arith, omega arith, refl))) h n

  -- a step of the second alone, from its credit
  pub second_ticks : {A B : Type 0} (post : A → S → B → T → Type 0) (x z n : ℕ) (r : Progress S A) (part' : Part T B) (w : World) (t : T) → Follows excused post x z n r (λ j. part' j w t) → Follows excused post (suc x) z n r (λ j. tick part' j w t)
  second_ticks post x z n r part' w t h =
      carried post (suc x) x z n n r (λ j. tick part' j w t) (λ j. part' j w t) (record { fewer = omega arith; by = λ k. (suc k, omega arith, omega arith, refl) }) h

  -- d steps of the first; the second waits where there are fewer, and else takes at least as many
  pub ticked_often : {A B : Type 0} (post : A → S → B → T → Type 0) (d x y z : ℕ) (part : Part S A) (w : World) (s : S) (f g : ℕ → Progress T B) → ((j : ℕ) → j < d → f j ≡ Exhausted w) → ((m : ℕ) → Leads x y (d + m) m f g) → ((m : ℕ) → Follows excused post y z m (part m w s) g) → (n : ℕ) → Follows excused post x z n (ticks d part n w s) f
  ticked_often post d x y z part w s f g e l h n = fewer_or_enough (Follows excused post x z n (ticks d part n w s) f) n d
      (λ lt. subst (λ r. Follows excused post x z n r f) (sym (ticks_short d part n w s lt)) (record { steps = n; many = omega arith; few = omega arith; is = e n lt }))
      (λ le.
      let m : d + (n - d) ≡ n = omega (arith, le) in
      subst (λ i. Follows excused post x z i (ticks d part i w s) f) m
      (subst (λ r. Follows excused post x z (d + (n - d)) r f) (sym (ticks_paid d part (n - d) w s)) (carried post x y z (d + (n - d)) (n - d) (part (n - d) w s) f g (l (n - d)) (h (n - d)))))

  -- ---- a choice that both make alike

  pub chosen : {A B : Type 0} (post : A → S → B → T → Type 0) (x y n : ℕ) (w : World) (s : S) (t : T) (c d : Part S A) (c' d' : Part T B) (b : Bool) → Follows excused post x y n (c n w s) (λ j. c' j w t) → Follows excused post x y n (d n w s) (λ j. d' j w t) → Follows excused post x y n ((if b then c else d) n w s) (λ j. (if b then c' else d') j w t)
  chosen post x y n w s t c d c' d' true h g = h
  chosen post x y n w s t c d c' d' false h g = g

  -- ---- one after another

  pub bound : {A B C D : Type 0} (post : A → S → B → T → Type 0) (post' : C → S → D → T → Type 0) (x y z n : ℕ) (r : Progress S A) (f : ℕ → Progress T B) (next : A → Part S C) (next' : B → Part T D) → Follows excused post x y n r f → ((a : A) (s : S) (b : B) (t : T) → post a s b t → (m : ℕ) → m ≤ n → (w : World) → Follows excused post' y z m (next a m w s) (λ j. next' b j w t)) → Follows excused post' x z n (after r next) (λ j. after (f j) next')
  bound post post' x y z n (Finished a w s m) f next next' h go =
      carried post' x y z n m (next a m w s) (λ j. after (f j) next') (λ k. next' h.value k w h.state) (leads_on (λ q. after q next') x y n m f (λ k. Finished h.value w h.state k) h.leads) (go a s h.value h.state h.holds m h.leads.fewer w)
  bound post post' x y z n (Halted how w seen) f next next' h go =
      ends_as excused x x n n how w seen (λ j. after (f j) next') f (λ p. record { steps = p.steps; few = p.few; is = ap (λ q. after q next') p.is }) h
  bound post post' x y z n (Exhausted w) f next next' h go = record { steps = h.steps; many = h.many; few = h.few; is = ap (λ q. after q next') h.is }

  -- the second goes on alone
  pub finished : {A B D : Type 0} (post : A → S → B → T → Type 0) (post' : A → S → D → T → Type 0) (x y z n : ℕ) (r : Progress S A) (f : ℕ → Progress T B) (next' : B → Part T D) → Follows excused post x y n r f → ((a : A) (s : S) (b : B) (t : T) → post a s b t → (m : ℕ) (w : World) → Follows excused post' y z m (Finished a w s m) (λ j. next' b j w t)) → Follows excused post' x z n r (λ j. after (f j) next')
  finished post post' x y z n (Finished a w s m) f next' h go =
      carried post' x y z n m (Finished a w s m) (λ j. after (f j) next') (λ k. next' h.value k w h.state) (leads_on (λ q. after q next') x y n m f (λ k. Finished h.value w h.state k) h.leads) (go a s h.value h.state h.holds m w)
  finished post post' x y z n (Halted how w seen) f next' h go =
      ends_as excused x x n n how w seen (λ j. after (f j) next') f (λ p. record { steps = p.steps; few = p.few; is = ap (λ q. after q next') p.is }) h
  finished post post' x y z n (Exhausted w) f next' h go = record { steps = h.steps; many = h.many; few = h.few; is = ap (λ q. after q next') h.is }

  -- the first goes on alone, for no step of the second
  pub first_goes_on : {A B C : Type 0} (post : A → S → B → T → Type 0) (post' : C → S → B → T → Type 0) (x y z n : ℕ) (r : Progress S A) (f : ℕ → Progress T B) (next : A → Part S C) → Follows excused post x y n r f → ((a : A) (s : S) (b : B) (t : T) → post a s b t → (m : ℕ) → m ≤ n → (w : World) → Follows excused post' y z m (next a m w s) (λ j. Finished b w t j)) → Follows excused post' x z n (after r next) f
  first_goes_on post post' x y z n (Finished a w s m) f next h go =
      carried post' x y z n m (next a m w s) f (λ k. Finished h.value w h.state k) h.leads (go a s h.value h.state h.holds m h.leads.fewer w)
  first_goes_on post post' x y z n (Halted how w seen) f next h go = ends_as excused x x n n how w seen f f (λ p. p) h
  first_goes_on post post' x y z n (Exhausted w) f next h go = h

  -- ---- blocks

  -- the end of a block on both sides
  pub blocked : {A B : Type 0} (post post' : A → S → B → T → Type 0) (leave : S → S → S) (leave' : T → T → T) (s : S) (t : T) (x y n : ℕ) (r : Progress S A) (f : ℕ → Progress T B) → ((a : A) (u : S) (b : B) (v : T) → post a u b v → post' a (leave s u) b (leave' t v)) → Follows excused post x y n r f → Follows excused post' x y n (left leave s r) (λ j. left leave' t (f j))
  blocked post post' leave leave' s t x y n (Finished a w u m) f g h =
      record { value = h.value; state = leave' t h.state; holds = g a u h.value h.state h.holds; leads = leads_on (left leave' t) x y n m f (λ k. Finished h.value w h.state k) h.leads }
  blocked post post' leave leave' s t x y n (Halted how w seen) f g h =
      ends_as excused x x n n how w seen (λ j. left leave' t (f j)) f (λ p. record { steps = p.steps; few = p.few; is = ap (left leave' t) p.is }) h
  blocked post post' leave leave' s t x y n (Exhausted w) f g h = record { steps = h.steps; many = h.many; few = h.few; is = ap (left leave' t) h.is }

  -- the end of a block on the second side alone
  pub wrapped : {A B : Type 0} (post post' : A → S → B → T → Type 0) (leave' : T → T → T) (t : T) (x y n : ℕ) (r : Progress S A) (f : ℕ → Progress T B) → ((a : A) (u : S) (b : B) (v : T) → post a u b v → post' a u b (leave' t v)) → Follows excused post x y n r f → Follows excused post' x y n r (λ j. left leave' t (f j))
  wrapped post post' leave' t x y n (Finished a w u m) f g h =
      record { value = h.value; state = leave' t h.state; holds = g a u h.value h.state h.holds; leads = leads_on (left leave' t) x y n m f (λ k. Finished h.value w h.state k) h.leads }
  wrapped post post' leave' t x y n (Halted how w seen) f g h =
      ends_as excused x x n n how w seen (λ j. left leave' t (f j)) f (λ p. record { steps = p.steps; few = p.few; is = ap (left leave' t) p.is }) h
  wrapped post post' leave' t x y n (Exhausted w) f g h = record { steps = h.steps; many = h.many; few = h.few; is = ap (left leave' t) h.is }

  -- the end of a block on the first side alone
  pub opened : {A B : Type 0} (post post' : A → S → B → T → Type 0) (leave : S → S → S) (s : S) (x y n : ℕ) (r : Progress S A) (f : ℕ → Progress T B) → ((a : A) (u : S) (b : B) (v : T) → post a u b v → post' a (leave s u) b v) → Follows excused post x y n r f → Follows excused post' x y n (left leave s r) f
  opened post post' leave s x y n (Finished a w u m) f g h = record { value = h.value; state = h.state; holds = g a u h.value h.state h.holds; leads = h.leads }
  opened post post' leave s x y n (Halted how w seen) f g h = h
  opened post post' leave s x y n (Exhausted w) f g h = h

  -- where the first came out, it is known to have come to that
  pub bound_came : {A B C D : Type 0} (post : A → S → B → T → Type 0) (post' : C → S → D → T → Type 0) (x y z n : ℕ) (r : Progress S A) (f : ℕ → Progress T B) (next : A → Part S C) (next' : B → Part T D) → Follows excused post x y n r f → ((a : A) (s : S) (b : B) (t : T) (m : ℕ) (w : World) → r ≡ Finished a w s m → post a s b t → m ≤ n → Follows excused post' y z m (next a m w s) (λ j. next' b j w t)) → Follows excused post' x z n (after r next) (λ j. after (f j) next')
  bound_came post post' x y z n (Finished a w s m) f next next' h go =
      carried post' x y z n m (next a m w s) (λ j. after (f j) next') (λ k. next' h.value k w h.state) (leads_on (λ q. after q next') x y n m f (λ k. Finished h.value w h.state k) h.leads) (go a s h.value h.state m w refl h.holds h.leads.fewer)
  bound_came post post' x y z n (Halted how w seen) f next next' h go =
      ends_as excused x x n n how w seen (λ j. after (f j) next') f (λ p. record { steps = p.steps; few = p.few; is = ap (λ q. after q next') p.is }) h
  bound_came post post' x y z n (Exhausted w) f next next' h go = record { steps = h.steps; many = h.many; few = h.few; is = ap (λ q. after q next') h.is }

  -- what the first keeps by itself is known where both finish
  pub kept : {A B : Type 0} (allowed : Halt → Type 0) (post : A → S → B → T → Type 0) (own : A → S → Type 0) (x y n : ℕ) (r : Progress S A) (f : ℕ → Progress T B) → Keeps allowed own r → Follows excused post x y n r f → Follows excused (λ a s b t. post a s b t × own a s) x y n r f
  kept allowed post own x y n (Finished a w s m) f k h = record { value = h.value; state = h.state; holds = (h.holds, k); leads = h.leads }
  kept allowed post own x y n (Halted how w seen) f k h = h
  kept allowed post own x y n (Exhausted w) f k h = h

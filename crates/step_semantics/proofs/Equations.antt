-- How what comes after a part is regrouped: for machines that keep what is left to do on a stack of their own.
use Rattle.std.proofs.Common.{◌≡◌, ℕ, zero, suc, ◌+◌, ◌<◌, refl, ◌∙◌, ap, arith}
use Rattle.step_semantics.specs.Steps.{World, Progress, Finished, Halted, Exhausted, Part, give, after, bind, tick, ticks, left}

pub after_give : {S A : Type 0} (r : Progress S A) → after r give ≡ r
after_give (Finished a w s n) = refl
after_give (Halted how w seen) = refl
after_give (Exhausted w) = refl

pub after_after : {S A B C : Type 0} (r : Progress S A) (f : A → Part S B) (g : B → Part S C) → after (after r f) g ≡ after r (λ a. bind (f a) g)
after_after (Finished a w s n) f g = refl
after_after (Halted how w seen) f g = refl
after_after (Exhausted w) f g = refl

-- what comes after a block begins with the state after it
pub after_left : {S A B : Type 0} (leave : S → S → S) (s : S) (r : Progress S A) (next : A → Part S B) → after (left leave s r) next ≡ after r (λ a n w u. next a n w (leave s u))
after_left leave s (Finished a w u n) next = refl
after_left leave s (Halted how w seen) next = refl
after_left leave s (Exhausted w) next = refl

pub after_same : {S A B : Type 0} (r : Progress S A) (f g : A → Part S B) → ((a : A) (n : ℕ) (w : World) (s : S) → f a n w s ≡ g a n w s) → after r f ≡ after r g
after_same (Finished a w s n) f g h = h a n w s
after_same (Halted how w seen) f g h = refl
after_same (Exhausted w) f g h = refl

pub left_after : {S A B : Type 0} (leave : S → S → S) (s : S) (r : Progress S A) (next : A → Part S B) → left leave s (after r next) ≡ after r (λ a n w u. left leave s (next a n w u))
left_after leave s (Finished a w u n) next = refl
left_after leave s (Halted how w seen) next = refl
left_after leave s (Exhausted w) next = refl

-- with steps enough for all its ticks a part begins
pub ticks_paid : {S A : Type 0} (k : ℕ) (part : Part S A) (n : ℕ) (w : World) (s : S) → ticks k part (k + n) w s ≡ part n w s
ticks_paid zero part n w s = let e : zero + n ≡ n = omega arith in ap (λ j. part j w s) e
ticks_paid (suc k) part n w s = let e : suc k + n ≡ suc (k + n) = omega arith in ap (λ j. ticks (suc k) part j w s) e ∙ ticks_paid k part n w s

-- with fewer it does not
pub ticks_short : {S A : Type 0} (k : ℕ) (part : Part S A) (n : ℕ) (w : World) (s : S) → n < k → ticks k part n w s ≡ Exhausted w
ticks_short zero part n w s lt = absurd (omega (arith, lt))
ticks_short (suc k) part zero w s lt = refl
ticks_short (suc k) part (suc n) w s lt = ticks_short k part n w s (omega (arith, lt))

-- a step, and what comes after the part
pub tick_then : {S A B : Type 0} (part : Part S A) (next : A → Part S B) (n : ℕ) (w : World) (s : S) → after (tick part n w s) next ≡ tick (bind part next) n w s
tick_then part next zero w s = refl
tick_then part next (suc n) w s = refl

pub ticks_then : {S A B : Type 0} (k : ℕ) (part : Part S A) (next : A → Part S B) (n : ℕ) (w : World) (s : S) → after (ticks k part n w s) next ≡ ticks k (bind part next) n w s
ticks_then zero part next n w s = refl
ticks_then (suc k) part next zero w s = refl
ticks_then (suc k) part next (suc n) w s = ticks_then k part next n w s

pub ticks_same : {S A : Type 0} (k : ℕ) (p q : Part S A) → ((n : ℕ) (w : World) (s : S) → p n w s ≡ q n w s) → (n : ℕ) (w : World) (s : S) → ticks k p n w s ≡ ticks k q n w s
ticks_same zero p q h n w s = h n w s
ticks_same (suc k) p q h zero w s = refl
ticks_same (suc k) p q h (suc n) w s = ticks_same k p q h n w s

-- the last of so many steps, written by itself
pub ticks_last : {S A : Type 0} (k : ℕ) (p : Part S A) (n : ℕ) (w : World) (s : S) → ticks k (tick p) n w s ≡ ticks (suc k) p n w s
ticks_last zero p n w s = refl
ticks_last (suc k) p zero w s = refl
ticks_last (suc k) p (suc n) w s = ticks_last k p n w s

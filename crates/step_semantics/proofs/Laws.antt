-- Each way to make a part of parts keeps the laws.
use Rattle.std.proofs.Common.{◌≡◌, ℕ, zero, suc, ◌+◌, ◌≤◌, List, Bool, true, false, refl, sym, ap, subst, arith}
use Rattle.std.specs.Prelude.{if◌then◌else◌}
use Rattle.run_records.specs.declared.AreaCells.{AreaCells}
use Rattle.step_semantics.specs.Steps.{World, Halt, Progress, Finished, Halted, Exhausted, Part, give, halt, after, bind, tick, ticks, by_state, change, left, block, world_of}
use Rattle.step_semantics.specs.Lawful.{Prefix, Stays, Lawful}
use Rattle.step_semantics.proofs.Prefixes.{prefix_refl, prefix_trans}

pub stays_more : {S A : Type 0} (m n k : ℕ) (r q : Progress S A) → m ≤ n → Stays m k r q → Stays n k r q
stays_more m n k (Finished a w s i) q le h = (omega (arith, h.0), h.1)
stays_more m n k (Halted how w seen) q le h = h
stays_more m n k (Exhausted w) q le h = h

pub give_lawful : {S A : Type 0} (a : A) → Lawful {S = S} (give a)
give_lawful a = record { grows = λ n w s. prefix_refl w.events; stays = λ n k w s. (omega arith, refl) }

pub halt_lawful : {S A : Type 0} (see : S → List AreaCells) (how : Halt) → Lawful {S = S} {A = A} (halt see how)
halt_lawful see how = record { grows = λ n w s. prefix_refl w.events; stays = λ n k w s. refl }

pub change_lawful : {S A : Type 0} (a : A) (to : S → S) → Lawful (change a to)
change_lawful a to = record { grows = λ n w s. prefix_refl w.events; stays = λ n k w s. (omega arith, refl) }

pub by_state_lawful : {S A : Type 0} (part : S → Part S A) → ((s : S) → Lawful (part s)) → Lawful (by_state part)
by_state_lawful part l = record { grows = λ n w s. (l s).grows n w s; stays = λ n k w s. (l s).stays n k w s }

pub choice_lawful : {S A : Type 0} (c d : Part S A) → Lawful c → Lawful d → (b : Bool) → Lawful (if b then c else d)
choice_lawful c d l m true = l
choice_lawful c d l m false = m

module _ {S A B : Type 0} (next : A → Part S B) (l : (a : A) → Lawful (next a)) where
  after_grows : (w : World) (r : Progress S A) → Prefix w.events (world_of r).events → Prefix w.events (world_of (after r next)).events
  after_grows w (Finished a v s n) h = prefix_trans w.events v.events (world_of (next a n v s)).events h ((l a).grows n v s)
  after_grows w (Halted how v seen) h = h
  after_grows w (Exhausted v) h = h

  after_stays : (n k : ℕ) (r q : Progress S A) → Stays n k r q → Stays n k (after r next) (after q next)
  after_stays n k (Finished a w s m) q h =
      subst (λ x. Stays n k (next a m w s) (after x next)) (sym h.1) (stays_more m n k (next a m w s) (next a (m + k) w s) h.0 ((l a).stays m k w s))
  after_stays n k (Halted how w seen) q h = ap (λ x. after x next) h
  after_stays n k (Exhausted w) q h = after_grows w q h

pub bind_lawful : {S A B : Type 0} (part : Part S A) (next : A → Part S B) → Lawful part → ((a : A) → Lawful (next a)) → Lawful (bind part next)
bind_lawful part next h l = record {
  grows = λ n w s. after_grows next l w (part n w s) (h.grows n w s);
  stays = λ n k w s. after_stays next l n k (part n w s) (part (n + k) w s) (h.stays n k w s);
}

pub tick_grows : {S A : Type 0} (part : Part S A) → Lawful part → (n : ℕ) (w : World) (s : S) → Prefix w.events (world_of (tick part n w s)).events
tick_grows part l zero w s = prefix_refl w.events
tick_grows part l (suc n) w s = l.grows n w s

tick_stays : {S A : Type 0} (part : Part S A) → Lawful part → (n k : ℕ) (w : World) (s : S) → Stays n k (tick part n w s) (tick part (n + k) w s)
tick_stays part l zero k w s = tick_grows part l (zero + k) w s
tick_stays part l (suc n) k w s =
    let e : suc (n + k) ≡ suc n + k = omega arith in
    subst (λ j. Stays (suc n) k (part n w s) (tick part j w s)) e (stays_more n (suc n) k (part n w s) (part (n + k) w s) (omega arith) (l.stays n k w s))

pub tick_lawful : {S A : Type 0} (part : Part S A) → Lawful part → Lawful (tick part)
tick_lawful part l = record { grows = tick_grows part l; stays = tick_stays part l }

pub ticks_lawful : {S A : Type 0} (k : ℕ) (part : Part S A) → Lawful part → Lawful (ticks k part)
ticks_lawful zero part l = l
ticks_lawful (suc k) part l = tick_lawful (ticks k part) (ticks_lawful k part l)

left_world : {S A : Type 0} (leave : S → S → S) (s : S) (r : Progress S A) → world_of (left leave s r) ≡ world_of r
left_world leave s (Finished a w u n) = refl
left_world leave s (Halted how w seen) = refl
left_world leave s (Exhausted w) = refl

left_stays : {S A : Type 0} (leave : S → S → S) (s : S) (n k : ℕ) (r q : Progress S A) → Stays n k r q → Stays n k (left leave s r) (left leave s q)
left_stays leave s n k (Finished a w u m) q h = (h.0, ap (left leave s) h.1)
left_stays leave s n k (Halted how w seen) q h = ap (left leave s) h
left_stays leave s n k (Exhausted w) q h = subst (λ v. Prefix w.events v.events) (sym (left_world leave s q)) h

pub block_lawful : {S A : Type 0} (leave : S → S → S) (part : Part S A) → Lawful part → Lawful (block leave part)
block_lawful leave part l = record {
  grows = λ n w s. subst (λ v. Prefix w.events v.events) (sym (left_world leave s (part n w s))) (l.grows n w s);
  stays = λ n k w s. left_stays leave s n k (part n w s) (part (n + k) w s) (l.stays n k w s);
}

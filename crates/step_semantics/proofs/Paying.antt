-- Parts that take exactly so many steps, put together, and how steps of the second pay for steps of the first.
use Rattle.std.proofs.Common.{◌≡◌, ℕ, zero, suc, ◌+◌, ◌-◌, ◌*◌, ◌<◌, ◌≤◌, Bool, refl, sym, ◌∙◌, ap, arith}
use Rattle.step_semantics.specs.Steps.{World, Progress, Finished, Exhausted, Part, give, after, bind, tick, ticks}
use Rattle.step_semantics.specs.Takes.{Takes, Reaches}
use Rattle.step_semantics.specs.Follows.{Follows}
use Rattle.step_semantics.proofs.Following.{fewer_or_enough, ticked_often}

pub takes_give : {T B : Type 0} (b : B) (w : World) (t : T) → Takes 0 (give b) w t b t
takes_give b w t = record { waits = λ j lt. absurd (omega (arith, lt)); finishes = λ j. ap (λ n. Finished b w t n) (omega arith) }

pub takes_tick : {T B : Type 0} (c : ℕ) (part : Part T B) (w : World) (t : T) (b : B) (u : T) → Takes c part w t b u → Takes (suc c) (tick part) w t b u
takes_tick c part w t b u h = record { waits = waits; finishes = λ j. let e : suc c + j ≡ suc (c + j) = omega arith in ap (λ n. tick part n w t) e ∙ h.finishes j }
  where
    waits : (j : ℕ) → j < suc c → tick part j w t ≡ Exhausted w
    waits zero lt = refl
    waits (suc j) lt = h.waits j (omega (arith, lt))

-- one stretch, and another
pub reaches_more : {T B : Type 0} (c d : ℕ) (w : World) (f g h : ℕ → Progress T B) → Reaches c w f g → Reaches d w g h → Reaches (c + d) w f h
reaches_more c d w f g h p q = record {
  waits = λ j lt. fewer_or_enough (f j ≡ Exhausted w) j c
      (λ less. p.waits j less)
      (λ le. let i = j - c in let e : c + i ≡ j = omega (arith, le) in ap f (sym e) ∙ p.comes i ∙ q.waits i (omega (arith, lt, le)));
  comes = λ j. let e : c + d + j ≡ c + (d + j) = omega arith in ap f e ∙ p.comes (d + j) ∙ q.comes j;
}

-- a part with its steps leads to what comes after it
pub takes_reaches : {T B D : Type 0} (c : ℕ) (part : Part T B) (next : B → Part T D) (w : World) (t u : T) (b : B) → Takes c part w t b u → Reaches c w (λ j. after (part j w t) next) (λ j. next b j w u)
takes_reaches c part next w t u b h = record { waits = λ j lt. ap (λ r. after r next) (h.waits j lt); comes = λ j. ap (λ r. after r next) (h.finishes j) }

pub takes_bind : {T B D : Type 0} (c d : ℕ) (part : Part T B) (next : B → Part T D) (w : World) (t u v : T) (b : B) (e : D) → Takes c part w t b u → Takes d (next b) w u e v → Takes (c + d) (bind part next) w t e v
takes_bind c d part next w t u v b e h g =
    let r = reaches_more c d w (λ j. after (part j w t) next) (λ j. next b j w u) (λ j. Finished e w v j) (takes_reaches c part next w t u b h) (record { waits = g.waits; comes = g.finishes }) in
    record { waits = r.waits; finishes = r.comes }

module _ {S T A D : Type 0} (excused : ℕ → Bool) (post : A → S → D → T → Type 0) (c s x y z : ℕ) (part : Part S A) (w : World) (first : S) (le : s ≤ c) (few : c + y ≤ 16 * s + x) where
  -- c steps of the second pay for s steps of the first
  pub pays_to : (f g : ℕ → Progress T D) → Reaches c w f g → ((m : ℕ) → Follows excused post y z m (part m w first) g) → (n : ℕ) → Follows excused post x z n (ticks s part n w first) f
  pays_to f g h go n =
      ticked_often excused post s x y z part w first f g
      (λ j lt. h.waits j (omega (arith, lt, le)))
      (λ m. record { fewer = omega arith; by = λ k. (c + k, omega (arith, le), omega (arith, few), h.comes k) })
      go n

  -- the same, where they are those of a part
  pub taken : {B : Type 0} (part' : Part T B) (next : B → Part T D) (t u : T) (b : B) → Takes c part' w t b u → ((m : ℕ) → Follows excused post y z m (part m w first) (λ j. next b j w u)) → (n : ℕ) → Follows excused post x z n (ticks s part n w first) (λ j. after (part' j w t) next)
  taken part' next t u b h go n = pays_to (λ j. after (part' j w t) next) (λ j. next b j w u) (takes_reaches c part' next w t u b h) go n

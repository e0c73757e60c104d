-- Rows of statements and loops that follow others.
use Rattle.std.proofs.Common.{◌≡◌, ℕ, Bool, zero, suc, ◌≤◌, refl, sym, subst, arith}
use Rattle.step_semantics.specs.Steps.{World, Progress, Part, after, left}
use Rattle.step_semantics.specs.Control.{Control, Falls, Broke, Returned, onward, also, again, turns, forever}
use Rattle.step_semantics.specs.Lawful.{Lawful}
use Rattle.step_semantics.specs.Alike.{Same}
use Rattle.step_semantics.specs.Follows.{Follows}
use Rattle.step_semantics.proofs.ControlLaws.{forever_turn}
use Rattle.step_semantics.proofs.Leading.{leads_step}
use Rattle.step_semantics.proofs.Following.{carried, rests, bound, blocked}

-- what follows from either relation does so however control left
pub same_states : {S T V U : Type 0} (rel : S → T → Type 0) (back : V → S → U → T → Type 0) (P : Type 0) (a : Control V) (s : S) (b : Control U) (t : T) → (rel s t → P) → ((v : V) (u : U) → back v s u t → P) → Same rel back a s b t → P
same_states rel back P Falls s Falls t h q g = h g
same_states rel back P Broke s Broke t h q g = h g
same_states rel back P (Returned v) s (Returned u) t h q g = q v u g
same_states rel back P Falls s Broke t h q g = absurd g
same_states rel back P Falls s (Returned u) t h q g = absurd g
same_states rel back P Broke s Falls t h q g = absurd g
same_states rel back P Broke s (Returned u) t h q g = absurd g
same_states rel back P (Returned v) s Falls t h q g = absurd g
same_states rel back P (Returned v) s Broke t h q g = absurd g

-- other relations; what is returned needs a reason of its own
pub same_moves : {S T V U : Type 0} (rel rel' : S → T → Type 0) (back back' : V → S → U → T → Type 0) (s s' : S) (t t' : T) → (rel s t → rel' s' t') → ((v : V) (u : U) → back v s u t → back' v s' u t') → (a : Control V) (b : Control U) → Same rel back a s b t → Same rel' back' a s' b t'
same_moves rel rel' back back' s s' t t' h q Falls Falls g = h g
same_moves rel rel' back back' s s' t t' h q Broke Broke g = h g
same_moves rel rel' back back' s s' t t' h q (Returned v) (Returned u) g = q v u g
same_moves rel rel' back back' s s' t t' h q Falls Broke g = absurd g
same_moves rel rel' back back' s s' t t' h q Falls (Returned u) g = absurd g
same_moves rel rel' back back' s s' t t' h q Broke Falls g = absurd g
same_moves rel rel' back back' s s' t t' h q Broke (Returned u) g = absurd g
same_moves rel rel' back back' s s' t t' h q (Returned v) Falls g = absurd g
same_moves rel rel' back back' s s' t t' h q (Returned v) Broke g = absurd g

module _ {S T V U : Type 0} (excused : ℕ → Bool) (rel : S → T → Type 0) (back : V → S → U → T → Type 0) where
  -- a block on both sides, each with its own end; what it returns must not have ended with it
  pub block_follows : (rel' : S → T → Type 0) (back' : V → S → U → T → Type 0) (leave : S → S → S) (leave' : T → T → T) (s : S) (t : T) (x y n : ℕ) (r : Progress S (Control V)) (f : ℕ → Progress T (Control U)) → ((u : S) (w : T) → rel u w → rel' (leave s u) (leave' t w)) → ((v : V) (u : S) (b : U) (w : T) → back v u b w → back' v (leave s u) b (leave' t w)) → Follows excused (Same rel back) x y n r f → Follows excused (Same rel' back') x y n (left leave s r) (λ j. left leave' t (f j))
  block_follows rel' back' leave leave' s t x y n r f h q p =
      blocked excused (Same rel back) (Same rel' back') leave leave' s t x y n r f (λ a u b w g. same_moves rel rel' back back' u (leave s u) w (leave' t w) (h u w) (λ v c. q v u c w) a b g) p

  -- where the next statement follows, so does what the control that came leads to
  module _ (x : ℕ) (next : Part S (Control V)) (next' : Part T (Control U)) (n : ℕ) (h : (s : S) (t : T) → rel s t → (m : ℕ) → m ≤ n → (w : World) → Follows excused (Same rel back) x x m (next m w s) (λ j. next' j w t)) where
    pub onward_follows : (a : Control V) (s : S) (b : Control U) (t : T) → Same rel back a s b t → (m : ℕ) → m ≤ n → (w : World) → Follows excused (Same rel back) x x m (onward next a m w s) (λ j. onward next' b j w t)
    onward_follows Falls s Falls t g m le w = h s t g m le w
    onward_follows Broke s Broke t g m le w = rests excused (Same rel back) x Broke Broke m w s t g
    onward_follows (Returned v) s (Returned u) t g m le w = rests excused (Same rel back) x (Returned v) (Returned u) m w s t g
    onward_follows Falls s Broke t g m le w = absurd g
    onward_follows Falls s (Returned u) t g m le w = absurd g
    onward_follows Broke s Falls t g m le w = absurd g
    onward_follows Broke s (Returned u) t g m le w = absurd g
    onward_follows (Returned v) s Falls t g m le w = absurd g
    onward_follows (Returned v) s Broke t g m le w = absurd g

    pub again_follows : (a : Control V) (s : S) (b : Control U) (t : T) → Same rel back a s b t → (m : ℕ) → m ≤ n → (w : World) → Follows excused (Same rel back) x x m (again next a m w s) (λ j. again next' b j w t)
    again_follows Falls s Falls t g m le w = h s t g m le w
    again_follows Broke s Broke t g m le w = rests excused (Same rel back) x Falls Falls m w s t g
    again_follows (Returned v) s (Returned u) t g m le w = rests excused (Same rel back) x (Returned v) (Returned u) m w s t g
    again_follows Falls s Broke t g m le w = absurd g
    again_follows Falls s (Returned u) t g m le w = absurd g
    again_follows Broke s Falls t g m le w = absurd g
    again_follows Broke s (Returned u) t g m le w = absurd g
    again_follows (Returned v) s Falls t g m le w = absurd g
    again_follows (Returned v) s Broke t g m le w = absurd g

  -- one statement, and those after it
  pub also_follows : (x n : ℕ) (w : World) (s : S) (t : T) (first rest : Part S (Control V)) (first' rest' : Part T (Control U)) → Follows excused (Same rel back) x x n (first n w s) (λ j. first' j w t) → ((u : S) (v : T) → rel u v → (m : ℕ) → m ≤ n → (w : World) → Follows excused (Same rel back) x x m (rest m w u) (λ j. rest' j w v)) → Follows excused (Same rel back) x x n (also first rest n w s) (λ j. also first' rest' j w t)
  also_follows x n w s t first rest first' rest' h g =
      bound excused (Same rel back) (Same rel back) x x x n (first n w s) (λ j. first' j w t) (onward rest) (onward rest') h (onward_follows x rest rest' n g)

  -- loops whose bodies follow
  module _ (x : ℕ) (body : Part S (Control V)) (body' : Part T (Control U)) (lawful : Lawful body') (h : (s : S) (t : T) → rel s t → (n : ℕ) (w : World) → Follows excused (Same rel back) x x n (body n w s) (λ j. body' j w t)) where
    pub turns_follow : (most n : ℕ) → n ≤ most → (s : S) (t : T) → rel s t → (w : World) → Follows excused (Same rel back) x x n (turns most body n w s) (λ j. forever body' j w t)
    turns_follow zero n le s t r w = record { steps = 0; many = omega arith; few = omega arith; is = refl }
    turns_follow (suc most) zero le s t r w = record { steps = 0; many = omega arith; few = omega arith; is = refl }
    turns_follow (suc most) (suc n) le s t r w =
        let g : ℕ → Progress T (Control U) = λ j. after (body' j w t) (again (forever body')) in
        carried excused (Same rel back) x x x (suc n) n (after (body n w s) (again (turns most body))) (λ j. forever body' j w t) g
        (leads_step x x n (λ j. forever body' j w t) g (λ k. (suc k, omega arith, omega arith, forever_turn body' lawful k w t)))
        (bound excused (Same rel back) (Same rel back) x x x n (body n w s) (λ j. body' j w t) (again (turns most body)) (again (forever body')) (h s t r n w) (again_follows x (turns most body) (forever body') n (λ u v q m lt p. turns_follow most m (omega arith) u v q p)))

    pub forever_follows : (n : ℕ) (w : World) (s : S) (t : T) → rel s t → Follows excused (Same rel back) x x n (forever body n w s) (λ j. forever body' j w t)
    forever_follows n w s t r = turns_follow n n (omega arith) s t r w

-- the second falls through, with a value of the first
abbrev pub Falling : {S T A U : Type 0} → (A → S → T → Type 0) → A → S → Control U → T → Type 0
Falling holds a s Falls t = holds a s t
Falling holds a s Broke t = ⊥
Falling holds a s (Returned v) t = ⊥

-- the first looks at its state and leaves it as it is
pub record Read {S T A : Type 0} (s : S) (holds : A → T → Type 0) (a : A) (u : S) (t : T) : Type 0 where
  pub same : u ≡ s
  pub value : holds a t

module _ {S T A C D U : Type 0} (excused : ℕ → Bool) where
  read_next : (s : S) (holds : A → T → Type 0) (post' : C → S → D → T → Type 0) (y z n : ℕ) (next : A → Part S C) (k : Control U → Part T D) → ((a : A) (t : T) → holds a t → (m : ℕ) → m ≤ n → (w : World) → Follows excused post' y z m (next a m w s) (λ j. k Falls j w t)) → (a : A) (u : S) (b : Control U) (t : T) → Falling (Read s holds) a u b t → (m : ℕ) → m ≤ n → (w : World) → Follows excused post' y z m (next a m w u) (λ j. k b j w t)
  read_next s holds post' y z n next k h a u Falls t p m le w = subst (λ v. Follows excused post' y z m (next a m w v) (λ j. k Falls j w t)) (sym p.same) (h a t p.value m le w)
  read_next s holds post' y z n next k h a u Broke t p m le w = absurd p
  read_next s holds post' y z n next k h a u (Returned v) t p m le w = absurd p

module _ {S T A C U : Type 0} (excused : ℕ → Bool) where
  -- statements of the second that make a value, and what is done with it
  pub bound_read : (s : S) (holds : A → T → Type 0) (post' : C → S → Control U → T → Type 0) (x y z n : ℕ) (r : Progress S A) (f : ℕ → Progress T (Control U)) (next : A → Part S C) (rest : Part T (Control U)) → Follows excused (Falling (Read s holds)) x y n r f → ((a : A) (t : T) → holds a t → (m : ℕ) → m ≤ n → (w : World) → Follows excused post' y z m (next a m w s) (λ j. rest j w t)) → Follows excused post' x z n (after r next) (λ j. after (f j) (onward rest))
  bound_read s holds post' x y z n r f next rest h go =
      bound excused (Falling (Read s holds)) post' x y z n r f next (onward rest) h (read_next excused s holds post' y z n next (onward rest) go)

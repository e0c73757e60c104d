-- One part follows another: it comes out alike, for as many steps as the other took or more, and for at most sixteen times as
-- many. A credit of steps that the second may take beyond that is carried from part to part.
use Rattle.std.specs.Prelude.{◌≡◌, List, ℕ, ◌+◌, ◌*◌, ◌≤◌, Bool, true, false}
use Rattle.run_records.specs.declared.AreaCells.{AreaCells}
use Rattle.step_semantics.specs.Steps.{World, Halt, FailedCheck, MissingReply, UnfitReply, NoMeaning, Progress, Finished, Halted, Exhausted}

-- While the first goes from n steps left to m, f goes to g: for each number of steps that g is given there is one for f. Each
-- step of the first allows sixteen of the second; x more are allowed before, of which y are left after.
pub record Leads {R : Type 0} (x y n m : ℕ) (f g : ℕ → R) : Type 0 where
  pub fewer : m ≤ n
  pub by : (k : ℕ) → (j : ℕ) × (n + k ≤ m + j) × (j + 16 * m + y ≤ 16 * n + x + k) × (f j ≡ g k)

-- where the first finishes with m of n steps left
pub record Lands {S T A B : Type 0} (post : A → S → B → T → Type 0) (x y n m : ℕ) (a : A) (w : World) (s : S) (f : ℕ → Progress T B) : Type 0 where
  pub value : B
  pub state : T
  pub holds : post a s value state
  pub leads : Leads x y n m f (λ k. Finished value w state k)

-- where the first halts the run: the same is seen
pub record Ends {T B : Type 0} (x n : ℕ) (how : Halt) (w : World) (seen : List AreaCells) (f : ℕ → Progress T B) : Type 0 where
  pub steps : ℕ
  pub few : steps ≤ 16 * n + x
  pub is : f steps ≡ Halted how w seen

-- where the steps of the first are used up
pub record Waits {T B : Type 0} (x n : ℕ) (w : World) (f : ℕ → Progress T B) : Type 0 where
  pub steps : ℕ
  pub many : n ≤ steps
  pub few : steps ≤ 16 * n + x
  pub is : f steps ≡ Exhausted w

-- what is excused is not owed
abbrev pub Owed : Bool → Type 0 → Type 0
Owed true P = Unit {0}
Owed false P = P

-- no site of a check is excused
abbrev pub none_excused : ℕ → Bool
none_excused site = false

-- nothing is owed where the first has no meaning, nor where a check fails at an excused site
abbrev pub EndsAs : {T B : Type 0} → (ℕ → Bool) → ℕ → ℕ → Halt → World → List AreaCells → (ℕ → Progress T B) → Type 0
EndsAs excused x n (NoMeaning reason) w seen f = Unit {0}
EndsAs excused x n (FailedCheck site) w seen f = Owed (excused site) (Ends x n (FailedCheck site) w seen f)
EndsAs excused x n MissingReply w seen f = Ends x n MissingReply w seen f
EndsAs excused x n UnfitReply w seen f = Ends x n UnfitReply w seen f

-- The first comes out with n steps; f is the second, as a function of its steps. `post` relates the values and states with which
-- both finish.
abbrev pub Follows : {S T A B : Type 0} → (ℕ → Bool) → (A → S → B → T → Type 0) → ℕ → ℕ → ℕ → Progress S A → (ℕ → Progress T B) → Type 0
Follows excused post x y n (Finished a w s m) f = Lands post x y n m a w s f
Follows excused post x y n (Halted how w seen) f = EndsAs excused x n how w seen f
Follows excused post x y n (Exhausted w) f = Waits x n w f

-- Small loops, calls and blocks, told exactly.
use Rattle.std.specs.Prelude.{◌≡◌, ℕ, suc, ◌<◌, List, [], ◌∷◌, ◌++◌}
use Rattle.step_semantics.specs.Steps.{World, Finished, Exhausted, Part, give, change, by_state}
use Rattle.step_semantics.specs.Control.{Control, Falls, Broke, Returned, counted}
use Rattle.step_semantics.specs.Frames.{Frames, push_frame, pop_frame, in_frame}
use Rattle.step_semantics.specs.Alike.{Same}

-- a turn that notes its value
abbrev pub noted : ℕ → Part (List ℕ) (Control ℕ)
noted i = change Falls (λ s. s ++ i ∷ [])

-- a loop with two turns after its first has three, each with its step, and falls through; a break and a return end it
pub record TurnsAreCounted : Type 0 where
  pub turns : (w : World) → counted 2 suc 5 noted 4 w [] ≡ Finished Falls w (5 ∷ 6 ∷ 7 ∷ []) 1
  pub waits : (w : World) → counted 2 suc 5 noted 2 w [] ≡ Exhausted w
  pub broken : (w : World) → counted 2 suc 5 (λ i. give {S = List ℕ} {A = Control ℕ} Broke) 4 w [] ≡ Finished Falls w [] 3
  pub returned : (w : World) → counted 2 suc 5 (λ i. give {S = List ℕ} (Returned i)) 4 w [] ≡ Finished (Returned 5) w [] 3

-- A call sees its own frame before those of its callers. However it ends, the caller finds its own frame again.
pub record FramesArePopped : Type 0 where
  pub seen : (n : ℕ) (w : World) (frames : Frames ℕ) → in_frame (push_frame 7) pop_frame (by_state (λ s. give s)) n w frames ≡ Finished (record { own = 7; callers = frames.own ∷ frames.callers }) w frames n
  pub popped : (control : Control ℕ) (n : ℕ) (w : World) (frames : Frames ℕ) → in_frame (push_frame 7) pop_frame (give control) n w frames ≡ Finished control w frames n

-- states that are the number of areas that live, the same on both sides, and references to areas that live
abbrev pub SameCount : ℕ → ℕ → Type 0
SameCount s t = s ≡ t

pub record SameArea (v s u t : ℕ) : Type 0 where
  pub same : v ≡ u
  pub lives : v < s
  pub states : s ≡ t

-- a reference to an area of a block is alike before the block's end, and no longer behind it
pub record OwnAreasEnd : Type 0 where
  pub before : (s : ℕ) → Same SameCount SameArea (Returned s) (suc s) (Returned s) (suc s)
  pub behind : (s : ℕ) → Same SameCount SameArea (Returned s) s (Returned s) s → ⊥

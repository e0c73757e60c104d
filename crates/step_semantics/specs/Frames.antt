-- The frames of the calls that are open, one for each. They are kept in the state and nowhere else: a call pushes its own, and
-- pops it however it ends.
use Rattle.std.specs.Prelude.{List, [], ◌∷◌}
use Rattle.step_semantics.specs.Steps.{Part, left}

-- the frame of the call that runs, and those of its callers, the nearest first
pub record Frames (F : Type 0) : Type 0 where
  pub own : F
  pub callers : List F

abbrev pub push_frame : {F : Type 0} → F → Frames F → Frames F
push_frame frame frames = record { own = frame; callers = frames.own ∷ frames.callers }

-- the outermost frame has no caller, and stays
abbrev pub without : {F : Type 0} → F → List F → Frames F
without frame [] = record { own = frame; callers = [] }
without frame (caller ∷ callers) = record { own = caller; callers = callers }

abbrev pub pop_frame : {F : Type 0} → Frames F → Frames F
pop_frame frames = without frames.own frames.callers

-- a part in a frame of its own, as a call pushes it and pops it
abbrev pub in_frame : {S A : Type 0} → (S → S) → (S → S) → Part S A → Part S A
in_frame push pop part n w s = left (λ before end. pop end) s (part n w (push s))

-- What stays of the frames while a part of a run goes on.
use Rattle.std.specs.Prelude.{◌≡◌, ◌++◌, ℕ, List}
use Rattle.step_semantics.specs.Frames.{Frames}
use Rattle.core_meaning.specs.State.{Frame, State}
use Rattle.core_meaning.specs.Values.{Value}

abbrev pub frames_of : State → Frames Frame
frames_of s = s.frames

-- the calls that wait are the same, and the names in scope before are those behind the ones that came since
pub record Within (s u : State) : Type 0 where
  pub more : List (ℕ × Value)
  pub names : (frames_of u).own.names ≡ more ++ (frames_of s).own.names
  pub first : (frames_of u).own.first ≡ (frames_of s).own.first
  pub callers : (frames_of u).callers ≡ (frames_of s).callers

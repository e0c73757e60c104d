-- What stays of the frames while a part of a run goes on.
use Rattle.std.specs.Prelude.{◌≡◌, ◌++◌}
use Rattle.step_semantics.specs.Frames.{Frames}
use Rattle.c_meaning.specs.State.{Frame, CState}

abbrev pub frames_of : CState → Frames Frame
frames_of s = s.frames

-- the functions that wait are the same, and the names in scope before are those behind the ones declared since
pub record Within (s u : CState) : Type 0 where
  pub more : Frame
  pub own : (frames_of u).own ≡ more ++ (frames_of s).own
  pub callers : (frames_of u).callers ≡ (frames_of s).callers

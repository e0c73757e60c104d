-- What a command comes to, and which bytes that lets the output take.
use Rattle.std.specs.Prelude.{◌≡◌, ℕ, List}
use Rattle.ivoryc.specs.declared.status.Status.{Status}
use Rattle.ivoryc.specs.declared.status.Status.TheVariants as status
use Rattle.ivoryc.specs.Headline.{IsCompiled}

pub data Answer : Type 0 where
  -- the C text of this module text
  Compiles : (text : List ℕ) → Answer
  -- exactly these bytes
  Gives : (bytes : List ℕ) → Answer
  -- a status and its line
  Refuses : (status : Status) → (line : List ℕ) → Answer

-- the bytes that an answer lets the output take
abbrev pub Allows : Answer → List ℕ → Type 0
Allows (Compiles text) bytes = IsCompiled text bytes
Allows (Gives given) bytes = bytes ≡ given
Allows (Refuses s line) bytes = ⊥

abbrev pub status_of : Answer → Status
status_of (Compiles text) = status.Done
status_of (Gives bytes) = status.Done
status_of (Refuses s line) = s

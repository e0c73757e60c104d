-- A text on its way into a sink, piece by piece: some of it has arrived, and the rest waits in a buffer.
use Rattle.std.specs.Prelude.{◌≡◌, ℕ, ◌+◌, ◌≤◌, Bool, true, false, List, ◌++◌, length, Option}
use Rattle.iv_base.specs.Counts.{capped, Rose}
use Rattle.iv_base.specs.Sinks.{grown, GrewByPrefix}

-- the sink, by the name of the reference to it, what it tells of itself, the bytes that wait for it, and whether it refused
pub record Stage : Type 0 where
  pub sink : ℕ
  pub held : Option (List ℕ)
  pub taken : ℕ
  pub faults : ℕ
  pub waiting : List ℕ
  pub refused : Bool

-- the sink took a front of what waited and of the text, and the rest waits
pub record WentOn (before now : Stage) (text : List ℕ) : Type 0 where
  pub added : List ℕ
  pub whole : added ++ now.waiting ≡ before.waiting ++ text
  pub holds : now.held ≡ grown before.held added
  pub counts : capped (now.taken + length now.waiting) ≡ capped (before.taken + length (before.waiting ++ text))

-- the sink refused: it took some front of what waited and of the text
pub record Refused (before now : Stage) (text : List ℕ) : Type 0 where
  pub part : GrewByPrefix before.held now.held (before.waiting ++ text)
  pub rose : Rose before.faults now.faults

-- a sink that refused before is left alone
pub record LeftAlone (before now : Stage) : Type 0 where
  pub still : now.refused ≡ true
  pub same_held : now.held ≡ before.held
  pub same_faults : now.faults ≡ before.faults

-- what became of the text
pub record Puts (before now : Stage) (text : List ℕ) : Type 0 where
  pub same_sink : now.sink ≡ before.sink
  pub later : before.faults ≤ now.faults
  pub alone : before.refused ≡ true → LeftAlone before now
  pub whole : before.refused ≡ false → now.refused ≡ false → WentOn before now text
  pub part : before.refused ≡ false → now.refused ≡ true → Refused before now text

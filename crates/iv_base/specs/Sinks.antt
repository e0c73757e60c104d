-- What a sink has taken after a text was put into it, and when it may refuse.
use Rattle.std.specs.Prelude.{◌≡◌, ℕ, ◌+◌, ◌≤◌, List, ◌++◌, Result, OnErr, Option, Some, None}
use Rattle.iv_base.specs.Counts.{capped, Rose}

-- what is held once a text was added, where the sink tells it
abbrev pub grown : Option (List ℕ) → List ℕ → Option (List ℕ)
grown None piece = None
grown (Some text) piece = Some (text ++ piece)

-- some front of the piece was added
pub record GrewByPrefix (before now : Option (List ℕ)) (piece : List ℕ) : Type 0 where
  pub added : List ℕ
  pub rest : List ℕ
  pub whole : added ++ rest ≡ piece
  pub holds : now ≡ grown before added

-- the count of faults never falls, and a call refuses only where it rose
pub record HasCause {T E : Type 0} (before now : ℕ) (result : Result T E) : Type 0 where
  pub later : before ≤ now
  pub failed : OnErr result (Rose before now)

-- a text and then another add what their joined text adds
abbrev pub AddsBoth : Type 0
AddsBoth = (held : Option (List ℕ)) (a b : List ℕ) → grown (grown held a) b ≡ grown held (a ++ b)

-- and count as their joined text
abbrev pub CountsBoth : Type 0
CountsBoth = (taken a b : ℕ) → capped (capped (taken + a) + b) ≡ capped (taken + (a + b))

-- where the first of two texts was added in part, their joined text was
abbrev pub PartOfFirst : Type 0
PartOfFirst = (held now : Option (List ℕ)) (a b : List ℕ) → GrewByPrefix held now a → GrewByPrefix held now (a ++ b)

-- so it was where the first was added whole and the second in part
abbrev pub PartOfSecond : Type 0
PartOfSecond = (held now : Option (List ℕ)) (a b : List ℕ) → GrewByPrefix (grown held a) now b → GrewByPrefix held now (a ++ b)

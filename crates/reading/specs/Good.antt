-- The one fact that goes from combinator to combinator: a reader reads exactly what a rule spells, and stops exactly at
-- the first token that the rule cannot have there, or that nests deeper than the limit.
use Rattle.std.specs.Prelude.{◌≡◌, ℕ, ◌<◌, Bool, false, List, [], ◌∷◌, ◌++◌}
use Rattle.reading.specs.Row.{Entry, Row, Signs, tokens, Shallow, starts, Fits}
use Rattle.reading.specs.Language.{Language}
use Rattle.reading.specs.Reader.{Outcome, Done, Unexpected, TooDeep, Reader}

-- it did not stop at a fault before these tokens
abbrev pub Passed : {T A : Type 0} → List T → Outcome T A → Type 0
Passed {T} rest (Done a r) = (g : List T) × (rest ≡ g ++ r)
Passed {T} rest (Unexpected r) = (g : List T) × (rest ≡ g ++ r)
Passed rest (TooDeep r) = Unit {0}

-- of these tokens those before the rest are a row of the rule
abbrev pub ReadFrom : {T A : Type 0} → ℕ → Language T A → List T → A → List T → Type 0
ReadFrom {T} limit R ts a rest = (row : Row T) × R a row × Shallow limit row × (ts ≡ tokens row ++ rest)

-- of these tokens those before the rest begin a row of the rule
abbrev pub StopsAt : {T A : Type 0} → ℕ → Language T A → List T → List T → Type 0
StopsAt {T} {A} limit R ts rest = (row : Row T) × (tail : Row T) × (a : A) × R a (row ++ tail) × Shallow limit row × (ts ≡ tokens row ++ rest)

-- of these tokens those before the rest begin a row of the rule in which the next token nests deeper than the limit
abbrev pub DeepAt : {T A : Type 0} → Signs T → ℕ → Language T A → List T → List T → Type 0
DeepAt {T} {A} signs limit R ts rest = (row : Row T) × (m : Entry T) × (tail : Row T) × (after : List T) × (a : A) × R a (row ++ m ∷ tail) × Shallow limit row
    × (limit < m.depth) × (rest ≡ m.token ∷ after) × (ts ≡ tokens row ++ rest) × Fits signs m tail after

-- `goes_on` picks the tokens with which a row of the rule might go on behind its end, where the reader could stop.
pub record Good {T A : Type 0} (signs : Signs T) (limit : ℕ) (goes_on : T → Bool) (R : Language T A) (p : Reader T A) : Type 0 where
  -- the rule spells something, so that what begins it can be completed
  pub example : (a : A) × (row : Row T) × R a row
  -- what is read is spelled; the tokens before a fault begin a row; the token at TooDeep is one too deep
  pub done : (ts : List T) (a : A) (rest : List T) → p ts ≡ Done a rest → ReadFrom limit R ts a rest
  pub unexpected : (ts rest : List T) → p ts ≡ Unexpected rest → StopsAt limit R ts rest
  pub too_deep : (ts rest : List T) → p ts ≡ TooDeep rest → DeepAt signs limit R ts rest
  -- what is spelled is read, where the next token does not go on
  pub complete : (a : A) (row : Row T) (rest : List T) → R a row → Shallow limit row → starts goes_on rest ≡ false → p (tokens row ++ rest) ≡ Done a rest
  -- tokens that begin a row are passed, whatever follows them
  pub passes : (a : A) (row : Row T) (m : Entry T) (tail : Row T) (rest : List T) → R a (row ++ m ∷ tail) → Shallow limit row
      → Passed rest (p (tokens row ++ m.token ∷ rest))
  -- the first token that nests too deep is told as such
  pub deep : (a : A) (row : Row T) (m : Entry T) (tail : Row T) (rest : List T) → R a (row ++ m ∷ tail) → Shallow limit row
      → limit < m.depth → Fits signs m tail rest → p (tokens row ++ m.token ∷ rest) ≡ TooDeep (m.token ∷ rest)
  -- no row ends in a prefix operator
  pub ends : (a : A) (row : Row T) (m : Entry T) → R a (row ++ m ∷ []) → limit < m.depth → signs.sign m.token ≡ false

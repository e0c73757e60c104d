-- What is true of a text of a language: that it is spelled, that it begins one, where it has its first unexpected token,
-- and where it nests too deep.
use Rattle.std.specs.Prelude.{◌≡◌, ℕ, ◌<◌, List, [], ◌∷◌, ◌++◌, ◌-◌, length}
use Rattle.reading.specs.Row.{Entry, Row, Signs, tokens, Shallow, Fits}
use Rattle.reading.specs.Language.{Language}
use Rattle.reading.specs.Reader.{Outcome, Done, Unexpected, TooDeep}

module _ {T A : Type 0} (R : Language T A) where
  -- at whatever nesting
  abbrev pub Spelled : A → List T → Type 0
  Spelled x ts = (row : Row T) × R x row × (tokens row ≡ ts)

  -- with no token deeper than the limit
  abbrev pub SpelledWithin : ℕ → A → List T → Type 0
  SpelledWithin limit x ts = (row : Row T) × R x row × Shallow limit row × (tokens row ≡ ts)

  -- some text goes on from these
  abbrev pub Begins : List T → Type 0
  Begins ts = (tail : List T) × (x : A) × Spelled x (ts ++ tail)

  -- with one token more no text begins so; where there is no more, this is no text
  abbrev pub Stuck : List T → List T → Type 0
  Stuck first [] = (x : A) → Spelled x first → ⊥
  Stuck first (t ∷ rest) = Begins (first ++ t ∷ []) → ⊥

  -- the tokens before this place begin a text, and not with the one at it
  abbrev pub UnexpectedAt : List T → ℕ → Type 0
  UnexpectedAt ts i = (first : List T) × (rest : List T) × (ts ≡ first ++ rest) × (i ≡ length first) × Begins first × Stuck first rest

  -- the tokens up to the one at this place begin a text, in which that one is the first to nest deeper
  abbrev pub TooDeepAt : Signs T → ℕ → List T → ℕ → Type 0
  TooDeepAt signs limit ts i = (row : Row T) × (m : Entry T) × (tail : Row T) × (rest : List T) × (x : A)
      × (ts ≡ tokens row ++ m.token ∷ rest) × (i ≡ length (tokens row)) × R x (row ++ m ∷ tail) × Shallow limit row × (limit < m.depth) × Fits signs m tail rest

-- What a parser answers: the value, or the place of the fault.
pub data Answer (A : Type 0) : Type 0 where
  Tree : A → Answer A
  UnexpectedToken : ℕ → Answer A
  DeepToken : ℕ → Answer A

-- the answer for what was read of all these tokens
abbrev pub answer : {T A : Type 0} → List T → Outcome T A → Answer A
answer ts (Done x rest) = Tree x
answer ts (Unexpected rest) = UnexpectedToken (length ts - length rest)
answer ts (TooDeep rest) = DeepToken (length ts - length rest)

-- A parser's answers are exact. With one `only` for each answer, no text has two.
pub record Exact {T A : Type 0} (signs : Signs T) (limit : ℕ) (R : Language T A) (parse : List T → Answer A) : Type 0 where
  pub found : (ts : List T) (x : A) → parse ts ≡ Tree x → SpelledWithin R limit x ts
  pub only : (ts : List T) (x : A) → SpelledWithin R limit x ts → parse ts ≡ Tree x
  pub unexpected : (ts : List T) (i : ℕ) → parse ts ≡ UnexpectedToken i → UnexpectedAt R ts i
  pub only_unexpected : (ts : List T) (i : ℕ) → UnexpectedAt R ts i → ((j : ℕ) → j < i → TooDeepAt R signs limit ts j → ⊥) → parse ts ≡ UnexpectedToken i
  pub too_deep : (ts : List T) (i : ℕ) → parse ts ≡ DeepToken i → TooDeepAt R signs limit ts i
  pub only_deep : (ts : List T) (i : ℕ) → TooDeepAt R signs limit ts i → parse ts ≡ DeepToken i

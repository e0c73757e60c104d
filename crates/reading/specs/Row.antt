-- Rows: tokens with the nesting at each. A grammar says which rows it spells, and not which lists of tokens alone, so
-- that how deep each token nests is part of the grammar.
use Rattle.std.specs.Prelude.{◌≡◌, ℕ, ◌≤◌, Bool, true, false, List, [], ◌∷◌}

pub record Entry (T : Type 0) : Type 0 where
  pub token : T
  pub depth : ℕ

abbrev pub Row : Type 0 → Type 0
Row T = List (Entry T)

abbrev pub tokens : {T : Type 0} → Row T → List T
tokens [] = []
tokens (m ∷ row) = m.token ∷ tokens row

-- no token nests deeper than the limit
abbrev pub Shallow : {T : Type 0} → ℕ → Row T → Type 0
Shallow limit [] = Unit {0}
Shallow limit (m ∷ row) = (m.depth ≤ limit) × Shallow limit row

-- there is a first token, and it passes the test
abbrev pub starts : {T : Type 0} → (T → Bool) → List T → Bool
starts test [] = false
starts test (t ∷ ts) = test t

-- A sign, as a minus, belongs to the number that follows it, and nests nothing. Where none follows, it is a prefix
-- operator, and nests.
pub record Signs (T : Type 0) : Type 0 where
  pub sign : T → Bool
  pub number : T → Bool

-- of a grammar in which no token's nesting depends on the next token
abbrev pub no_signs : {T : Type 0} → Signs T
no_signs = record { sign = λ _. false; number = λ _. false }

-- behind a sign these tokens and the rest of its row agree on whether a number follows
abbrev pub Fits : {T : Type 0} → Signs T → Entry T → Row T → List T → Type 0
Fits signs m tail after = signs.sign m.token ≡ true → starts signs.number (tokens tail) ≡ starts signs.number after

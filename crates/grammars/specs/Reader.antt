-- How a grammar is read: a choice by the kind of the next token, and a level less for what stands in brackets.
use Rattle.std.specs.Prelude.{ℕ, zero, suc, ◌+◌, Bool, cond, List, [], ◌∷◌, length, Option, Some, None}
use Rattle.reading.specs.Row.{starts}
use Rattle.reading.specs.Reader.{Reader, Done, and_then, mapped, ◌<$>◌, ◌>>=◌, give, accept, many, enclosed}
use Rattle.grammars.specs.Grammar.{Lexicon, of_kind, Rule, empty, token, map, sequence, split, choice, repeat, stages, brackets, Grammar, stage}
use Rattle.grammars.specs.Kinds.{holds, first}

-- the reader of this symbol, where symbols can be read
abbrev pub at_symbol : {T N : Type 0} {Tree : N → Type 0} → Option ((n : N) → Reader T (Tree n)) → (n : N) → Option (Reader T (Tree n))
at_symbol None n = None
at_symbol (Some p) n = Some (p n)

-- a token of one of these kinds
abbrev pub among : {T : Type 0} → Lexicon T → ℕ → List ℕ → T → Bool
among lexicon d kinds t = holds kinds (lexicon.kind d t)

-- the kind of the next token, and 0 where there is none
abbrev pub next : {T : Type 0} → Lexicon T → ℕ → List T → ℕ
next lexicon d [] = 0
next lexicon d (t ∷ ts) = lexicon.kind d t

abbrev pub choose_kind : {T A : Type 0} → Lexicon T → ℕ → List ℕ → Reader T A → Reader T A → Reader T A
choose_kind lexicon d kinds p q = λ ts. cond (holds kinds (next lexicon d ts)) (p ts) (q ts)

-- as many as begin as the stage asks; the number bounds how many are read
abbrev pub stages_up_to : {T A : Type 0} → ℕ → ℕ → (A → ℕ) → (ℕ → T → Bool) → (ℕ → Reader T A) → ℕ → Reader T (List A)
stages_up_to zero last rank test p s ts = Done [] ts
stages_up_to (suc n) last rank test p s ts =
    cond (starts (test s) ts) (and_then (p s ts) (λ a rest. mapped (λ more. a ∷ more) (stages_up_to n last rank test p (stage last (rank a)) rest))) (Done [] ts)

-- each reads a token at least, so that the bound is never reached
unfoldable pub in_stages : {T A : Type 0} → ℕ → (A → ℕ) → (ℕ → T → Bool) → (ℕ → Reader T A) → ℕ → Reader T (List A)
in_stages last rank test p s ts = stages_up_to (length ts) last rank test p s ts

module _ {T N : Type 0} {Tree : N → Type 0} (lexicon : Lexicon T) where
  -- a rule at this depth, over the readers of symbols one level deeper, if one more may nest
  abbrev pub read_with : {A : Type 0} → ℕ → Option ((n : N) → Reader T (Tree n)) → Rule T N Tree A → Reader T A
  read_with d inner (empty a) = give a
  read_with d inner (token k f) = accept (of_kind lexicon d k f)
  read_with d inner (map f p) = f <$> read_with d inner p
  read_with d inner (sequence f p q) = read_with d inner p >>= λ a. f a <$> read_with d inner q
  read_with d inner (split last way f p rules) = read_with d inner p >>= λ a. f a <$> read_with d inner (rules (stage last (way a)))
  read_with d inner (choice p q) = choose_kind lexicon d (first p) (read_with d inner p) (read_with d inner q)
  read_with d inner (repeat p) = many (among lexicon d (first p)) (read_with d inner p)
  read_with d inner (stages last rank rules) = in_stages last rank (λ s. among lexicon d (first (rules s))) (λ s. read_with d inner (rules s)) 0
  read_with d inner (brackets opens closes n) = enclosed (of_kind lexicon d opens Some) (of_kind lexicon (d + 1) closes Some) (λ x _. x) (at_symbol inner n)

  -- a symbol at this depth, where so many levels more may nest
  unfoldable pub read : Grammar T N Tree → ℕ → ℕ → (n : N) → Reader T (Tree n)
  read g d zero n = read_with d None (g n)
  read g d (suc k) n = read_with d (Some (read g (d + 1) k)) (g n)

-- When a grammar can be read by its first tokens: a list that computes, of what is wrong with it.
use Rattle.std.specs.Prelude.{◌≡◌, ℕ, zero, suc, Bool, true, false, cond, not, List, [], ◌∷◌, ◌++◌, map, Option, Some, is_some}
use Rattle.std.specs.List.{list_any}
use Rattle.grammars.specs.Grammar as grammar
use Rattle.grammars.specs.Grammar.{Lexicon, of_kind, Rule, empty, token, sequence, split, choice, repeat, stages, brackets, Grammar}
use Rattle.grammars.specs.Kinds.{common, when, at_stages, at_every_stage, nullable, first, goes_on}

-- what is wrong, and with which kind of token
pub data Clash : Type 0 where
  -- no example of the kind gives a value
  NoExample : ℕ → Clash
  -- both of a choice may begin with it; with 0, it is the end of the text
  Either : ℕ → Clash
  -- it may follow, and what stands before it might go on with it
  Behind : ℕ → Clash
  -- what may be empty comes first in a choice, or again and again
  Nothing : Clash

module _ {T N : Type 0} {Tree : N → Type 0} (lexicon : Lexicon T) (g : Grammar T N Tree) where
  abbrev pub has_example : {A : Type 0} → ℕ → ℕ → (T → Option A) → Bool
  has_example d k f = list_any (λ t. is_some (of_kind lexicon d k f t)) (lexicon.examples d k)

  abbrev pub without_example : {A : Type 0} → ℕ → ℕ → (T → Option A) → List Clash
  without_example d k f = when (not (has_example d k f)) (NoExample k ∷ [])

  abbrev pub behind : {A B : Type 0} → Rule T N Tree A → Rule T N Tree B → List Clash
  behind p q = map Behind (common (goes_on p) (first q))

  abbrev pub never_empty : {A : Type 0} → Rule T N Tree A → List Clash
  never_empty p = when (nullable p) (Nothing ∷ [])

  -- of a rule at this depth
  abbrev pub clashes : {A : Type 0} → ℕ → Rule T N Tree A → List Clash
  clashes d (empty a) = []
  clashes d (token k f) = without_example d k f
  clashes d (grammar.map f p) = clashes d p
  clashes d (sequence f p q) = clashes d p ++ clashes d q ++ behind p q
  clashes d (split last way f p rules) = clashes d p ++ at_stages (λ s. clashes d (rules s) ++ behind p (rules s)) last
  clashes d (choice p q) = clashes d p ++ clashes d q ++ never_empty p ++ map Either (common (first p) (0 ∷ first q))
  clashes d (repeat p) = clashes d p ++ never_empty p ++ behind p p
  clashes d (stages last rank rules) = at_stages (λ s. clashes d (rules s) ++ never_empty (rules s) ++ at_stages (λ t. behind (rules s) (rules t)) last) last
  clashes d (brackets opens closes n) = without_example {A = T} d opens Some ++ without_example {A = T} (suc d) closes Some ++ map Behind (common (goes_on (g n)) (closes ∷ []))

  -- some row is spelled, where rows of these symbols are
  abbrev pub is_filled : {A : Type 0} → (N → Bool) → Rule T N Tree A → Bool
  is_filled inner (empty a) = true
  is_filled inner (token k f) = true
  is_filled inner (grammar.map f p) = is_filled inner p
  is_filled inner (sequence f p q) = cond (is_filled inner p) (is_filled inner q) false
  is_filled inner (split last way f p rules) = cond (is_filled inner p) (at_every_stage (λ s. is_filled inner (rules s)) last) false
  is_filled inner (choice p q) = cond (is_filled inner p) true (is_filled inner q)
  is_filled inner (repeat p) = true
  is_filled inner (stages last rank rules) = true
  is_filled inner (brackets opens closes n) = inner n

  -- with so many levels
  abbrev pub filled : ℕ → N → Bool
  filled zero n = false
  filled (suc levels) n = is_filled (filled levels) (g n)

  -- a grammar: each symbol spells something, and nothing is wrong at any depth
  pub record Checked : Type 0 where
    pub levels : ℕ
    pub fills : (n : N) → filled levels n ≡ true
    pub apart : (d : ℕ) (n : N) → clashes d (g n) ≡ []

-- What a grammar spells: which rows of tokens, each with its nesting, spell a value.
use Rattle.std.specs.Prelude.{◌≡◌, ℕ, zero, suc, List, [], ◌∷◌, ◌++◌, Some}
use Rattle.reading.specs.Row.{Row}
use Rattle.reading.specs.Language.{Language, Given, Terminal, Mapped, Then, Either, Many, Enclosed}
use Rattle.grammars.specs.Grammar.{Lexicon, of_kind, Rule, empty, token, map, sequence, split, choice, repeat, stages, brackets, Grammar, stage}

-- a list from a stage on
abbrev pub InStages : {T A : Type 0} → ℕ → (A → ℕ) → (ℕ → Language T A) → ℕ → Language T (List A)
InStages last rank R s [] row = row ≡ []
InStages {T} last rank R s (a ∷ more) row = (f : Row T) × (g : Row T) × (row ≡ f ++ g) × R s a f × InStages last rank R (stage last (rank a)) more g

module _ {T N : Type 0} {Tree : N → Type 0} (lexicon : Lexicon T) where
  -- a rule at this depth, over what the symbols spell one level deeper
  abbrev pub SpellsWith : {A : Type 0} → ℕ → ((n : N) → Language T (Tree n)) → Rule T N Tree A → Language T A
  SpellsWith d inner (empty a) = Given a
  SpellsWith d inner (token k f) = Terminal d (of_kind lexicon d k f)
  SpellsWith d inner (map f p) = Mapped f (SpellsWith d inner p)
  SpellsWith d inner (sequence f p q) = Then (SpellsWith d inner p) (λ a. Mapped (f a) (SpellsWith d inner q))
  SpellsWith d inner (split last way f p rules) = Then (SpellsWith d inner p) (λ a. Mapped (f a) (SpellsWith d inner (rules (stage last (way a)))))
  SpellsWith d inner (choice p q) = Either (SpellsWith d inner p) (SpellsWith d inner q)
  SpellsWith d inner (repeat p) = Many (SpellsWith d inner p)
  SpellsWith d inner (stages last rank rules) = InStages last rank (λ s. SpellsWith d inner (rules s)) 0
  SpellsWith d inner (brackets opens closes n) = Enclosed d (of_kind lexicon d opens Some) (of_kind lexicon (suc d) closes Some) (λ x _. x) (inner n)

  -- a symbol at this depth, with fewer than so many brackets one in the other
  abbrev pub SpellsUpTo : Grammar T N Tree → ℕ → ℕ → (n : N) → Language T (Tree n)
  SpellsUpTo g zero d n x row = ⊥
  SpellsUpTo g (suc levels) d n x row = SpellsWith d (SpellsUpTo g levels (suc d)) (g n) x row

  -- a symbol at this depth
  abbrev pub Spells : Grammar T N Tree → ℕ → (n : N) → Language T (Tree n)
  Spells g d n x row = (levels : ℕ) × SpellsUpTo g levels d n x row

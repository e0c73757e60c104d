-- Each symbol of a checked grammar spells something.
use Rattle.std.proofs.Common.{◌≡◌, ℕ, zero, suc, Bool, true, false, cond, [], ◌∷◌, ◌++◌, ◌⊎◌, inl, inr, refl, Option, Some}
use Rattle.reading.specs.Row.{Entry, Row}
use Rattle.reading.specs.Language.{Language, Terminal}
use Rattle.grammars.specs.Grammar.{Lexicon, of_kind, stage, Rule, empty, token, map, sequence, split, choice, repeat, stages, brackets, Grammar}
use Rattle.grammars.specs.Spelled.{SpellsWith, Spells}
use Rattle.grammars.specs.Checks.{without_example, clashes, is_filled, filled, Checked}
use Rattle.grammars.specs.Kinds.{at_every_stage}
use Rattle.grammars.proofs.Sets.{one_true, other_true, every_stage, stage_within}
use Rattle.grammars.proofs.Parts.{sequence_parts, split_parts, choice_parts, bracket_parts, example_of}
use Rattle.grammars.proofs.Levels.{to_symbol}

abbrev Some_row : {T A : Type 0} → Language T A → Type 0
Some_row {T} {A} R = (a : A) × (row : Row T) × R a row

either_filled : {T A : Type 0} (P Q : Language T A) (a b : Bool) → (a ≡ true → Some_row P) → (b ≡ true → Some_row Q) → cond a true b ≡ true → (x : A) × (row : Row T) × (P x row ⊎ Q x row)
either_filled P Q true b p q e = let w = p refl in (w.0, w.1, inl w.2)
either_filled P Q false b p q e = let w = q e in (w.0, w.1, inr w.2)

module _ {T N : Type 0} {Tree : N → Type 0} (lexicon : Lexicon T) (g : Grammar T N Tree) where
  example_row : {A : Type 0} (d at k : ℕ) (f : T → Option A) → without_example lexicon g d k f ≡ [] → Some_row (Terminal at (of_kind lexicon d k f))
  example_row d at k f e =
      let w = example_of lexicon g d k f e in
      let m : Entry T = record { token = w.1; depth = at } in
      (w.0, m ∷ [], (m, refl, refl, w.2))

  rule_filled : {A : Type 0} (d : ℕ) (inner : N → Bool) (L : (n : N) → Language T (Tree n)) → ((n : N) → inner n ≡ true → Some_row (L n))
      → (r : Rule T N Tree A) → clashes lexicon g d r ≡ [] → is_filled lexicon g inner r ≡ true → Some_row (SpellsWith lexicon d L r)
  rule_filled d inner L h (empty a) s e = (a, [], (refl, refl))
  rule_filled d inner L h (token k f) s e = example_row d d k f s
  rule_filled d inner L h (map f p) s e = let w = rule_filled d inner L h p s e in (f w.0, w.1, (w.0, w.2, refl))
  rule_filled d inner L h (sequence f p q) s e =
      let c = sequence_parts lexicon g d f p q s in
      let v = rule_filled d inner L h p c.0 (one_true (is_filled lexicon g inner p) (is_filled lexicon g inner q) e) in
      let w = rule_filled d inner L h q c.1 (other_true (is_filled lexicon g inner p) (is_filled lexicon g inner q) e) in
      (f v.0 w.0, v.1 ++ w.1, (v.0, v.1, w.1, refl, v.2, (w.0, w.2, refl)))
  rule_filled d inner L h (split last way f p rules) s e =
      let c = split_parts lexicon g d last way f p rules s in
      let every = at_every_stage (λ s. is_filled lexicon g inner (rules s)) last in
      let u = rule_filled d inner L h p c.0 (one_true (is_filled lexicon g inner p) every e) in
      let k = stage last (way u.0) in
      let low = stage_within last (way u.0) in
      let v = rule_filled d inner L h (rules k) (c.1 k low).0 (every_stage (λ s. is_filled lexicon g inner (rules s)) last k (other_true (is_filled lexicon g inner p) every e) low) in
      (f u.0 v.0, u.1 ++ v.1, (u.0, u.1, v.1, refl, u.2, (v.0, v.2, refl)))
  rule_filled d inner L h (choice p q) s e =
      let c = choice_parts lexicon g d p q s in
      either_filled (SpellsWith lexicon d L p) (SpellsWith lexicon d L q) (is_filled lexicon g inner p) (is_filled lexicon g inner q)
      (rule_filled d inner L h p c.0) (rule_filled d inner L h q c.1) e
  rule_filled d inner L h (repeat p) s e = ([], [], refl)
  rule_filled d inner L h (stages last rank rules) s e = ([], [], refl)
  rule_filled d inner L h (brackets opens closes n) s e =
      let c = bracket_parts lexicon g d opens closes n s in
      let u = example_row {A = T} d (suc d) opens Some c.0 in
      let v = h n e in
      let w = example_row {A = T} (suc d) (suc d) closes Some c.1 in
      (v.0, u.1 ++ (v.1 ++ w.1), (u.0, u.1, v.1 ++ w.1, refl, u.2, (v.0, v.1, w.1, refl, v.2, (w.0, w.2, refl))))

  symbol_filled : ((d : ℕ) (n : N) → clashes lexicon g d (g n) ≡ []) → (levels d : ℕ) (n : N) → filled lexicon g levels n ≡ true → Some_row (Spells lexicon g d n)
  symbol_filled apart zero d n e = cc
  symbol_filled apart (suc l) d n e =
      let w = rule_filled d (filled lexicon g l) (Spells lexicon g (suc d)) (λ m is. symbol_filled apart l (suc d) m is) (g n) (apart d n) e in
      (w.0, w.1, to_symbol lexicon g d n w.0 w.1 w.2)

  pub some_row : Checked lexicon g → (d : ℕ) (n : N) → Some_row (Spells lexicon g d n)
  some_row c d n = symbol_filled c.apart c.levels d n (c.fills n)

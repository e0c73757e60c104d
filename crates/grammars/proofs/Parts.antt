-- Where nothing is wrong with a rule, nothing is wrong with its parts.
use Rattle.std.proofs.Common.{◌≡◌, ℕ, suc, ◌≤◌, false, not, List, [], ◌∷◌, ◌++◌, map, Option, Some}
use Rattle.std.specs.Prelude.{is_some}
use Rattle.grammars.specs.Grammar.{Lexicon, of_kind, stage, Rule, sequence, split, choice, repeat, stages, brackets, Grammar}
use Rattle.grammars.specs.Kinds.{common, at_stages, nullable, first, goes_on}
use Rattle.grammars.specs.Checks.{NoExample, Either, Behind, Nothing, has_example, without_example, never_empty, behind, clashes}
use Rattle.grammars.proofs.Sets.{front_none, back_none, map_none, when_none, stage_none, not_false, any_of, some_of}

two : {A : Type 0} (xs ys : List A) → xs ++ ys ≡ [] → (xs ≡ []) × (ys ≡ [])
two xs ys e = (front_none xs ys e, back_none xs ys e)

three : {A : Type 0} (xs ys zs : List A) → xs ++ ys ++ zs ≡ [] → (xs ≡ []) × (ys ≡ []) × (zs ≡ [])
three xs ys zs e = let a = two (xs ++ ys) zs e in let b = two xs ys a.0 in (b.0, b.1, a.1)

module _ {T N : Type 0} {Tree : N → Type 0} (lexicon : Lexicon T) (g : Grammar T N Tree) (d : ℕ) where
  abbrev Clear : {A : Type 0} → Rule T N Tree A → Type 0
  Clear r = clashes lexicon g d r ≡ []

  pub sequence_parts : {A B C : Type 0} (f : A → B → C) (p : Rule T N Tree A) (q : Rule T N Tree B) → Clear (sequence f p q) → Clear p × Clear q × (common (goes_on p) (first q) ≡ [])
  sequence_parts f p q e =
      let w = three (clashes lexicon g d p) (clashes lexicon g d q) (behind lexicon g p q) e in
      (w.0, w.1, map_none Behind (common (goes_on p) (first q)) w.2)

  pub split_parts : {A C : Type 0} {Y : ℕ → Type 0} (last : ℕ) (way : A → ℕ) (f : (a : A) → Y (stage last (way a)) → C) (p : Rule T N Tree A) (rules : (s : ℕ) → Rule T N Tree (Y s)) → Clear (split last way f p rules)
      → Clear p × ((s : ℕ) → s ≤ last → Clear (rules s) × (common (goes_on p) (first (rules s)) ≡ []))
  split_parts last way f p rules e =
      let w = two (clashes lexicon g d p) (at_stages (λ s. clashes lexicon g d (rules s) ++ behind lexicon g p (rules s)) last) e in (
        w.0,
        λ s low.
            let v = two (clashes lexicon g d (rules s)) (behind lexicon g p (rules s)) (stage_none (λ s. clashes lexicon g d (rules s) ++ behind lexicon g p (rules s)) last s w.1 low) in
            (v.0, map_none Behind (common (goes_on p) (first (rules s))) v.1),
      )

  pub choice_parts : {A : Type 0} (p q : Rule T N Tree A) → Clear (choice p q) → Clear p × Clear q × (nullable p ≡ false) × (common (first p) (0 ∷ first q) ≡ [])
  choice_parts p q e =
      let w = three (clashes lexicon g d p ++ clashes lexicon g d q) (never_empty lexicon g p) (map Either (common (first p) (0 ∷ first q))) e in
      let v = two (clashes lexicon g d p) (clashes lexicon g d q) w.0 in
      (v.0, v.1, when_none (nullable p) Nothing [] w.1, map_none Either (common (first p) (0 ∷ first q)) w.2)

  pub repeat_parts : {A : Type 0} (p : Rule T N Tree A) → Clear (repeat p) → Clear p × (nullable p ≡ false) × (common (goes_on p) (first p) ≡ [])
  repeat_parts p e =
      let w = three (clashes lexicon g d p) (never_empty lexicon g p) (behind lexicon g p p) e in
      (w.0, when_none (nullable p) Nothing [] w.1, map_none Behind (common (goes_on p) (first p)) w.2)

  pub stage_parts : {A : Type 0} (last : ℕ) (rank : A → ℕ) (rules : ℕ → Rule T N Tree A) → Clear (stages last rank rules) → (s : ℕ) → s ≤ last
      → Clear (rules s) × (nullable (rules s) ≡ false) × ((t : ℕ) → t ≤ last → common (goes_on (rules s)) (first (rules t)) ≡ [])
  stage_parts last rank rules e s low =
      let here = stage_none (λ k. clashes lexicon g d (rules k) ++ never_empty lexicon g (rules k) ++ at_stages (λ t. behind lexicon g (rules k) (rules t)) last) last s e low in
      let w = three (clashes lexicon g d (rules s)) (never_empty lexicon g (rules s)) (at_stages (λ t. behind lexicon g (rules s) (rules t)) last) here in
      (w.0, when_none (nullable (rules s)) Nothing [] w.1, λ t less. map_none Behind (common (goes_on (rules s)) (first (rules t))) (stage_none (λ t. behind lexicon g (rules s) (rules t)) last t w.2 less))

  pub bracket_parts : (opens closes : ℕ) (n : N) → Clear (brackets opens closes n)
      → (without_example lexicon g {A = T} d opens Some ≡ []) × (without_example lexicon g {A = T} (suc d) closes Some ≡ []) × (common (goes_on (g n)) (closes ∷ []) ≡ [])
  bracket_parts opens closes n e =
      let w = three (without_example lexicon g {A = T} d opens Some) (without_example lexicon g {A = T} (suc d) closes Some) (map Behind (common (goes_on (g n)) (closes ∷ []))) e in
      (w.0, w.1, map_none Behind (common (goes_on (g n)) (closes ∷ [])) w.2)

  -- a token of the kind, with its value
  pub example_of : {A : Type 0} (k : ℕ) (f : T → Option A) → without_example lexicon g d k f ≡ [] → (a : A) × (t : T) × (of_kind lexicon d k f t ≡ Some a)
  example_of k f e =
      let there = not_false (has_example lexicon g d k f) (when_none (not (has_example lexicon g d k f)) (NoExample k) [] e) in
      let t = any_of (λ t. is_some (of_kind lexicon d k f t)) (lexicon.examples d k) there in
      let v = some_of (of_kind lexicon d k f t.0) t.1 in
      (v.0, t.0, v.1)

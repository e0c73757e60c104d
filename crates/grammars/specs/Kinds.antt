-- Of a rule: whether it may have no token, with which kinds it may begin, and with which it might go on behind its end.
use Rattle.std.specs.Prelude.{ℕ, zero, suc, Bool, true, false, cond, nat_eq, List, [], ◌∷◌, ◌++◌}
use Rattle.grammars.specs.Grammar.{Rule, empty, token, map, sequence, split, choice, repeat, stages, brackets}

-- whether a kind is among these
abbrev pub holds : List ℕ → ℕ → Bool
holds [] k = false
holds (x ∷ xs) k = cond (nat_eq x k) true (holds xs k)

-- the kinds that are in both
abbrev pub common : List ℕ → List ℕ → List ℕ
common [] ys = []
common (x ∷ xs) ys = cond (holds ys x) (x ∷ common xs ys) (common xs ys)

abbrev pub when : {A : Type 0} → Bool → List A → List A
when true xs = xs
when false xs = []

-- what there is at one of the ways or stages up to the last
abbrev pub at_stages : {A : Type 0} → (ℕ → List A) → ℕ → List A
at_stages f zero = f 0
at_stages f (suc n) = f (suc n) ++ at_stages f n

-- whether it is so at one of them
abbrev pub at_some_stage : (ℕ → Bool) → ℕ → Bool
at_some_stage f zero = f 0
at_some_stage f (suc n) = cond (f (suc n)) true (at_some_stage f n)

abbrev pub at_every_stage : (ℕ → Bool) → ℕ → Bool
at_every_stage f zero = f 0
at_every_stage f (suc n) = cond (f (suc n)) (at_every_stage f n) false

module _ {T N : Type 0} {Tree : N → Type 0} where
  abbrev pub nullable : {A : Type 0} → Rule T N Tree A → Bool
  nullable (empty a) = true
  nullable (token k f) = false
  nullable (map f p) = nullable p
  nullable (sequence f p q) = cond (nullable p) (nullable q) false
  nullable (split last way f p rules) = cond (nullable p) (at_some_stage (λ s. nullable (rules s)) last) false
  nullable (choice p q) = cond (nullable p) true (nullable q)
  nullable (repeat p) = true
  nullable (stages last rank rules) = true
  nullable (brackets opens closes n) = false

  abbrev pub first : {A : Type 0} → Rule T N Tree A → List ℕ
  first (empty a) = []
  first (token k f) = k ∷ []
  first (map f p) = first p
  first (sequence f p q) = first p ++ when (nullable p) (first q)
  first (split last way f p rules) = first p ++ when (nullable p) (at_stages (λ s. first (rules s)) last)
  first (choice p q) = first p ++ first q
  first (repeat p) = first p
  first (stages last rank rules) = at_stages (λ s. first (rules s)) last
  first (brackets opens closes n) = opens ∷ []

  abbrev pub goes_on : {A : Type 0} → Rule T N Tree A → List ℕ
  goes_on (empty a) = []
  goes_on (token k f) = []
  goes_on (map f p) = goes_on p
  goes_on (sequence f p q) = goes_on q ++ when (nullable q) (goes_on p)
  goes_on (split last way f p rules) = at_stages (λ s. goes_on (rules s)) last ++ when (at_some_stage (λ s. nullable (rules s)) last) (goes_on p)
  goes_on (choice p q) = (goes_on p ++ goes_on q) ++ when (nullable q) (first p)
  goes_on (repeat p) = first p ++ goes_on p
  goes_on (stages last rank rules) = at_stages (λ s. first (rules s) ++ goes_on (rules s)) last
  goes_on (brackets opens closes n) = []

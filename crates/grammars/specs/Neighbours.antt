-- Which kinds of tokens stand side by side: so that it can be told from a grammar that no two tokens of a row run into one.
use Rattle.std.specs.Prelude.{ℕ, Bool, cond, List, [], ◌∷◌, ◌++◌}
use Rattle.std.specs.List.{list_all}
use Rattle.reading.specs.Row.{Row}
use Rattle.grammars.specs.Grammar.{Rule, empty, token, map, sequence, split, choice, repeat, stages, brackets, Grammar}
use Rattle.grammars.specs.Kinds.{when, at_stages, at_some_stage, nullable, first}

-- each token of the row and the next
abbrev pub SideBySide : {T : Type 0} → (T → T → Type 0) → Row T → Type 0
SideBySide P [] = Unit {0}
SideBySide P (m ∷ []) = Unit {0}
SideBySide P (m ∷ n ∷ row) = P m.token n.token × SideBySide P (n ∷ row)

-- the kinds of the first set that must not stand before some kind of the second
abbrev pub clashing : (ℕ → ℕ → Bool) → List ℕ → List ℕ → List ℕ
clashing parted [] ys = []
clashing parted (x ∷ xs) ys = cond (list_all (parted x) ys) (clashing parted xs ys) (x ∷ clashing parted xs ys)

module _ {T N : Type 0} {Tree : N → Type 0} where
  -- the kinds with which a rule may end
  abbrev pub last : {A : Type 0} → Rule T N Tree A → List ℕ
  last (empty a) = []
  last (token k f) = k ∷ []
  last (map f p) = last p
  last (sequence f p q) = last q ++ when (nullable q) (last p)
  last (split end way f p rules) = at_stages (λ s. last (rules s)) end ++ when (at_some_stage (λ s. nullable (rules s)) end) (last p)
  last (choice p q) = last p ++ last q
  last (repeat p) = last p
  last (stages end rank rules) = at_stages (λ s. last (rules s)) end
  last (brackets opens closes n) = closes ∷ []

  -- the kinds that stand before one that they must not
  abbrev pub meetings : {A : Type 0} → (ℕ → ℕ → Bool) → Grammar T N Tree → Rule T N Tree A → List ℕ
  meetings parted g (empty a) = []
  meetings parted g (token k f) = []
  meetings parted g (map f p) = meetings parted g p
  meetings parted g (sequence f p q) = meetings parted g p ++ meetings parted g q ++ clashing parted (last p) (first q)
  meetings parted g (split end way f p rules) = meetings parted g p ++ at_stages (λ s. meetings parted g (rules s) ++ clashing parted (last p) (first (rules s))) end
  meetings parted g (choice p q) = meetings parted g p ++ meetings parted g q
  meetings parted g (repeat p) = meetings parted g p ++ clashing parted (last p) (first p)
  meetings parted g (stages end rank rules) = at_stages (λ s. meetings parted g (rules s)) end ++ clashing parted (at_stages (λ s. last (rules s)) end) (at_stages (λ s. first (rules s)) end)
  meetings parted g (brackets opens closes n) = clashing parted (opens ∷ []) (first (g n)) ++ clashing parted (last (g n)) (closes ∷ []) ++ clashing parted (opens ∷ []) (closes ∷ [])

-- The scalars in a row of bytes: what one at an offset is, what it becomes when a value is written to it, and what a list of them shows.
use Rattle.std.specs.Prelude.{ℕ, zero, suc, List, [], ◌∷◌, map, take, drop, Option}
use Rattle.c_memory.specs.Representations.{Representation}

-- `es` in place of as many bytes from o on
abbrev pub over : {B : Type 0} → ℕ → List B → List B → List B
over zero [] bs = bs
over zero (e ∷ es) [] = []
over zero (e ∷ es) (b ∷ bs) = e ∷ over zero es bs
over (suc o) es [] = []
over (suc o) es (b ∷ bs) = b ∷ over o es bs

-- a scalar has its offset beside it
module _ {S V B : Type 0} (r : Representation S V B) where
  -- its value, none where a byte of it is indeterminate
  abbrev pub scalar_in : List B → ℕ × S → Option V
  scalar_in bs x = r.codec.decode x.1 (take (r.metric.width x.1) (drop x.0 bs))

  abbrev pub seen : List B → List (ℕ × S) → List (Option V)
  seen bs xs = map (scalar_in bs) xs

  abbrev pub with_scalar : List B → ℕ × S → V → List B
  with_scalar bs x v = over x.0 (r.codec.encode x.1 v) bs

  -- with values for the first of several
  abbrev pub with_scalars : List B → List (ℕ × S) → List V → List B
  with_scalars bs [] vs = bs
  with_scalars bs (x ∷ xs) [] = bs
  with_scalars bs (x ∷ xs) (v ∷ vs) = with_scalars (with_scalar bs x v) xs vs

-- as many values as scalars, each of which its scalar can hold
abbrev pub EachFits : {S V : Type 0} → (S → V → Type 0) → List (ℕ × S) → List V → Type 0
EachFits Ok [] [] = Unit {0}
EachFits Ok [] (v ∷ vs) = ⊥
EachFits Ok (x ∷ xs) [] = ⊥
EachFits Ok (x ∷ xs) (v ∷ vs) = Ok x.1 v × EachFits Ok xs vs

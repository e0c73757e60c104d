-- Values of types: what each cell holds, in the form of the type; the value of a part, and another put in its place.
use Rattle.std.specs.Prelude.{ℕ, zero, suc, List, [], ◌∷◌, ◌++◌, Option, Some, None}
use Rattle.type_trees.specs.Trees.{Tree, Leaf, Many, Struct, Row, End, Field}

-- V is what a cell holds
mutual
  -- a cell, or the values of an array's elements or of a struct's members
  pub data Value (V : Type 0) : Type 0 where
    Cell : V → Value V
    Parts : Values V → Value V

  pub data Values (V : Type 0) : Type 0 where
    Nil : Values V
    Cons : Value V → Values V → Values V

-- what the cells hold, in order
abbrev mutual
  pub cells : {V : Type 0} → Value V → List V
  cells (Cell x) = x ∷ []
  cells (Parts vs) = cells_row vs

  pub cells_row : {V : Type 0} → Values V → List V
  cells_row Nil = []
  cells_row (Cons v vs) = cells v ++ cells_row vs

-- the value of the part to which a path leads
abbrev mutual
  pub at : {V : Type 0} → Value V → List ℕ → Option (Value V)
  at v [] = Some v
  at (Cell x) (i ∷ p) = None
  at (Parts vs) (i ∷ p) = at_row vs i p

  pub at_row : {V : Type 0} → Values V → ℕ → List ℕ → Option (Value V)
  at_row Nil i p = None
  at_row (Cons v vs) zero p = at v p
  at_row (Cons v vs) (suc i) p = at_row vs i p

-- the value with another in that part's place
abbrev mutual
  pub put : {V : Type 0} → Value V → List ℕ → Value V → Value V
  put v [] w = w
  put (Cell x) (i ∷ p) w = Cell x
  put (Parts vs) (i ∷ p) w = Parts (put_row vs i p w)

  pub put_row : {V : Type 0} → Values V → ℕ → List ℕ → Value V → Values V
  put_row Nil i p w = Nil
  put_row (Cons v vs) zero p w = Cons (put v p w) vs
  put_row (Cons v vs) (suc i) p w = Cons v (put_row vs i p w)

-- ---- values of a type

-- n values, each with P
abbrev pub EachOf : {V : Type 0} → ℕ → (Value V → Type 0) → Values V → Type 0
EachOf zero P Nil = Unit {0}
EachOf zero P (Cons v vs) = ⊥
EachOf (suc n) P Nil = ⊥
EachOf (suc n) P (Cons v vs) = P v × EachOf n P vs

-- where `Holds` says what a scalar's cell may hold
module _ {S N V : Type 0} (Holds : S → V → Type 0) where
  abbrev mutual
    -- the value has the form of the type, and each cell holds what its scalar may
    pub Fits : Tree S N → Value V → Type 0
    Fits (Leaf s) (Cell x) = Holds s x
    Fits (Leaf s) (Parts vs) = ⊥
    Fits (Many n a) (Cell x) = ⊥
    Fits (Many n a) (Parts vs) = EachOf n (Fits a) vs
    Fits (Struct k r) (Cell x) = ⊥
    Fits (Struct k r) (Parts vs) = FitsRow r vs

    pub FitsRow : Row S N → Values V → Type 0
    FitsRow End Nil = Unit {0}
    FitsRow End (Cons v vs) = ⊥
    FitsRow (Field f a r) Nil = ⊥
    FitsRow (Field f a r) (Cons v vs) = Fits a v × FitsRow r vs

-- the value has the form of the type, whatever its cells hold
abbrev pub HasForm : {S N V : Type 0} → Tree S N → Value V → Type 0
HasForm a v = Fits (λ s x. Unit {0}) a v

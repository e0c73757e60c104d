-- Objects with first values (C99 6.7.8): an initializer's elements in order, and zero where it has none. The bytes between scalars
-- stay indeterminate.
use Rattle.std.specs.Prelude.{ℕ, zero, suc, List, [], ◌∷◌, ◌++◌, Bool, true}
use Rattle.type_trees.specs.Trees.{Tree, Leaf, Many, Struct, Row, End, Field}
use Rattle.type_trees.specs.Layouts.{lay}
use Rattle.type_trees.specs.Values.{Value, Cell, Parts, Values, Nil, Cons}
use Rattle.c_memory.specs.Representations.{Representation}
use Rattle.c_memory.specs.Objects.{Object, Objects}
use Rattle.c_memory.specs.Seen.{with_scalars}
use Rattle.c_memory.specs.Blocks.{blank_bytes}

-- ---- the object

module _ {S N V B : Type 0} (r : Representation S V B) where
  -- with these values in its scalars, in order
  abbrev pub initialized : Tree S N → Bool → List V → Object S N B
  initialized a constant vs = record { type = a; constant = constant; live = true; bytes = with_scalars r (blank_bytes r a) (lay r.metric a 0) vs }

  abbrev pub initialize : Objects S N B → Tree S N → Bool → List V → Objects S N B
  initialize mem a constant vs = mem ++ initialized a constant vs ∷ []

-- ---- the value

mutual
  -- a value, `{0}`, or one for each element or member in order
  pub data Init (V : Type 0) : Type 0 where
    One : V → Init V
    Zero : Init V
    Braces : Inits V → Init V

  pub data Inits (V : Type 0) : Type 0 where
    Done : Inits V
    More : Init V → Inits V → Inits V

abbrev pub copies_of : {V : Type 0} → ℕ → Value V → Values V
copies_of zero v = Nil
copies_of (suc n) v = Cons v (copies_of n v)

-- n elements, the missing ones zero
abbrev pub elements : {V : Type 0} → ℕ → (Init V → Value V) → Value V → Inits V → Values V
elements zero f z is = Nil
elements (suc n) f z Done = Cons z (copies_of n z)
elements (suc n) f z (More i is) = Cons (f i) (elements n f z is)

-- where `nought` is a scalar's zero
module _ {S N V : Type 0} (nought : S → V) where
  abbrev mutual
    pub zeros : Tree S N → Value V
    zeros (Leaf s) = Cell (nought s)
    zeros (Many n a) = Parts (copies_of n (zeros a))
    zeros (Struct k r) = Parts (zeros_row r)

    pub zeros_row : Row S N → Values V
    zeros_row End = Nil
    zeros_row (Field f a r) = Cons (zeros a) (zeros_row r)

  -- what an initializer gives for a type
  abbrev mutual
    pub initial : Tree S N → Init V → Value V
    initial (Leaf s) (One v) = Cell v
    initial (Leaf s) Zero = Cell (nought s)
    initial (Leaf s) (Braces is) = Cell (nought s)
    initial (Many n a) (Braces is) = Parts (elements n (initial a) (zeros a) is)
    initial (Many n a) Zero = zeros (Many n a)
    initial (Many n a) (One v) = zeros (Many n a)
    initial (Struct k r) (Braces is) = Parts (initial_row r is)
    initial (Struct k r) Zero = zeros (Struct k r)
    initial (Struct k r) (One v) = zeros (Struct k r)

    pub initial_row : Row S N → Inits V → Values V
    initial_row End is = Nil
    initial_row (Field f a r) Done = Cons (zeros a) (zeros_row r)
    initial_row (Field f a r) (More i is) = Cons (initial a i) (initial_row r is)

-- ---- initializers of a type

-- n at most, each with P
abbrev pub EachInit : {V : Type 0} → ℕ → (Init V → Type 0) → Inits V → Type 0
EachInit n P Done = Unit {0}
EachInit zero P (More i is) = ⊥
EachInit (suc n) P (More i is) = P i × EachInit n P is

-- where `Can` says which values a scalar can hold
module _ {S N V : Type 0} (Can : S → V → Type 0) where
  abbrev mutual
    -- a value for a scalar, `{0}` or braces for others, and no more elements than there are places
    pub IsInit : Tree S N → Init V → Type 0
    IsInit (Leaf s) (One v) = Can s v
    IsInit (Leaf s) Zero = ⊥
    IsInit (Leaf s) (Braces is) = ⊥
    IsInit (Many n a) (One v) = ⊥
    IsInit (Many n a) Zero = Unit {0}
    IsInit (Many n a) (Braces is) = EachInit n (IsInit a) is
    IsInit (Struct k r) (One v) = ⊥
    IsInit (Struct k r) Zero = Unit {0}
    IsInit (Struct k r) (Braces is) = AreInits r is

    pub AreInits : Row S N → Inits V → Type 0
    AreInits r Done = Unit {0}
    AreInits End (More i is) = ⊥
    AreInits (Field f a r) (More i is) = IsInit a i × AreInits r is

-- the initializer that has every element of a value
abbrev mutual
  pub spelled_out : {V : Type 0} → Value V → Init V
  spelled_out (Cell v) = One v
  spelled_out (Parts vs) = Braces (each_spelled_out vs)

  pub each_spelled_out : {V : Type 0} → Values V → Inits V
  each_spelled_out Nil = Done
  each_spelled_out (Cons v vs) = More (spelled_out v) (each_spelled_out vs)

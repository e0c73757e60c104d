-- Whether a part of a wanted type begins at an offset: where a pointer that is cast to that type must lead (C99 6.3.2.3 asks less).
use Rattle.std.specs.Prelude.{◌≡◌, ℕ, zero, suc, ◌+◌, ◌==◌, List, Option, Some, None, Bool, true, false, ◌&&◌, ◌||◌, if◌then◌else◌, slice_get}
use Rattle.type_trees.specs.Trees.{Tree, Leaf, Many, Struct, Row, End, Field, part}
use Rattle.type_trees.specs.Multiples.{up}
use Rattle.type_trees.specs.Layouts.{Metric, align, size, offset}
use Rattle.c_memory.specs.Objects.{Object, Objects}
use Rattle.c_memory.specs.Access.{Fault, Dead, BadAccess}

-- one of n that begin w apart, from b on, has what `f` tests
abbrev pub any_of : ℕ → (ℕ → Bool) → ℕ → ℕ → Bool
any_of zero f w b = false
any_of (suc n) f w b = f b || any_of n f w (b + w)

module _ {S N : Type 0} (m : Metric S) (wanted : Tree S N → Bool) (o : ℕ) where
  abbrev mutual
    -- a wanted part of the type, which begins at b, begins at o
    pub stands : Tree S N → ℕ → Bool
    stands (Leaf s) b = wanted (Leaf s) && (b == o)
    stands (Many n a) b = (wanted (Many n a) && (b == o)) || any_of n (stands a) (size m a) b
    stands (Struct k r) b = (wanted (Struct k r) && (b == o)) || stands_row r b 0

    pub stands_row : Row S N → ℕ → ℕ → Bool
    stands_row End b e = false
    stands_row (Field f a r) b e = stands a (b + up e (align m a)) || stands_row r b (up e (align m a) + size m a)

-- a path that leads to it
pub record StandsAt {S N : Type 0} (m : Metric S) (wanted : Tree S N → Bool) (o : ℕ) (a : Tree S N) (b : ℕ) : Type 0 where
  pub path : List ℕ
  pub content : Tree S N
  pub leads : part a path ≡ Some content
  pub is : wanted content ≡ true
  pub place : o ≡ b + offset m a path

-- why a pointer to that offset of an object may not be cast
module _ {S N B : Type 0} (m : Metric S) (wanted : Tree S N → Bool) where
  abbrev pub cast_fault : Option (Object S N B) → ℕ → Option Fault
  cast_fault None o = Some Dead
  cast_fault (Some ob) o = if ob.live then if stands m wanted o ob.type 0 then None else Some BadAccess else Some Dead

  abbrev pub refuses_cast : Objects S N B → ℕ → ℕ → Option Fault
  refuses_cast mem q o = cast_fault (slice_get mem q) o

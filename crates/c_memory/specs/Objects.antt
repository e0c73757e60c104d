-- Objects (C99 6.2.4, 6.2.6.1): each has a type, may be const and may have ended, and is made of bytes. An object's number is its place
-- among all that were ever made, so no number is used twice.
use Rattle.std.specs.Prelude.{ℕ, List, Option, Some, None, Bool, false, slice_get}
use Rattle.type_trees.specs.Trees.{Tree}

pub record Object (S N B : Type 0) : Type 0 where
  pub type : Tree S N
  pub constant : Bool
  pub live : Bool
  pub bytes : List B

abbrev pub Objects : Type 0 → Type 0 → Type 0 → Type 0
Objects S N B = List (Object S N B)

abbrev pub lives : {S N B : Type 0} → Option (Object S N B) → Bool
lives None = false
lives (Some ob) = ob.live

abbrev pub is_live : {S N B : Type 0} → Objects S N B → ℕ → Bool
is_live mem o = lives (slice_get mem o)

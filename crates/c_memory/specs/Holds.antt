-- What an object shows, and when it holds a value: it lives, has the type and its size, and its scalars in order are the value's cells.
use Rattle.std.specs.Prelude.{◌≡◌, ℕ, List, length, map, Option, Some, Bool, true, slice_get}
use Rattle.type_trees.specs.Trees.{Tree}
use Rattle.type_trees.specs.Layouts.{lay, size}
use Rattle.type_trees.specs.Values.{Value, Fits, cells}
use Rattle.c_memory.specs.Representations.{Representation}
use Rattle.c_memory.specs.Objects.{Object, Objects}
use Rattle.c_memory.specs.Seen.{seen}
use Rattle.c_memory.specs.Abstract.{Operations}

module _ {S N V B : Type 0} (r : Representation S V B) where
  -- its scalars in order have these values, none where one is indeterminate
  pub record ShowsValues (a : Tree S N) (us : List (Option V)) (ob : Object S N B) : Type 0 where
    pub live : ob.live ≡ true
    pub type : ob.type ≡ a
    pub room : size r.metric a ≡ length ob.bytes
    pub same : seen r ob.bytes (lay r.metric a 0) ≡ us

  -- object o of the memory does
  pub record ShowsAt (mem : Objects S N B) (o : ℕ) (c : Bool) (a : Tree S N) (us : List (Option V)) : Type 0 where
    pub object : Object S N B
    pub is : slice_get mem o ≡ Some object
    pub constant : object.constant ≡ c
    pub shows : ShowsValues a us object

-- Object o of a memory holds a value of type a, each cell w as the value `f w`, which its scalar can hold.
pub record Holds {S N V W : Type 0} (Can : S → V → Type 0) (f : W → V) (M : Operations S N V) (mem : M.Memory) (o : ℕ) (c : Bool) (a : Tree S N) (v : Value W) : Type 0 where
  pub fits : Fits (λ s w. Can s (f w)) a v
  pub shows : M.Shows mem o c a (map (λ w. Some (f w)) (cells v))

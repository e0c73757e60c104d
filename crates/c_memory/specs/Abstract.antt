-- Memory without bytes: its operations, and the laws by which alone the layers above know it.
use Rattle.std.specs.Prelude.{◌≡◌, ◌≢◌, ℕ, suc, ◌<◌, ◌≤◌, List, ◌∷◌, ◌++◌, length, map, Option, Some, None, Result, Ok, Err, Bool, true, false}
use Rattle.type_trees.specs.Trees.{Tree}
use Rattle.type_trees.specs.Layouts.{Metric, lay}
use Rattle.c_memory.specs.Seen.{EachFits}
use Rattle.c_memory.specs.Access.{Fault, Dead, BadAccess, ConstWrite, known}
use Rattle.c_memory.specs.Copies.{Apart}

-- over scalars S, names N and values V; a scalar has its offset in its object beside it
pub record Operations (S N V : Type 0) : Type 1 where
  pub Memory : Type 0
  -- how many objects were made, which is the number of the next
  pub count : Memory → ℕ
  pub live : Memory → ℕ → Bool
  pub read : Memory → ℕ → ℕ × S → Result V Fault
  -- why a write may not be, whatever is to be written
  pub refuses : Memory → ℕ → ℕ × S → Option Fault
  pub write : Memory → ℕ → ℕ × S → V → Result Memory Fault
  -- an object without values, and one with first values, const or not
  pub create : Memory → Tree S N → Memory
  pub initialize : Memory → Tree S N → Bool → List V → Memory
  -- the end of a block that began when so many objects were made
  pub leave : ℕ → Memory → Memory
  -- The object lives, is const or not, has the type, and its scalars in order have these values: none where one is indeterminate.
  pub Shows : Memory → ℕ → Bool → Tree S N → List (Option V) → Type 0

module _ {S N V : Type 0} (m : Metric S) (M : Operations S N V) where
  -- object q is the same in two memories
  pub record Same (mem new : M.Memory) (q : ℕ) : Type 0 where
    pub live : M.live new q ≡ M.live mem q
    pub reads : (x : ℕ × S) → M.read new q x ≡ M.read mem q x
    pub refuses : (x : ℕ × S) → M.refuses new q x ≡ M.refuses mem q x
    pub shows : (c : Bool) (a : Tree S N) (us : List (Option V)) → M.Shows mem q c a us → M.Shows new q c a us

  -- scalar x has the value u in an object that shows `before`, u and `after`
  pub record At (a : Tree S N) (x : ℕ × S) (before after : List (Option V)) : Type 0 where
    pub left : List (ℕ × S)
    pub right : List (ℕ × S)
    pub is : lay m a 0 ≡ left ++ x ∷ right
    pub number : length left ≡ length before

  -- no such scalar is laid out
  abbrev pub Unlaid : Tree S N → ℕ × S → Type 0
  Unlaid a x = (left right : List (ℕ × S)) → lay m a 0 ≡ left ++ x ∷ right → ⊥

  -- v stands in the scalar between those before and those after
  pub record Written (mem : M.Memory) (o : ℕ) (a : Tree S N) (x : ℕ × S) (before : List (Option V)) (v : V) (after : List (Option V)) : Type 0 where
    pub new : M.Memory
    pub is : M.write mem o x v ≡ Ok new
    pub shows : M.Shows new o false a (before ++ Some v ∷ after)

  -- a further object, which shows `us`, and all others as before
  pub record Made (mem new : M.Memory) (c : Bool) (a : Tree S N) (us : List (Option V)) : Type 0 where
    pub count : M.count new ≡ suc (M.count mem)
    pub shows : M.Shows new (M.count mem) c a us
    pub others : (q : ℕ) → q < M.count mem → Same mem new q

  -- those made since have ended, and all others are as before
  pub record Left (mem : M.Memory) (made_before : ℕ) (new : M.Memory) : Type 0 where
    pub count : M.count new ≡ M.count mem
    pub ended : (q : ℕ) → made_before ≤ q → M.live new q ≡ false
    pub others : (q : ℕ) → q < made_before → Same mem new q

-- where `Can` says which values a scalar can hold
pub record Lawful {S N V : Type 0} (m : Metric S) (Can : S → V → Type 0) (M : Operations S N V) : Type 0 where
  pub lives : (mem : M.Memory) (o : ℕ) (c : Bool) (a : Tree S N) (us : List (Option V)) → M.Shows mem o c a us → M.live mem o ≡ true
  pub numbered : (mem : M.Memory) (o : ℕ) → M.live mem o ≡ true → o < M.count mem
  -- an object shows one thing, with a value for each scalar of its type
  pub alone : (mem : M.Memory) (o : ℕ) (c d : Bool) (a b : Tree S N) (us ws : List (Option V)) → M.Shows mem o c a us → M.Shows mem o d b ws → (c ≡ d) × (a ≡ b) × (us ≡ ws)
  pub whole : (mem : M.Memory) (o : ℕ) (c : Bool) (a : Tree S N) (us : List (Option V)) → M.Shows mem o c a us → length us ≡ length (lay m a 0)
  -- a read gives what the scalar shows
  pub reads : (mem : M.Memory) (o : ℕ) (c : Bool) (a : Tree S N) (x : ℕ × S) (before after : List (Option V)) (u : Option V)
      → M.Shows mem o c a (before ++ u ∷ after) → At m M a x before after → M.read mem o x ≡ known u
  pub unlaid_reads : (mem : M.Memory) (o : ℕ) (c : Bool) (a : Tree S N) (us : List (Option V)) (x : ℕ × S)
      → M.Shows mem o c a us → Unlaid m M a x → M.read mem o x ≡ Err BadAccess
  pub dead_reads : (mem : M.Memory) (o : ℕ) (x : ℕ × S) → M.live mem o ≡ false → M.read mem o x ≡ Err Dead
  -- a write changes what the scalar shows, and nothing else
  pub writes : (mem : M.Memory) (o : ℕ) (a : Tree S N) (x : ℕ × S) (before after : List (Option V)) (u : Option V) (v : V)
      → M.Shows mem o false a (before ++ u ∷ after) → At m M a x before after → Can x.1 v → Written m M mem o a x before v after
  pub scalars_stay : (mem new : M.Memory) (o : ℕ) (x : ℕ × S) (v : V) (y : ℕ × S) → M.write mem o x v ≡ Ok new → Apart m x y → M.read new o y ≡ M.read mem o y
  pub others_stay : (mem new : M.Memory) (o : ℕ) (x : ℕ × S) (v : V) (q : ℕ) → M.write mem o x v ≡ Ok new → q ≢ o → Same m M mem new q
  pub count_stays : (mem new : M.Memory) (o : ℕ) (x : ℕ × S) (v : V) → M.write mem o x v ≡ Ok new → M.count new ≡ M.count mem
  pub refusals : (mem : M.Memory) (o : ℕ) (x : ℕ × S) (v : V) (fault : Fault) → M.refuses mem o x ≡ Some fault → M.write mem o x v ≡ Err fault
  pub grants : (mem : M.Memory) (o : ℕ) (x : ℕ × S) (v : V) → M.refuses mem o x ≡ None → (new : M.Memory) × (M.write mem o x v ≡ Ok new)
  pub unlaid_writes : (mem : M.Memory) (o : ℕ) (c : Bool) (a : Tree S N) (us : List (Option V)) (x : ℕ × S) (v : V)
      → M.Shows mem o c a us → Unlaid m M a x → M.write mem o x v ≡ Err BadAccess
  pub const_writes : (mem : M.Memory) (o : ℕ) (a : Tree S N) (x : ℕ × S) (before after : List (Option V)) (u : Option V) (v : V)
      → M.Shows mem o true a (before ++ u ∷ after) → At m M a x before after → M.write mem o x v ≡ Err ConstWrite
  pub dead_writes : (mem : M.Memory) (o : ℕ) (x : ℕ × S) (v : V) → M.live mem o ≡ false → M.write mem o x v ≡ Err Dead
  -- objects made, and those that end with a block
  pub creates : (mem : M.Memory) (a : Tree S N) → Made m M mem (M.create mem a) false a (map (λ x. None) (lay m a 0))
  pub initializes : (mem : M.Memory) (a : Tree S N) (c : Bool) (vs : List V) → EachFits Can (lay m a 0) vs → Made m M mem (M.initialize mem a c vs) c a (map Some vs)
  pub leaves : (mem : M.Memory) (made_before : ℕ) → Left m M mem made_before (M.leave made_before mem)

-- What holds of objects that hold values, in any memory that keeps the laws: reads, stores, copies, replies, first values, blocks.
use Rattle.std.specs.Prelude.{◌≡◌, ◌≢◌, ℕ, ◌<◌, List, [], ◌∷◌, map, Option, Some, Result, Ok, Err, Bool, false}
use Rattle.type_trees.specs.Trees.{Tree, Leaf, part}
use Rattle.type_trees.specs.Layouts.{Metric, lay, offset}
use Rattle.type_trees.specs.Values.{Value, Cell, Fits, cells, at, put}
use Rattle.c_memory.specs.Seen.{EachFits}
use Rattle.c_memory.specs.Access.{Fault, Indeterminate}
use Rattle.c_memory.specs.Copies.{read_each, write_each, copy_each, rebuilt}
use Rattle.c_memory.specs.Abstract.{Operations, Same}
use Rattle.c_memory.specs.Holds.{Holds}

-- where each cell w is held as the value `f w`, and `Can` says which values a scalar can hold
module _ {S N V W : Type 0} (m : Metric S) (Can : S → V → Type 0) (f : W → V) (M : Operations S N V) where
  -- the scalars of the part of type b to which a path leads
  abbrev pub part_scalars : Tree S N → List ℕ → Tree S N → List (ℕ × S)
  part_scalars a p b = lay m b (offset m a p)

  abbrev pub FitsType : Tree S N → Value W → Type 0
  FitsType a v = Fits (λ s w. Can s (f w)) a v

  -- what was done succeeds, object o then holds v, and no other object has changed
  pub record Stored (done : Result M.Memory Fault) (mem : M.Memory) (o : ℕ) (a : Tree S N) (v : Value W) : Type 0 where
    pub new : M.Memory
    pub is : done ≡ Ok new
    pub holds : Holds Can f M new o false a v
    pub others : (q : ℕ) → q ≢ o → Same m M mem new q
    pub count : M.count new ≡ M.count mem

  pub record LawfulValues : Type 0 where
    -- a read gives the cell, and a write is a store to it
    pub cell_read : (mem : M.Memory) (o : ℕ) (c : Bool) (a : Tree S N) (v : Value W) (p : List ℕ) (s : S) (w : W)
        → Holds Can f M mem o c a v → part a p ≡ Some (Leaf s) → at v p ≡ Some (Cell w) → M.read mem o (offset m a p, s) ≡ Ok (f w)
    pub cell_written : (mem : M.Memory) (o : ℕ) (a : Tree S N) (v : Value W) (p : List ℕ) (s : S) (w : W)
        → Holds Can f M mem o false a v → part a p ≡ Some (Leaf s) → Can s (f w) → Stored (M.write mem o (offset m a p, s) (f w)) mem o a (put v p (Cell w))
    pub written_read : (mem new : M.Memory) (o : ℕ) (a : Tree S N) (v : Value W) (p : List ℕ) (s : S) (w : W)
        → Holds Can f M mem o false a v → part a p ≡ Some (Leaf s) → Can s (f w) → M.write mem o (offset m a p, s) (f w) ≡ Ok new → M.read new o (offset m a p, s) ≡ Ok (f w)
    -- the scalars of a part are the cells of its value, and to write them all is to put another in its place
    pub part_read : (mem : M.Memory) (o : ℕ) (c : Bool) (a : Tree S N) (v : Value W) (p : List ℕ) (b : Tree S N) (u : Value W)
        → Holds Can f M mem o c a v → part a p ≡ Some b → at v p ≡ Some u → read_each M.read mem o (part_scalars a p b) ≡ Ok (map f (cells u))
    pub part_written : (mem : M.Memory) (o : ℕ) (a : Tree S N) (v : Value W) (p : List ℕ) (b : Tree S N) (u : Value W)
        → Holds Can f M mem o false a v → part a p ≡ Some b → FitsType b u → Stored (write_each M.write mem o (part_scalars a p b) (map f (cells u))) mem o a (put v p u)
    pub reply_written : (mem : M.Memory) (o : ℕ) (a : Tree S N) (v : Value W) (p : List ℕ) (b : Tree S N) (ws : List W)
        → Holds Can f M mem o false a v → part a p ≡ Some b → EachFits Can (part_scalars a p b) (map f ws)
        → Stored (write_each M.write mem o (part_scalars a p b) (map f ws)) mem o a (put v p (rebuilt b ws))
    -- A copy scalar by scalar puts at once what the other part held before: of two objects, of one object, or of the same part.
    pub copied : (mem : M.Memory) (o : ℕ) (a : Tree S N) (v : Value W) (p : List ℕ) (b : Tree S N)
        → (q : ℕ) (d : Bool) (e : Tree S N) (x : Value W) (k : List ℕ) (u : Value W)
        → Holds Can f M mem o false a v → part a p ≡ Some b → Holds Can f M mem q d e x → part e k ≡ Some b → at x k ≡ Some u
        → Stored (copy_each M.read M.write mem o (part_scalars a p b) q (part_scalars e k b)) mem o a (put v p u)
    -- an object with first values holds them, and one without is indeterminate until its scalar is written
    pub first_values : (mem : M.Memory) (a : Tree S N) (c : Bool) (v : Value W)
        → FitsType a v → Holds Can f M (M.initialize mem a c (map f (cells v))) (M.count mem) c a v
    pub no_values : (mem : M.Memory) (a : Tree S N) (p : List ℕ) (s : S)
        → part a p ≡ Some (Leaf s) → M.read (M.create mem a) (M.count mem) (offset m a p, s) ≡ Err Indeterminate
    pub first_write : (mem : M.Memory) (o : ℕ) (s : S) (u : Option V) (w : W)
        → M.Shows mem o false (Leaf s) (u ∷ []) → Can s (f w) → Stored (M.write mem o (0, s) (f w)) mem o (Leaf s) (Cell w)
    -- what is the same object holds the same value; at a block's end those are that were there before it
    pub unchanged : (mem new : M.Memory) (o : ℕ) (c : Bool) (a : Tree S N) (v : Value W)
        → Holds Can f M mem o c a v → Same m M mem new o → Holds Can f M new o c a v
    pub block_left : (mem : M.Memory) (made_before o : ℕ) (c : Bool) (a : Tree S N) (v : Value W)
        → Holds Can f M mem o c a v → o < made_before → Holds Can f M (M.leave made_before mem) o c a v

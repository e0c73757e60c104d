-- What each act on both sides keeps of a memory that is alike to the areas. All is said over any memory that keeps the laws of memory.
use Rattle.std.specs.Prelude.{◌≡◌, ◌≢◌, ℕ, suc, ◌<◌, ◌≤◌, ℤ, List, [], ◌∷◌, ◌++◌, length, Bool, true, false, slice_get, Option, Some, None, Ok}
use Rattle.type_trees.specs.Trees.{Leaf, count, part}
use Rattle.type_trees.specs.Layouts.{Metric}
use Rattle.type_trees.specs.Values.{Cell, cells, at}
use Rattle.area_types.specs.Syntax.{ValueType}
use Rattle.area_types.specs.Trees.{Written}
use Rattle.c_memory.specs.Abstract.{Operations, Same, Made}
use Rattle.c_memory.specs.Copies.{read_each, write_each, copy_each}
use Rattle.c_ast.specs.declared.CScalar.{CScalar}
use Rattle.c_ast.specs.Scalars.{metric}
use Rattle.c_ast.specs.Structs.{CTree}
use Rattle.c_ast.specs.Syntax.{Name}
use Rattle.c_ast.specs.Targets.{TargetTable}
use Rattle.core_meaning.specs.Areas.{Held, Area, Areas, Live, filled, put_at, mark_from, take_from}
use Rattle.area_objects.specs.Shapes.{Naming, shape, place, part_scalars}
use Rattle.area_objects.specs.Holds.{CellsFit, memory_in, CanHold}
use Rattle.area_objects.specs.Both.{Map, LiveIn, Both, Done}

module _ (m : Metric CScalar) (Can : CScalar → ℤ → Type 0) (M : Operations CScalar Name ℤ) (g : Naming) where
  -- ---- reads and writes

  -- the object of a live area lives
  abbrev pub ObjectsLive : Type 0
  ObjectsLive = (objects : Map) (areas : Areas) (mem : M.Memory) (k o : ℕ) (a : Area) → Both Can M g objects areas mem → LiveIn objects areas k o a → M.live mem o ≡ true

  -- a part that is a leaf reads as its number, which its scalar can hold
  abbrev pub CellsRead : Type 0
  CellsRead =
      (objects : Map) (areas : Areas) (mem : M.Memory) (k o : ℕ) (a : Area) (p : List ℕ) (s : ValueType) (n : ℤ)
      → Both Can M g objects areas mem → LiveIn objects areas k o a → part a.ty p ≡ Some (Leaf s) → at a.held p ≡ Some (Cell n)
      → (M.read mem o (place m g a.ty p, g.scalar s) ≡ Ok n) × Can (g.scalar s) n

  -- a store of a number is a write of it, which is not refused, since the area is not const
  abbrev pub CellsStored : Type 0
  CellsStored =
      (objects : Map) (areas : Areas) (mem : M.Memory) (k o : ℕ) (a : Area) (p : List ℕ) (s : ValueType) (n : ℤ)
      → Both Can M g objects areas mem → LiveIn objects areas k o a → a.constant ≡ false → part a.ty p ≡ Some (Leaf s) → Can (g.scalar s) n
      → (M.refuses mem o (place m g a.ty p, g.scalar s) ≡ None) × Done m Can M g (M.write mem o (place m g a.ty p, g.scalar s) n) mem o objects (put_at k p (Cell n) areas)

  -- the scalars of a part read as its cells: what an import sees
  abbrev pub PartsSeen : Type 0
  PartsSeen =
      (objects : Map) (areas : Areas) (mem : M.Memory) (k o : ℕ) (a : Area) (p : List ℕ) (b : Written) (u : Held)
      → Both Can M g objects areas mem → LiveIn objects areas k o a → part a.ty p ≡ Some b → at a.held p ≡ Some u
      → read_each M.read mem o (part_scalars m g a.ty p b) ≡ Ok (cells u)

  -- another value in the place of a part is its cells, written one after another
  abbrev pub PartsPut : Type 0
  PartsPut =
      (objects : Map) (areas : Areas) (mem : M.Memory) (k o : ℕ) (a : Area) (p : List ℕ) (b : Written) (u : Held)
      → Both Can M g objects areas mem → LiveIn objects areas k o a → a.constant ≡ false → part a.ty p ≡ Some b → CellsFit Can g b u
      → Done m Can M g (write_each M.write mem o (part_scalars m g a.ty p b) (cells u)) mem o objects (put_at k p u areas)

  -- so are the numbers of a reply, of which there may be more than the part has cells
  abbrev pub RepliesWritten : Type 0
  RepliesWritten =
      (objects : Map) (areas : Areas) (mem : M.Memory) (k o : ℕ) (a : Area) (p : List ℕ) (b : Written) (vs : List ℤ)
      → Both Can M g objects areas mem → LiveIn objects areas k o a → a.constant ≡ false → part a.ty p ≡ Some b → count b ≤ length vs → CellsFit Can g b (filled b vs)
      → Done m Can M g (write_each M.write mem o (part_scalars m g a.ty p b) vs) mem o objects (put_at k p (filled b vs) areas)

  -- A copy scalar by scalar puts at once what the other part held before it: a part of another area, another part of this one, or the same.
  abbrev pub PartsCopied : Type 0
  PartsCopied =
      (objects : Map) (areas : Areas) (mem : M.Memory) (k o : ℕ) (a : Area) (p : List ℕ) (b : Written) (j q : ℕ) (c : Area) (r : List ℕ) (u : Held)
      → Both Can M g objects areas mem → LiveIn objects areas k o a → a.constant ≡ false → part a.ty p ≡ Some b
      → LiveIn objects areas j q c → part c.ty r ≡ Some b → at c.held r ≡ Some u
      → Done m Can M g (copy_each M.read M.write mem o (part_scalars m g a.ty p b) q (part_scalars m g c.ty r b)) mem o objects (put_at k p u areas)

  -- ---- areas and objects come and go

  -- a further area, and the object that is made with its cells; no other object changes
  abbrev pub AreasMade : Type 0
  AreasMade =
      (objects : Map) (areas : Areas) (mem : M.Memory) (a : Area) → Both Can M g objects areas mem → CellsFit Can g a.ty a.held
      → (let new = M.initialize mem (shape g a.ty) a.constant (cells a.held) in
      Both Can M g (objects ++ M.count mem ∷ []) (areas ++ Live a ∷ []) new × (M.count new ≡ suc (M.count mem)) × ((q : ℕ) → q < M.count mem → Same m M mem new q))

  -- the end of a block: its areas are marked, and its objects end, none of which was an earlier area's
  abbrev pub BlocksEnded : Type 0
  BlocksEnded =
      (objects : Map) (areas : Areas) (mem : M.Memory) (k n : ℕ) → Both Can M g objects areas mem → ((j o : ℕ) → j < k → slice_get objects j ≡ Some o → o < n)
      → Both Can M g objects (mark_from k areas) (M.leave n mem)

  -- the end of a call: its areas, whose objects ended before, are taken out of the map
  abbrev pub CallsEnded : Type 0
  CallsEnded = (objects : Map) (areas : Areas) (mem : M.Memory) (k : ℕ) → Both Can M g objects areas mem → Both Can M g objects (take_from k areas) mem

  -- ---- objects of no area: those of a compiler's own

  -- one more of them
  abbrev pub OthersMade : Type 0
  OthersMade =
      (objects : Map) (areas : Areas) (mem new : M.Memory) (c : Bool) (a : CTree) (us : List (Option ℤ)) → Both Can M g objects areas mem → Made m M mem new c a us
      → Both Can M g objects areas new

  -- and a write to one
  abbrev pub OthersWritten : Type 0
  OthersWritten =
      (objects : Map) (areas : Areas) (mem new : M.Memory) (o : ℕ) (x : ℕ × CScalar) (n : ℤ) → Both Can M g objects areas mem → ((k : ℕ) → slice_get objects k ≢ Some o)
      → M.write mem o x n ≡ Ok new → Both Can M g objects areas new

  pub record Alike : Type 0 where
    pub live : ObjectsLive
    pub read : CellsRead
    pub stored : CellsStored
    pub seen : PartsSeen
    pub put : PartsPut
    pub replied : RepliesWritten
    pub copied : PartsCopied
    pub made : AreasMade
    pub block_ended : BlocksEnded
    pub call_ended : CallsEnded
    pub other_made : OthersMade
    pub other_written : OthersWritten

-- in the memory of each target, whatever the names
abbrev pub ObjectsHoldAreas : Type 0
ObjectsHoldAreas = (t : TargetTable) (g : Naming) → Alike (metric t) (CanHold t) (memory_in t) g

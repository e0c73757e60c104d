-- When a memory of C and the areas of the source are alike: each live area has an object, which holds it, and no two areas have the same. What
-- was the object of an area that is marked or gone is not asked about.
use Rattle.std.specs.Prelude.{◌≡◌, ◌≢◌, ℕ, ◌<◌, ℤ, List, length, Some, Result, Ok, slice_get}
use Rattle.type_trees.specs.Layouts.{Metric}
use Rattle.c_memory.specs.Abstract.{Operations, Same}
use Rattle.c_memory.specs.Access.{Fault}
use Rattle.c_ast.specs.declared.CScalar.{CScalar}
use Rattle.c_ast.specs.Syntax.{Name}
use Rattle.core_meaning.specs.Areas.{Area, Areas, Live}
use Rattle.area_objects.specs.Shapes.{Naming}
use Rattle.area_objects.specs.Holds.{HoldsArea}

-- the object of each area, by the area's number
abbrev pub Map : Type 0
Map = List ℕ

-- area k is live, and o is its object
pub record LiveIn (objects : Map) (areas : Areas) (k o : ℕ) (a : Area) : Type 0 where
  pub live : slice_get areas k ≡ Some (Live a)
  pub object : slice_get objects k ≡ Some o

-- every area of the one has its object in the other
abbrev pub Extends : Map → Map → Type 0
Extends less more = (k o : ℕ) → slice_get less k ≡ Some o → slice_get more k ≡ Some o

module _ (Can : CScalar → ℤ → Type 0) (M : Operations CScalar Name ℤ) (g : Naming) where
  pub record Both (objects : Map) (areas : Areas) (mem : M.Memory) : Type 0 where
    pub many : length objects ≡ length areas
    pub made : (k o : ℕ) → slice_get objects k ≡ Some o → o < M.count mem
    pub apart : (j k o : ℕ) → slice_get objects j ≡ Some o → slice_get objects k ≡ Some o → j ≡ k
    pub holds : (k o : ℕ) (a : Area) → LiveIn objects areas k o a → HoldsArea Can M g mem o a

-- what was done with object o succeeds, the memory is then alike to these areas, and no other object has changed
pub record Done (m : Metric CScalar) (Can : CScalar → ℤ → Type 0) (M : Operations CScalar Name ℤ) (g : Naming) (done : Result M.Memory Fault) (mem : M.Memory) (o : ℕ) (objects : Map) (areas : Areas) : Type 0 where
  pub new : M.Memory
  pub is : done ≡ Ok new
  pub both : Both Can M g objects areas new
  pub others : (q : ℕ) → q ≢ o → Same m M mem new q
  pub count : M.count new ≡ M.count mem

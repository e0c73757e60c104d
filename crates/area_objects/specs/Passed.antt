-- Arguments of an import on both sides: the same numbers, and references with pointers to the same parts. The outside then sees the same, and
-- what it writes is written alike.
use Rattle.std.specs.Prelude.{◌≡◌, ◌≢◌, ℕ, ◌≤◌, ℤ, List, [], ◌∷◌, length, true, false, slice_get, Option, Some, None, Result, Ok}
use Rattle.run_records.specs.declared.Piece.{Piece}
use Rattle.type_trees.specs.Trees.{count, part}
use Rattle.area_types.specs.Syntax.{ValueType}
use Rattle.area_types.specs.Trees.{Written}
use Rattle.core_tree.specs.Syntax.{ModuleCore}
use Rattle.c_memory.specs.Abstract.{Same}
use Rattle.c_ast.specs.declared.CBase.{CBase}
use Rattle.c_ast.specs.declared.CStruct.{CStruct}
use Rattle.c_ast.specs.declared.Target.{Target}
use Rattle.c_ast.specs.Scalars.{metric_of}
use Rattle.c_ast.specs.Targets.{table_of}
use Rattle.c_meaning.specs.Calls as calls
use Rattle.c_meaning.specs.Memory.{CObjects, memory_of}
use Rattle.c_meaning.specs.Values as target
use Rattle.c_meaning.specs.Values.{Address, CValue, Trouble}
use Rattle.core_meaning.specs.Areas.{Area, Areas, filled}
use Rattle.core_meaning.specs.Imports.{pieces_of, writable, behind, all_written}
use Rattle.core_meaning.specs.Values as source
use Rattle.area_objects.specs.Shapes.{Naming}
use Rattle.area_objects.specs.Holds.{CellsFit, CanHold}
use Rattle.area_objects.specs.Both.{Map, LiveIn}
use Rattle.area_objects.specs.Located.{begins, IsType}
use Rattle.area_objects.specs.PlaceLaws.{BothIn}

module _ (t : Target) (g : Naming) (structs : List CStruct) (objects : Map) (areas : Areas) where
  -- a pointer to where the part of a live area is, with the part's type
  pub record Points (k : ℕ) (path : List ℕ) (b : CBase) (to : Address) : Type 0 where
    pub object : ℕ
    pub area : Area
    pub lives : LiveIn objects areas k object area
    pub content : Written
    pub leads : part area.ty path ≡ Some content
    pub type : IsType g structs b content
    pub address : to ≡ begins t g object area.ty path

  -- an argument for a parameter of this type: the outside may write behind a pointer just where it may in the source
  abbrev pub Passed : ModuleCore → ValueType → source.Value → CValue → Type 0
  Passed core ty (source.Num v) (target.Num kind n) = (writable core ty ≡ None) × (n ≡ v)
  Passed core ty (source.Num v) (target.Ptr c b to) = ⊥
  Passed core ty (source.Ref k path) (target.Num kind n) = ⊥
  Passed core ty (source.Ref k path) (target.Ptr true b to) = (writable core ty ≡ None) × Points k path b to
  Passed core ty (source.Ref k path) (target.Ptr false b to) = (at : Points k path b to) × (writable core ty ≡ Some at.content) × (at.area.constant ≡ false)

  abbrev pub AllPassed : ModuleCore → List ValueType → List source.Value → List CValue → Type 0
  AllPassed core [] [] [] = Unit {0}
  AllPassed core (ty ∷ params) (v ∷ vs) (u ∷ us) = Passed core ty v u × AllPassed core params vs us
  AllPassed core [] [] (u ∷ us) = ⊥
  AllPassed core [] (v ∷ vs) us = ⊥
  AllPassed core (ty ∷ params) [] us = ⊥
  AllPassed core (ty ∷ params) (v ∷ vs) [] = ⊥

-- what the outside sees of the arguments is the same
abbrev pub ArgumentsSeen : Type 0
ArgumentsSeen =
    (t : Target) (g : Naming) (structs : List CStruct) (core : ModuleCore) (objects : Map) (areas : Areas) (mem : CObjects) (params : List ValueType) (vs : List source.Value) (us : List CValue)
    → BothIn t g objects areas mem → AllPassed t g structs objects areas core params vs us
    → (pieces : List Piece) × (pieces_of areas vs ≡ Some pieces) × (calls.pieces_of t structs mem us ≡ Ok pieces)

-- numbers enough for what may be written, each one of its cell's
abbrev pub Gets : Target → Naming → Option Written → List ℤ → Type 0
Gets t g None reply = Unit {0}
Gets t g (Some ty) reply = (count ty ≤ length reply) × CellsFit (CanHold (table_of t)) g ty (filled ty reply)

abbrev pub AllGet : Target → Naming → ModuleCore → List ValueType → List ℤ → Type 0
AllGet t g core [] reply = Unit {0}
AllGet t g core (ty ∷ params) reply = Gets t g (writable core ty) reply × AllGet t g core params (behind (writable core ty) reply)

-- what was done succeeds, the memory is then alike to these areas, and no object has changed that is no area's
pub record Replied (t : Target) (g : Naming) (done : Result CObjects Trouble) (mem : CObjects) (objects : Map) (areas : Areas) : Type 0 where
  pub new : CObjects
  pub is : done ≡ Ok new
  pub both : BothIn t g objects areas new
  pub others : (q : ℕ) → ((k : ℕ) → slice_get objects k ≢ Some q) → Same (metric_of t) (memory_of t) mem new q
  pub count : length new ≡ length mem

-- what it writes in its reply is written alike
abbrev pub ArgumentsWritten : Type 0
ArgumentsWritten =
    (t : Target) (g : Naming) (structs : List CStruct) (core : ModuleCore) (objects : Map) (areas : Areas) (mem : CObjects) (params : List ValueType) (vs : List source.Value) (us : List CValue) (reply : List ℤ)
    → BothIn t g objects areas mem → AllPassed t g structs objects areas core params vs us → AllGet t g core params reply
    → Replied t g (calls.write_replies t structs us reply mem) mem objects (all_written core params vs reply areas)

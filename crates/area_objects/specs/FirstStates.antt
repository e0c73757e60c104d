-- The first states of both sides are alike: object k is made with the first cells of area k.
use Rattle.std.specs.Prelude.{◌≡◌, ℕ, zero, suc, ◌<◌, ℤ, List, [], ◌∷◌, length, map, slice_get, Some, Ok}
use Rattle.type_trees.specs.Values.{cells}
use Rattle.area_types.specs.Tables.{written_out}
use Rattle.area_types.specs.Trees.{Written}
use Rattle.core_tree.specs.Syntax.{ModuleCore, AreaCore}
use Rattle.c_memory.specs.Initializers as values
use Rattle.c_ast.specs.Syntax.{FileObject}
use Rattle.c_ast.specs.Targets.{table_of}
use Rattle.c_meaning.specs.Initializers.{eval_init, in_numbers}
use Rattle.c_meaning.specs.Memory.{CObjects, nought}
use Rattle.c_meaning.specs.Runs.{file_objects}
use Rattle.c_meaning.specs.State.{Program, at_rest}
use Rattle.c_meaning.specs.Values.{CValue}
use Rattle.core_meaning.specs.Areas.{filled}
use Rattle.core_meaning.specs.State.{first_area}
use Rattle.area_objects.specs.Shapes.{Naming, shape}
use Rattle.area_objects.specs.Holds.{CellsFit, CanHold}
use Rattle.area_objects.specs.Both.{Map}
use Rattle.area_objects.specs.Located.{IsType}
use Rattle.area_objects.specs.PlaceLaws.{BothIn}

-- so many numbers from i on
abbrev pub numbers_from : ℕ → (many : ℕ) → Map
numbers_from i zero = []
numbers_from i (suc n) = i ∷ numbers_from (suc i) n

module _ (program : Program) (g : Naming) (core : ModuleCore) where
  abbrev pub type_of : AreaCore → Written
  type_of x = written_out core.structs x.area

  -- an object of file scope is declared with the type and the access of an area, and initialized with its first cells
  pub record Declares (x : AreaCore) (f : FileObject) : Type 0 where
    pub type : IsType g program.unit.structs f.base (type_of x)
    pub access : f.constant ≡ x.constant
    pub given : values.Init CValue
    pub evaluated : eval_init program f.init at_rest ≡ Ok given
    pub numbers : values.Init ℤ
    pub converted : in_numbers program.target (shape g (type_of x)) given ≡ Ok numbers
    pub gives : cells (values.initial nought (shape g (type_of x)) numbers) ≡ cells (filled (type_of x) x.first)
    pub fits : CellsFit (CanHold (table_of program.target)) g (type_of x) (filled (type_of x) x.first)

  abbrev pub DeclareAll : List AreaCore → List FileObject → Type 0
  DeclareAll [] [] = Unit {0}
  DeclareAll [] (f ∷ fs) = ⊥
  DeclareAll (x ∷ xs) [] = ⊥
  DeclareAll (x ∷ xs) (f ∷ fs) = Declares x f × DeclareAll xs fs

abbrev pub FirstStatesAlike : Type 0
FirstStatesAlike =
    (program : Program) (g : Naming) (core : ModuleCore) → DeclareAll program g core core.areas program.unit.objects
    → (new : CObjects) × (file_objects program program.unit.objects [] ≡ Ok new) × BothIn program.target g (numbers_from 0 (length core.areas)) (map (first_area core) core.areas) new

-- each area's object has the area's number
abbrev pub NumbersStandThere : Type 0
NumbersStandThere = (n k : ℕ) → k < n → slice_get (numbers_from 0 n) k ≡ Some k

-- What the C of an expression stands among: the frame that it is made in, the program and the functions that it runs with, and what the
-- source has around it; and what of this stays the same through a procedure.
use Rattle.std.specs.Prelude.{◌≡◌, ◌≢◌, ℕ, ◌≤◌, List, slice_get, Option, Some, Bool}
use Rattle.area_types.specs.Syntax as types
use Rattle.area_types.specs.Syntax.{ValueType, Area}
use Rattle.area_types.specs.Tables.{written_out}
use Rattle.area_types.specs.Trees.{WrittenRow}
use Rattle.area_types.specs.declared.region.Region.{Region}
use Rattle.type_trees.specs.Trees.{Struct}
use Rattle.core_tree.specs.Environments.{Env}
use Rattle.core_tree.specs.Syntax.{ExprCore, type_of}
use Rattle.core_tree.specs.TypedExpressions.{ExprTyped}
use Rattle.core_tree.specs.Valid.{ValidCore}
use Rattle.core_meaning.specs.Values.{Value}
use Rattle.c_ast.specs.Syntax.{Name, Read, Var}
use Rattle.c_meaning.specs.Calls.{Calls}
use Rattle.c_meaning.specs.State.{Program}
use Rattle.area_objects.specs.Shapes.{Naming, base_of}
use Rattle.area_objects.specs.Located.{FieldsApart, IsType, SameGlobals}
use Rattle.lower_types.specs.Names.{local_name, elements_name}
use Rattle.lower_types.specs.Types.{table_for, base_for, scalar_for}
use Rattle.lower_values.specs.Expressions.{field_name, fields_of}
use Rattle.lower_values.specs.Frames.{Frame, name_of}

-- `first` is the number of the first temporary that expressions may declare here
pub record Setting : Type 0 where
  pub frame : Frame
  pub program : Program
  pub functions : Calls
  pub naming : Naming
  pub env : Env
  pub scope : List ℕ
  pub outcome : Option Value
  pub first : ℕ

-- no temporary from number k on has the name
abbrev pub IsOld : ℕ → Name → Type 0
IsOld k x = (j : ℕ) → k ≤ j → x ≢ local_name j

-- what stands for `result` is a name that was declared before
pub record OutcomeNamed (g : Setting) : Type 0 where
  pub name : Name
  pub is : g.frame.outcome ≡ Read (Var name)
  pub old : IsOld g.first name

-- the C type of an area is declared, and it is the one by which declarations name the area
pub record HasCType (g : Setting) (area : Area) : Type 0 where
  pub type : IsType g.naming g.program.unit.structs (base_of g.naming (written_out g.frame.core.structs area)) (written_out g.frame.core.structs area)
  pub base : base_for g.frame.table area ≡ base_of g.naming (written_out g.frame.core.structs area)

pub record Set (g : Setting) : Type 0 where
  pub target : g.frame.target ≡ g.program.target
  pub core : g.env.core ≡ g.frame.core
  pub valid : ValidCore g.frame.core
  pub table : g.frame.table ≡ table_for g.frame.core
  pub scalars : (ty : ValueType) → g.naming.scalar ty ≡ scalar_for g.frame.table ty
  pub elements : g.naming.elements ≡ elements_name
  pub members : (k field : ℕ) → g.naming.member k field ≡ field_name (slice_get (fields_of (slice_get g.frame.table.structs k)) field)
  pub apart : (k : ℕ) (r : WrittenRow) → written_out g.frame.core.structs (types.Struct k) ≡ Struct k r → FieldsApart g.naming k r
  -- the objects of file scope are those of the areas
  pub areas : SameGlobals g.naming g.frame.core.structs g.program.unit.structs g.frame.core.areas g.program.unit.objects
  -- of each area that a reference of an expression leads to
  pub types : (e : ExprCore) (constant : Bool) (region : Region) (area : Area) → ExprTyped g.env g.scope e → type_of e ≡ types.Ref constant region area → HasCType g area
  -- locals were declared before
  pub locals : (x : ℕ) (ty : ValueType) → slice_get g.env.locals x ≡ Some ty → IsOld g.first (name_of g.frame x)
  pub result : (ty : ValueType) → g.env.outcome ≡ Some ty → OutcomeNamed g

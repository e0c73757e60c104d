-- When an object holds an area: it lives, has the C type and the access of the area, and each of its scalars reads as the number of its cell;
-- so none is indeterminate.
use Rattle.std.specs.Prelude.{ℕ, ℤ, map, Some, IsTrue}
use Rattle.type_trees.specs.Values.{Fits, cells}
use Rattle.area_types.specs.Trees.{Written}
use Rattle.c_memory.specs.Abstract.{Operations}
use Rattle.c_memory.specs.Memories.{memory_of_numbers}
use Rattle.c_ast.specs.declared.CScalar.{CScalar}
use Rattle.c_ast.specs.declared.CKind.TheVariants.{Scalar}
use Rattle.c_ast.specs.Conversions.{can_hold}
use Rattle.c_ast.specs.Syntax.{Name}
use Rattle.c_ast.specs.Targets.{TargetTable}
use Rattle.c_meaning.specs.Memory.{scalar_table}
use Rattle.c_meaning.specs.Values.{Address}
use Rattle.core_meaning.specs.Areas.{Held, Area}
use Rattle.area_objects.specs.Shapes.{Naming, shape}

-- ---- over any memory, where `Can` says which numbers a scalar can hold

module _ (Can : CScalar → ℤ → Type 0) (g : Naming) where
  -- each number of a value is one that its scalar can hold
  abbrev pub CellsFit : Written → Held → Type 0
  CellsFit ty v = Fits (λ s n. Can (g.scalar s) n) ty v

module _ (Can : CScalar → ℤ → Type 0) (M : Operations CScalar Name ℤ) (g : Naming) where
  -- object o does
  pub record HoldsArea (mem : M.Memory) (o : ℕ) (a : Area) : Type 0 where
    pub fits : CellsFit Can g a.ty a.held
    pub shows : M.Shows mem o a.constant (shape g a.ty) (map (λ n. Some n) (cells a.held))

-- ---- the memory of a target

abbrev pub memory_in : TargetTable → Operations CScalar Name ℤ
memory_in t = memory_of_numbers Address (scalar_table t)

abbrev pub CanHold : TargetTable → CScalar → ℤ → Type 0
CanHold t k n = IsTrue (can_hold t (Scalar k) n)

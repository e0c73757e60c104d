-- What holds of layouts.
use Rattle.std.specs.Prelude.{◌≤◌, List}
use Rattle.type_trees.specs.Layouts.{align, Ascends}
use Rattle.c_ast.specs.declared.types.Target.{Target}
use Rattle.c_ast.specs.declared.types.CBase.{CBase}
use Rattle.c_ast.specs.declared.unit.CStruct.{CStruct}
use Rattle.c_ast.specs.Scalars.{metric, metric_of}
use Rattle.c_ast.specs.Structs.{CTree, layout, size_of}
use Rattle.c_ast.specs.TargetLaws.{SoundTable}
use Rattle.c_ast.specs.Targets.{TargetTable}

-- the scalars of a layout stand in order of declaration, do not overlap, and lie within the size
abbrev pub ScalarsInOrder : Type 0
ScalarsInOrder = (t : Target) (structs : List CStruct) (b : CBase) → Ascends (metric_of t) 0 (layout t structs b) (size_of t structs b)

-- every type has an alignment, over a sound table
abbrev pub TypesHaveAlignments : Type 0
TypesHaveAlignments = (t : TargetTable) → SoundTable t → (a : CTree) → 1 ≤ align (metric t) a

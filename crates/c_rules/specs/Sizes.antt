-- Sizes and alignments that are counted up to a bound which no member of a right unit reaches.
use Rattle.std.specs.Prelude.{ℕ, ◌+◌, ◌*◌, min, max, List, [], ◌∷◌, map, Option, Some, None}
use Rattle.c_ast.specs.declared.types.CBase.{CBase}
use Rattle.c_ast.specs.declared.types.CBase.TheVariants.{Scalar, Struct as Named}
use Rattle.c_ast.specs.declared.types.Target.{Target}
use Rattle.c_ast.specs.declared.unit.CStruct.{CStruct}
use Rattle.c_ast.specs.Names.{named}
use Rattle.c_ast.specs.Scalars.{metric_of}
use Rattle.c_ast.specs.Structs.{CTree, CRow, table}
use Rattle.c_ast.specs.Syntax.{Name}
use Rattle.type_trees.specs.Layouts.{align, align_row, size, end_row}
use Rattle.type_trees.specs.Multiples.{up}
use Rattle.type_trees.specs.Trees.{Leaf}
use Rattle.c_rules.specs.declared.sizes.Size.{Size}

-- 2 ^ 40
abbrev pub bound : ℕ
bound = 1099511627776

abbrev pub capped : ℕ → ℕ
capped n = min n bound

-- where something ends that may begin at a place
abbrev pub ended : ℕ → Size → ℕ
ended end s = capped (up end (max s.align 1) + s.bytes)

abbrev pub sized_times : Option ℕ → Size → Size
sized_times None s = s
sized_times (Some n) s = record { bytes = capped (n * s.bytes); align = s.align }

abbrev pub tree_size : Target → CTree → Size
tree_size target a = record { bytes = capped (size (metric_of target) a); align = align (metric_of target) a }

-- a struct of these members
abbrev pub row_size : Target → CRow → Size
row_size target r = record { bytes = capped (up (end_row (metric_of target) r 0) (align_row (metric_of target) r)); align = align_row (metric_of target) r }

-- structs with their sizes
abbrev pub sized_view : List CStruct → List Size → List (Name × Size)
sized_view [] zs = []
sized_view (s ∷ ss) [] = []
sized_view (s ∷ ss) (z ∷ zs) = (s.name, z) ∷ sized_view ss zs

abbrev pub entry_size : Target → Name × CTree → Name × Size
entry_size target x = (x.0, tree_size target x.1)

-- the sizes of these structs
abbrev pub sizes_of : Target → List CStruct → List (Name × Size)
sizes_of target structs = map (entry_size target) (table [] structs)

-- a struct that is not there has no members
abbrev pub or_nothing : Option Size → Size
or_nothing None = record { bytes = 0; align = 1 }
or_nothing (Some s) = s

abbrev pub base_size : Target → List (Name × Size) → CBase → Size
base_size target sizes (Scalar s) = tree_size target (Leaf s)
base_size target sizes (Named w) = or_nothing (named sizes w)

-- The types of a unit as trees, and their layouts: names are resolved once, from the first struct on. A struct is made of those
-- before it, and of two structs or members of one name the first counts.
use Rattle.std.specs.Prelude.{ℕ, suc, List, [], ◌∷◌, ◌++◌, Option, Some, None, if◌then◌else◌}
use Rattle.iv_words.specs.Words.{same_word}
use Rattle.c_ast.specs.declared.types.Target.{Target}
use Rattle.c_ast.specs.declared.types.CScalar.{CScalar}
use Rattle.c_ast.specs.declared.types.CBase.{CBase}
use Rattle.c_ast.specs.declared.types.CBase.TheVariants.{Scalar, Struct as Named}
use Rattle.c_ast.specs.declared.unit.CMember.{CMember}
use Rattle.c_ast.specs.declared.unit.CStruct.{CStruct}
use Rattle.c_ast.specs.Syntax.{Name}
use Rattle.c_ast.specs.Names.{named}
use Rattle.c_ast.specs.Scalars.{metric_of}
use Rattle.type_trees.specs.Trees.{Tree, Leaf, Many, Struct, Row, End, Field}
use Rattle.type_trees.specs.Layouts.{Metric, align, size, lay, offset_row}

abbrev pub CTree : Type 0
CTree = Tree CScalar Name

abbrev pub CRow : Type 0
CRow = Row CScalar Name

-- ---- names resolved

-- a struct that is not there has no members
abbrev pub or_empty : Name → Option CTree → CTree
or_empty w None = Struct w End
or_empty w (Some a) = a

abbrev pub base_tree : List (Name × CTree) → CBase → CTree
base_tree known (Scalar s) = Leaf s
base_tree known (Named w) = or_empty w (named known w)

abbrev pub times : Option ℕ → CTree → CTree
times None a = a
times (Some n) a = Many n a

abbrev pub row_of : List (Name × CTree) → List CMember → CRow
row_of known [] = End
row_of known (m ∷ ms) = Field m.name (times m.length (base_tree known m.base)) (row_of known ms)

abbrev pub struct_of : List (Name × CTree) → CStruct → CTree
struct_of known s = Struct s.name (row_of known s.members)

-- the structs so far, and then more of them, each made of those before it
abbrev pub table : List (Name × CTree) → List CStruct → List (Name × CTree)
table known [] = known
table known (s ∷ ss) = table (known ++ (s.name, struct_of known s) ∷ []) ss

-- a type where these structs are declared
abbrev pub tree : List CStruct → CBase → CTree
tree structs b = base_tree (table [] structs) b

-- ---- sizes and layouts

abbrev pub size_of : Target → List CStruct → CBase → ℕ
size_of t structs b = size (metric_of t) (tree structs b)

abbrev pub align_of : Target → List CStruct → CBase → ℕ
align_of t structs b = align (metric_of t) (tree structs b)

-- the scalars of a type with their offsets
abbrev pub layout : Target → List CStruct → CBase → List (ℕ × CScalar)
layout t structs b = lay (metric_of t) (tree structs b) 0

-- the number of the first member of a name
abbrev pub index_of : CRow → Name → ℕ
index_of End w = 0
index_of (Field f a r) w = if same_word f w then 0 else suc (index_of r w)

-- the offset of the first member of a name
abbrev pub offset_named : Metric CScalar → CTree → Name → ℕ
offset_named m (Leaf s) w = 0
offset_named m (Many n a) w = 0
offset_named m (Struct k r) w = offset_row m r (index_of r w) [] 0

abbrev pub offset_of : Target → List CStruct → (struct_name member_name : Name) → ℕ
offset_of t structs s m = offset_named (metric_of t) (tree structs (Named s)) m

-- What private functions answer on the way to sizes and offsets.
use Rattle.std.specs.Prelude.{ℕ, suc, List, [], ◌∷◌, Option, Some, None, if◌then◌else◌}
use Rattle.iv_words.specs.Words.{same_word}
use Rattle.c_ast.specs.declared.unit.CStruct.{CStruct}
use Rattle.c_ast.specs.declared.unit.CMember.{CMember}
use Rattle.c_ast.specs.Syntax.{Name}
use Rattle.type_trees.specs.Layouts.{Metric, align_row, end_row}
use Rattle.type_trees.specs.Multiples.{up}
use Rattle.c_ast.specs.Structs.{CRow, CTree, base_tree, times, row_of, table}
use Rattle.c_ast.specs.declared.types.CScalar.{CScalar}

-- the place of the first struct of a name, where the first of these has place k
abbrev pub place_from : ℕ → List CStruct → Name → Option ℕ
place_from k [] w = None
place_from k (s ∷ ss) w = if same_word s.name w then Some k else place_from (suc k) ss w

-- the type of a member, and all members, of a struct behind these structs
abbrev pub member_type : List CStruct → CMember → CTree
member_type earlier m = times m.length (base_tree (table [] earlier) m.base)

abbrev pub member_row : List CStruct → List CMember → CRow
member_row earlier ms = row_of (table [] earlier) ms

abbrev pub row_size : Metric CScalar → CRow → ℕ
row_size m r = up (end_row m r 0) (align_row m r)

-- The forms of types, and what is found of a member.
use Rattle.std.specs.Prelude.{◌≡◌, ℕ, ◌+◌, [], map, true, false, Some, None}
use Rattle.iv_words.specs.Words.{same_word}
use Rattle.type_trees.specs.Multiples.{up}
use Rattle.type_trees.specs.Layouts.{align, size, offset_row}
use Rattle.type_trees.specs.Trees as trees
use Rattle.c_ast.specs.declared.Target.{Target}
use Rattle.c_ast.specs.Scalars.{metric_of}
use Rattle.c_ast.specs.StaticTypes.{member_tree}
use Rattle.c_ast.specs.Structs.{CTree, CRow, index_of}
use Rattle.c_ast.specs.Syntax.{Name}
use Rattle.c_objects.specs.Shapes.{tree_of, field_of, row_from}
use Rattle.c_expressions.specs.declared.form.Form.{Form}
use Rattle.c_expressions.specs.declared.form.Form.TheVariants.{Scalar, Array, Struct}
use Rattle.c_expressions.specs.declared.form.Found.{Found}
use Rattle.c_expressions.specs.declared.form.Found.TheVariants as found
use Rattle.c_expressions.specs.declared.form.Step.{Step}
use Rattle.c_expressions.specs.declared.form.Step.TheVariants as step

abbrev pub form_tree : Form → CTree
form_tree (Scalar s) = trees.Leaf s
form_tree (Array n element) = trees.Many n (tree_of element.now)
form_tree (Struct name fields) = trees.Struct name.now (row_from (map field_of fields.now))

-- the first member of a name, with its offset in members that may begin at `o`
abbrev pub FoundFrom : Target → ℕ → CRow → Name → Found → Type 0
FoundFrom t o r m found.Missing = member_tree r m ≡ None
FoundFrom t o r m found.TooFar = Unit {0}
FoundFrom t o r m (found.At at shape) = (member_tree r m ≡ Some (tree_of shape.now)) × (offset_row (metric_of t) r (index_of r m) [] o ≡ at)

abbrev pub Finds : Target → CRow → Name → Found → Type 0
Finds t r m what = FoundFrom t 0 r m what

-- one member, which may begin at `o`
abbrev pub Steps : Target → Name × CTree → Name → ℕ → Step → Type 0
Steps t x m o step.TooFar = Unit {0}
Steps t x m o (step.Here at shape) = (same_word x.0 m ≡ true) × (up o (align (metric_of t) x.1) ≡ at) × (x.1 ≡ tree_of shape.now)
Steps t x m o (step.Behind next) = (same_word x.0 m ≡ false) × (up o (align (metric_of t) x.1) + size (metric_of t) x.1 ≡ next)

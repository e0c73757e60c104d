-- A member by its name.
use Rattle.std.proofs.Common.{◌≡◌, List, [], ◌∷◌, if◌then◌else◌, Some, refl, ap}
use Rattle.iv_words.specs.Words.{same_word}
use Rattle.c_ast.specs.StaticTypes.{member_tree}
use Rattle.c_ast.specs.Names.{named}
use Rattle.c_ast.specs.Structs.{CTree}
use Rattle.c_ast.specs.Syntax.{Name}
use Rattle.c_objects.specs.Shapes.{row_from}

pub member_is_looked_up : (xs : List (Name × CTree)) (m : Name) → member_tree (row_from xs) m ≡ named xs m
member_is_looked_up [] m = refl
member_is_looked_up (x ∷ xs) m = ap (λ r. if same_word x.0 m then Some x.1 else r) (member_is_looked_up xs m)

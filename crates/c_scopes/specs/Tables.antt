-- What the tables of a unit's structs and of their members say.
use Rattle.std.specs.Prelude.{◌≡◌, List, [], ◌∷◌, map, Option, Some, None, if◌then◌else◌}
use Rattle.std.specs.Borrow.{Bor}
use Rattle.iv_words.specs.Words.{same_word}
use Rattle.c_ast.specs.declared.unit.CMember.{CMember}
use Rattle.c_ast.specs.declared.unit.CStruct.{CStruct}
use Rattle.c_ast.specs.Syntax.{Name}

-- the first member of a name
abbrev pub first_member : List CMember → Name → Option CMember
first_member [] w = None
first_member (m ∷ ms) w = if same_word m.name w then Some m else first_member ms w

-- the tags of structs, and the members of each
pub record Tabled (structs : List CStruct) (tags : List Name) (members : List (List CMember)) : Type 0 where
  pub tagged : tags ≡ map (λ s. s.name) structs
  pub filled : members ≡ map (λ s. s.members) structs

-- a struct that is not there has no members
abbrev pub members_view : Option (Bor (List CMember)) → List CMember
members_view None = []
members_view (Some t) = t.now

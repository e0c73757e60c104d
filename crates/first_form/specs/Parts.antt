-- Tests on parts of a tree: a tool of the proof, which `Stands` does not need.
use Rattle.std.specs.Prelude.{Bool, true, false, List, [], ◌∷◌, Option, Some, None, ◌&&◌}
use Rattle.ivory_tree.specs.Syntax.{ItemSyntax, Import, ProcSyntax}

abbrev pub is_import : ItemSyntax → Bool
is_import (Import h) = true
is_import item = false

abbrev pub none_of : {A : Type 0} → List A → Bool
none_of [] = true
none_of (x ∷ xs) = false

abbrev pub absent : {A : Type 0} → Option A → Bool
absent None = true
absent (Some x) = false

-- exported, with no parameter, result or contract
abbrev pub is_plain : ProcSyntax → Bool
is_plain p = p.exported && none_of p.header.params && absent p.header.result && none_of p.contracts

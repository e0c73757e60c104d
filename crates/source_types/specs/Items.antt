-- What is declared after an item, and the names of a module's areas, imports and procedures.
use Rattle.std.specs.Prelude.{true, false, List, [], ◌∷◌, ◌++◌}
use Rattle.ivory_tree.specs.Syntax.{Word, ItemSyntax, BitsData, Struct, Global, Import, Procedure}
use Rattle.source_types.specs.Environments.{Earlier}
use Rattle.source_types.specs.Written.{struct_in, global_in, callee_in}

abbrev pub after : Earlier → ItemSyntax → Earlier
after earlier (BitsData i) = record earlier { bits = earlier.bits ++ i ∷ [] }
after earlier (Struct i) = record earlier { structs = earlier.structs ++ struct_in earlier i ∷ [] }
after earlier (Global i) = record earlier { areas = earlier.areas ++ global_in earlier i ∷ [] }
after earlier (Import h) = record earlier { callees = earlier.callees ++ callee_in earlier true h ∷ [] }
after earlier (Procedure p) = record earlier { callees = earlier.callees ++ callee_in earlier false p.header ∷ [] }

-- those of one name space, in items of any place
abbrev pub item_names : List ItemSyntax → List Word
item_names [] = []
item_names (Global i ∷ items) = i.name.text ∷ item_names items
item_names (Import h ∷ items) = h.name.text ∷ item_names items
item_names (Procedure p ∷ items) = p.header.name.text ∷ item_names items
item_names (BitsData i ∷ items) = item_names items
item_names (Struct i ∷ items) = item_names items

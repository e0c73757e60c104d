-- The name that an item has in the module's name space.
use Rattle.std.specs.Prelude.{List, [], ◌∷◌}
use Rattle.ivory_tree.specs.Syntax.{Word, ItemSyntax, BitsData, Struct, Global, Import, Procedure}

-- of an area, an import and a procedure
abbrev pub names_of : ItemSyntax → List Word
names_of (BitsData i) = []
names_of (Struct i) = []
names_of (Global i) = i.name.text ∷ []
names_of (Import h) = h.name.text ∷ []
names_of (Procedure p) = p.header.name.text ∷ []

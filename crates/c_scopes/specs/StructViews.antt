-- Those structs of a unit that are declared before a place.
use Rattle.std.specs.Prelude.{List, take}
use Rattle.c_ast.specs.declared.unit.CStruct.{CStruct}
use Rattle.c_scopes.specs.declared.structs.Structs.{Structs}

abbrev pub structs_view : Structs → List CStruct
structs_view s = take s.count s.table.now

-- The map that a table of files keeps.
use Rattle.std.specs.Prelude.{nat_eq}
use Rattle.std.specs.Cmp.Lexicographic.{pointwise}
use Rattle.std.specs.HashMap.{get}
use Rattle.iv_base.specs.Stores.{FileMap}
use Rattle.iv_base.specs.declared.files.Files.{Files}

unfoldable pub map_of : Files → FileMap
map_of f = get (pointwise nat_eq) f.by_name

-- An object of file scope as the outside sees it.
use Rattle.std.specs.Prelude.{ℕ}
use Rattle.run_records.specs.declared.AreaCells.{AreaCells}
use Rattle.c_ast.specs.Names.{outer_name}
use Rattle.c_ast.specs.Syntax.{FileObject}
use Rattle.c_meaning.specs.State.{CState, cells_of}
use Rattle.c_expressions.specs.Programs.{Parts}

abbrev pub area_at : Parts → CState → ℕ → FileObject → AreaCells
area_at p s o x = record { name = outer_name x.name; cells = cells_of p.target p.unit.structs s o x.base }

use Rattle.std.proofs.Common.{◌≡◌, map, take}
use Rattle.c_lower.specs.Shape.{extern_for}
use Rattle.c_lower.proofs.import.externs_for.Given as goal

abbrev pub invariant-loop-import : goal.invariant-loop-import
invariant-loop-import l = l.externs ≡ map extern_for (take l.import-index l.imports)

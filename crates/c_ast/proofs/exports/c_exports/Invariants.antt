use Rattle.std.proofs.Common.{◌≡◌, ◌++◌, map, drop}
use Rattle.c_ast.specs.Exports.{exports_among}
use Rattle.c_ast.specs.View.{function_of}
use Rattle.c_ast.proofs.exports.c_exports.Given as goal

abbrev pub invariant-loop-f : goal.invariant-loop-f
invariant-loop-f l = l.found ++ exports_among (map function_of (drop l.f-index l.f-items)) ≡ exports_among (map function_of l.f-items)

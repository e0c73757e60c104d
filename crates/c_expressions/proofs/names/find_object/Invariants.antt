use Rattle.std.proofs.Common.{◌≡◌, map, drop}
use Rattle.c_ast.specs.View.{object_of}
use Rattle.c_expressions.specs.Names.{in_file}
use Rattle.c_expressions.proofs.names.find_object.Given as goal

abbrev pub invariant-loop-number : goal.invariant-loop-number
invariant-loop-number l = in_file l.number (map object_of (drop l.number l.objects)) l.name ≡ in_file 0 (map object_of l.objects) l.name

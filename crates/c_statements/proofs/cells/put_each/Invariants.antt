use Rattle.std.proofs.Common.{◌≡◌, drop}
use Rattle.c_objects.specs.Store.{objects_of}
use Rattle.c_statements.specs.Cells.{written}
use Rattle.c_statements.proofs.cells.put_each.Given as goal

abbrev pub invariant-loop-i : goal.invariant-loop-i
invariant-loop-i l =
    written l.t (drop l.i l.cells) (drop l.i l.values) (objects_of l.objects)
    ≡ written l.t l.cells l.values (objects_of l.initial.objects)

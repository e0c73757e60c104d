use Rattle.std.proofs.Common.{◌≡◌, drop}
use Rattle.c_objects.specs.Store.{objects_of}
use Rattle.c_statements.specs.Cells.{first_refusal}
use Rattle.c_statements.proofs.cells.first_refusal.Given as goal

abbrev pub invariant-loop-i : goal.invariant-loop-i
invariant-loop-i l =
    first_refusal l.t (objects_of l.objects) (drop l.i l.cells) (drop l.i l.values)
    ≡ first_refusal l.t (objects_of l.objects) l.cells l.values

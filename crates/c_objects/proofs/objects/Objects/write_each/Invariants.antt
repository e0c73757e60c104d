use Rattle.std.proofs.Common.{◌≡◌, drop}
use Rattle.c_memory.specs.Copies.{write_each}
use Rattle.c_meaning.specs.Memory.{memory_of}
use Rattle.c_objects.specs.Store.{objects_of}
use Rattle.c_objects.proofs.objects.Objects.write_each.Given as goal

abbrev pub invariant-loop-i : goal.invariant-loop-i
invariant-loop-i l =
    write_each (memory_of l.t).write (objects_of l.self) l.o (drop l.i l.places) (drop l.i l.values) ≡ write_each (memory_of l.t).write (objects_of l.initial.self) l.o l.places l.values

use Rattle.std.proofs.Common.{◌∙◌, sym, drop, arith}
use Rattle.c_meaning.specs.Memory.{memory_of}
use Rattle.c_objects.specs.Store.{objects_of}
use Rattle.c_objects.proofs.Rows.{write_end, none_left}
use Rattle.c_objects.proofs.objects.Objects.write_each.Goals as goal

pub returns : goal.returns
returns c =
    sym c.loop-i.invariant
    ∙ write_end (memory_of c.args.t).write (objects_of c.loop-i.self) c.args.o (drop c.loop-i.i c.args.places.now) (drop c.loop-i.i c.args.values.now) (none_left c.args.places.now c.args.values.now c.loop-i.i (omega arith))

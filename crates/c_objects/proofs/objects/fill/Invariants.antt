use Rattle.std.proofs.Common.{◌≡◌, drop}
use Rattle.std.specs.Prelude.{map}
use Rattle.c_memory.specs.Seen.{with_scalars}
use Rattle.c_objects.specs.Bytes.{byte_of}
use Rattle.c_objects.specs.Store.{representation}
use Rattle.c_objects.proofs.objects.fill.Given as goal

abbrev pub invariant-loop-i : goal.invariant-loop-i
invariant-loop-i l = with_scalars (representation l.t) (map byte_of l.bytes) (drop l.i l.places) (drop l.i l.values) ≡ with_scalars (representation l.t) (map byte_of l.initial.bytes) l.places l.values

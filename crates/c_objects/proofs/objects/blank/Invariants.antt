use Rattle.std.proofs.Common.{◌≡◌}
use Rattle.std.specs.Prelude.{map, replicate}
use Rattle.c_memory.specs.Bytes as memory
use Rattle.c_objects.specs.Bytes.{byte_of}
use Rattle.c_objects.proofs.objects.blank.Given as goal

abbrev pub invariant-loop : goal.invariant-loop
invariant-loop l = map byte_of l.bytes ≡ replicate l.counter memory.Unset

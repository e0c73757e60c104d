use Rattle.std.proofs.Common.{◌≡◌, ◌+◌, ◌-◌}
use Rattle.std.specs.Prelude.{map}
use Rattle.c_memory.specs.Codecs.{digits}
use Rattle.c_memory.specs.Seen.{over}
use Rattle.c_objects.specs.Bytes.{byte_of, as_number}
use Rattle.c_objects.proofs.bytes.put_digits.Given as goal

abbrev pub invariant-loop-i : goal.invariant-loop-i
invariant-loop-i l = over (l.at + l.i) (map as_number (digits (l.many - l.i) l.rest)) (map byte_of l.bytes) ≡ over l.at (map as_number (digits l.many l.n)) (map byte_of l.initial.bytes)

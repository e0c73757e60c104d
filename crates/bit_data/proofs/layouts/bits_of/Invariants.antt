-- The sum of the widths so far, where 64 bits hold it.
use Rattle.std.proofs.Common.{◌≡◌, min, take}
use Rattle.bit_data.specs.Layouts.{bits_of}
use Rattle.bit_data.proofs.layouts.bits_of.Given as goal

abbrev pub invariant-loop-field : goal.invariant-loop-field
invariant-loop-field l = l.bits ≡ min (bits_of (take l.field-index l.fields)) 18_446_744_073_709_551_615

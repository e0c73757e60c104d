-- What a byte of an object is in the memory of C, where objects hold no pointers.
use Rattle.std.specs.Prelude.{ℕ}
use Rattle.c_memory.specs.Bytes as memory
use Rattle.c_meaning.specs.Values.{Address}
use Rattle.c_objects.specs.declared.bytes.Byte.{Byte}
use Rattle.c_objects.specs.declared.bytes.Byte.TheVariants.{Unset, Number}

abbrev pub as_number : ℕ → memory.Byte Address
as_number n = memory.Number n

abbrev pub byte_of : Byte → memory.Byte Address
byte_of Unset = memory.Unset
byte_of (Number n) = memory.Number n

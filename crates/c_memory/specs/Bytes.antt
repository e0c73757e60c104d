-- What a byte of an object is (C99 6.2.6.1): a number, or indeterminate as what nothing was written to (6.7.8) and padding are, or a
-- byte of a pointer, whose number no program learns. P is what pointers are; where objects hold none it is empty.
use Rattle.std.specs.Prelude.{ℕ}

pub data Byte (P : Type 0) : Type 0 where
  Number : ℕ → Byte P
  Unset : Byte P
  PointerByte : P → (place : ℕ) → Byte P

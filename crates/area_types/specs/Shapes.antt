-- The shape of an area as a text names it: lengths as they are written, structs by name.
use Rattle.std.specs.Prelude.{ℕ}
use Rattle.area_types.specs.Syntax.{Name, ValueType}

pub data Shape : Type 0 where
  Stored : ValueType → Shape
  Array : (length : ℕ) → (element : Shape) → Shape
  Struct : Name → Shape

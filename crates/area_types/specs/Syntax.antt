-- The abstract syntax of types and areas, for definitions by cases.
-- A value is a truth, a whole number of a kind, an index of a length, bits of a numbered word, or a reference to an area.
use Rattle.std.specs.Prelude.{ℕ, Bool, List}
use Rattle.iv_words.specs.declared.IntKind.{IntKind}
use Rattle.area_types.specs.declared.region.Region.{Region}

-- the bytes of a name
abbrev pub Name : Type 0
Name = List ℕ

mutual
  pub data ValueType : Type 0 where
    Truth : ValueType
    Int : IntKind → ValueType
    Ix Bits : ℕ → ValueType
    Ref : (constant : Bool) → Region → (target : Area) → ValueType

  -- an area that holds a value, an array of a length, or the struct of a number
  pub data Area : Type 0 where
    Stored : ValueType → Area
    Array : (length : ℕ) → (element : Area) → Area
    Struct : (number : ℕ) → Area

-- a field of a struct
pub record Field : Type 0 where
  pub name : Name
  pub area : Area

-- a struct, with its fields in order of declaration
pub record StructType : Type 0 where
  pub name : Name
  pub fields : List Field

-- What values that are given are: the result that a `return` gives, references with what they lead to, and numbers.
use Rattle.std.specs.Prelude.{◌≡◌, ℕ, ℤ, List, Option, Some, None, IsTrue}
use Rattle.area_types.specs.Syntax.{ValueType}
use Rattle.area_types.specs.Tables.{Table, written_out}
use Rattle.region_check.specs.Calls.{Reference}
use Rattle.core_tree.specs.Syntax.{ModuleCore, ExprCore}
use Rattle.core_tree.specs.Types.{is_value}
use Rattle.core_meaning.specs.Values.{Value, Num, Ref}
use Rattle.core_meaning.specs.Areas.{Held, Areas, type_at, held_at}
use Rattle.core_meaning.specs.State.{State}
use Rattle.core_meaning.specs.Gives.{Gives}
use Rattle.region_soundness.specs.Fitting.{Entry, Refers}
use Rattle.region_soundness.specs.Scoped.{HeldFits}

-- the result that a `return` gives
abbrev pub ReturnGives : ModuleCore → State → Option ExprCore → Option Value → Type 0
ReturnGives core s None None = Unit {0}
ReturnGives core s None (Some v) = ⊥
ReturnGives core s (Some e) None = ⊥
ReturnGives core s (Some e) (Some v) = Gives core None s e v

-- the value is a number of the type
pub record NumberOf (table : Table) (ty : ValueType) (v : Value) : Type 0 where
  pub number : ℤ
  pub is : v ≡ Num number
  pub fits : IsTrue (is_value table ty number)

-- The value is a reference to a part of a live area; the part is of the type to which the reference's type refers.
pub record ReferenceTo (core : ModuleCore) (entry : Entry) (areas : Areas) (r : Reference) (v : Value) : Type 0 where
  pub number : ℕ
  pub path : List ℕ
  pub is : v ≡ Ref number path
  pub refers : Refers core entry areas r number path
  pub type : type_at areas number path ≡ Some (written_out core.structs r.area)

-- the part to which a path leads holds a value of this type
pub record PartFits (core : ModuleCore) (areas : Areas) (r : Reference) (number : ℕ) (path : List ℕ) : Type 0 where
  pub held : Held
  pub is : held_at areas number path ≡ Some held
  pub fits : HeldFits core.structs (written_out core.structs r.area) held

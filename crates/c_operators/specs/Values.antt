-- The values of the code as those of the meaning of C, and what it is that code gives what the meaning says.
use Rattle.std.specs.Prelude.{◌≡◌, ◌^◌, ◌-ℤ◌, pos, int_lt, IsTrue, Option, Some, None, Result, Ok, Err}
use Rattle.c_ast.specs.declared.CBinary.{CBinary}
use Rattle.c_ast.specs.Targets.{TargetTable}
use Rattle.c_meaning.specs.Values as meaning
use Rattle.c_meaning.specs.Values.{CValue, on_ok}
use Rattle.c_meaning.specs.Operators.{binary}
use Rattle.c_objects.specs.Shapes.{base_of}
use Rattle.c_operators.specs.declared.values.Address.{Address}
use Rattle.c_operators.specs.declared.values.Value.{Value}
use Rattle.c_operators.specs.declared.values.Value.TheVariants.{Num, Ptr}
use Rattle.c_operators.specs.declared.values.Trouble.{Trouble}
use Rattle.c_operators.specs.declared.values.Trouble.TheVariants.{Undefined, Stuck, Memory}

abbrev pub address_of : Address → meaning.Address
address_of a = record { object = a.object; offset = a.offset }

abbrev pub value_of : Value → CValue
value_of (Num kind v) = meaning.Num kind v
value_of (Ptr constant b to) = meaning.Ptr constant (base_of b) (address_of to)

abbrev pub itself : {A : Type 0} → A → A
itself a = a

-- what the code gives is what is said; for want of memory it answers only where there is an excuse
abbrev pub Gives : {A B : Type 0} → (excuse : Type 0) → (A → B) → Result B meaning.Trouble → Result A Trouble → Type 0
Gives excuse view said (Ok a) = said ≡ Ok (view a)
Gives excuse view said (Err (Undefined reason)) = said ≡ Err (meaning.Undefined reason)
Gives excuse view said (Err Stuck) = said ≡ Err meaning.Stuck
Gives excuse view said (Err Memory) = excuse

-- no excuse
abbrev pub Never : Type 0
Never = ⊥

-- a number below all that a type holds
abbrev pub IsBelowAllTypes : CValue → Type 0
IsBelowAllTypes (meaning.Num kind v) = IsTrue (int_lt v (pos 0 -ℤ pos (2 ^ 64)))
IsBelowAllTypes (meaning.Ptr constant base to) = ⊥

-- What the left operand of an operator decides, whatever the right one comes to: the value of the whole, or that there is none; else
-- the right one is evaluated.
abbrev pub Decides : CBinary → CValue → Result (Option Value) Trouble → Type 0
Decides op a (Ok (Some v)) = (t : TargetTable) (b : Result CValue meaning.Trouble) → binary t op a b ≡ Ok (value_of v)
Decides op a (Ok None) = (t : TargetTable) (b : Result CValue meaning.Trouble) → binary t op a b ≡ on_ok b (λ v. binary t op a (Ok v))
Decides op a (Err (Undefined reason)) = (t : TargetTable) (b : Result CValue meaning.Trouble) → binary t op a b ≡ Err (meaning.Undefined reason)
Decides op a (Err Stuck) = (t : TargetTable) (b : Result CValue meaning.Trouble) → binary t op a b ≡ Err meaning.Stuck
Decides op a (Err Memory) = ⊥

-- Initializers (C99 6.7.8): their values, from left to right; and an object made with them, once they are converted as by assignment.
use Rattle.std.specs.Prelude.{ℕ, zero, suc, ℤ, Bool, Result, Ok, Err}
use Rattle.type_trees.specs.Trees.{Leaf, Many, Struct, End, Field}
use Rattle.type_trees.specs.Values.{cells}
use Rattle.c_memory.specs.Initializers as values
use Rattle.c_ast.specs.declared.Target.{Target}
use Rattle.c_ast.specs.declared.CScalar.{CScalar}
use Rattle.c_ast.specs.declared.CType.TheVariants.{Value}
use Rattle.c_ast.specs.Structs.{CTree, CRow}
use Rattle.c_ast.specs.Syntax.{Init, One, Zero, Many as Row, Inits, NoInits, MoreInits}
use Rattle.c_meaning.specs.Values.{Trouble, Stuck, CValue, Num, Ptr, on_ok, as_assigned}
use Rattle.c_meaning.specs.Memory.{CObjects, memory_of, nought}
use Rattle.c_meaning.specs.State.{Program, CState}
use Rattle.c_meaning.specs.Expressions.{eval}

-- ---- values

abbrev mutual
  pub eval_init : Program → Init → CState → Result (values.Init CValue) Trouble
  eval_init p (One e) s = on_ok (eval p e s) (λ v. Ok (values.One v))
  eval_init p Zero s = Ok values.Zero
  eval_init p (Row is) s = on_ok (eval_inits p is s) (λ vs. Ok (values.Braces vs))

  pub eval_inits : Program → Inits → CState → Result (values.Inits CValue) Trouble
  eval_inits p NoInits s = Ok values.Done
  eval_inits p (MoreInits i is) s = on_ok (eval_init p i s) (λ v. on_ok (eval_inits p is s) (λ vs. Ok (values.More v vs)))

-- ---- conversions

abbrev pub number_of : CValue → Result ℤ Trouble
number_of (Num kind v) = Ok v
number_of (Ptr constant b to) = Err Stuck

-- the number that is put into a scalar (6.5.16.1)
abbrev pub as_number : Target → CScalar → CValue → Result ℤ Trouble
as_number t k v = on_ok (as_assigned t (Value k) v) number_of

-- n at most, one after another
abbrev pub each_number : ℕ → (values.Init CValue → Result (values.Init ℤ) Trouble) → values.Inits CValue → Result (values.Inits ℤ) Trouble
each_number n f values.Done = Ok values.Done
each_number zero f (values.More i is) = Err Stuck
each_number (suc n) f (values.More i is) = on_ok (f i) (λ w. on_ok (each_number n f is) (λ ws. Ok (values.More w ws)))

-- a value for a scalar, `{0}` or braces for others, each value as the scalar's number, in order
abbrev mutual
  pub in_numbers : Target → CTree → values.Init CValue → Result (values.Init ℤ) Trouble
  in_numbers t (Leaf k) (values.One v) = on_ok (as_number t k v) (λ w. Ok (values.One w))
  in_numbers t (Leaf k) values.Zero = Err Stuck
  in_numbers t (Leaf k) (values.Braces is) = Err Stuck
  in_numbers t (Many n a) (values.One v) = Err Stuck
  in_numbers t (Many n a) values.Zero = Ok values.Zero
  in_numbers t (Many n a) (values.Braces is) = on_ok (each_number n (in_numbers t a) is) (λ ws. Ok (values.Braces ws))
  in_numbers t (Struct k r) (values.One v) = Err Stuck
  in_numbers t (Struct k r) values.Zero = Ok values.Zero
  in_numbers t (Struct k r) (values.Braces is) = on_ok (row_in_numbers t r is) (λ ws. Ok (values.Braces ws))

  pub row_in_numbers : Target → CRow → values.Inits CValue → Result (values.Inits ℤ) Trouble
  row_in_numbers t End values.Done = Ok values.Done
  row_in_numbers t End (values.More i is) = Err Stuck
  row_in_numbers t (Field f a r) values.Done = Ok values.Done
  row_in_numbers t (Field f a r) (values.More i is) = on_ok (in_numbers t a i) (λ w. on_ok (row_in_numbers t r is) (λ ws. Ok (values.More w ws)))

-- ---- objects

-- a further object, with these values; missing elements are zero, and the bytes between scalars indeterminate
abbrev pub made_with : Target → CTree → (constant : Bool) → CObjects → values.Init CValue → Result CObjects Trouble
made_with t a constant objects given =
    on_ok (in_numbers t a given) (λ numbers. Ok ((memory_of t).initialize objects a constant (cells (values.initial nought a numbers))))

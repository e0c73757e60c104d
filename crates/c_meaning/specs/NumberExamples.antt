-- Operators on small values, and exactly what they give: examples that hold the definitions fast.
use Rattle.std.specs.Prelude.{◌≡◌, ℕ, ◌^◌, ℤ, pos, ◌-ℤ◌, false, Result, Ok, Err}
use Rattle.iv_words.specs.declared.IntKind.{IntKind}
use Rattle.iv_words.specs.declared.IntKind.TheVariants.{U8, U16, U64, I8, I16, I64}
use Rattle.run_records.specs.declared.Reason.TheVariants.{SignedOverflow, DivZero, Shift, Implementation}
use Rattle.c_ast.specs.declared.Target.TheVariants.{T32}
use Rattle.c_ast.specs.declared.CScalar.TheVariants.{Truth, Int as Exact}
use Rattle.c_ast.specs.declared.Arith.TheVariants.{Int, UInt, LongLong}
use Rattle.c_ast.specs.declared.CKind.TheVariants.{Scalar, Arith as Computed}
use Rattle.c_ast.specs.declared.CUnary.{CUnary}
use Rattle.c_ast.specs.declared.CUnary.TheVariants.{Neg, Flip, Not}
use Rattle.c_ast.specs.declared.CBinary.{CBinary}
use Rattle.c_ast.specs.declared.CBinary.TheVariants.{Add, Sub, Mul, Div, Rem, And, Or, Xor, Shl, Shr, Eq, Ne, Lt, Le, Gt, Ge, AndAlso, OrElse}
use Rattle.c_ast.specs.Targets.{table_of}
use Rattle.c_ast.specs.TargetExamples.{narrow}
use Rattle.c_ast.specs.declared.CBase.TheVariants as base
use Rattle.c_meaning.specs.Values.{Trouble, Undefined, Stuck, CValue, Num, Ptr}
use Rattle.c_meaning.specs.Operators.{unary, binary}

-- ---- writing values and operators

abbrev pub minus : ℕ → ℤ
minus n = pos 0 -ℤ pos n

abbrev pub int : ℤ → CValue
int v = Num (Computed Int) v

abbrev pub unsigned : ℕ → CValue
unsigned v = Num (Computed UInt) (pos v)

abbrev pub long_long : ℤ → CValue
long_long v = Num (Computed LongLong) v

abbrev pub exact : IntKind → ℤ → CValue
exact kind v = Num (Scalar (Exact kind)) v

abbrev pub with : CBinary → CValue → CValue → Result CValue Trouble
with op a b = binary (table_of T32) op a (Ok b)

-- where int has 16 bits
abbrev pub narrowly : CBinary → CValue → CValue → Result CValue Trouble
narrowly op a b = binary narrow op a (Ok b)

abbrev pub on_ints : CBinary → ℤ → ℤ → Result CValue Trouble
on_ints op a b = with op (int a) (int b)

abbrev pub on_unsigned : CBinary → ℕ → ℕ → Result CValue Trouble
on_unsigned op a b = with op (unsigned a) (unsigned b)

abbrev pub on_exact : CBinary → IntKind → ℤ → ℤ → Result CValue Trouble
on_exact op kind a b = with op (exact kind a) (exact kind b)

abbrev pub of_one : CUnary → CValue → Result CValue Trouble
of_one op v = unary (table_of T32) op v

abbrev pub int_max : ℕ
int_max = 2147483647

abbrev pub int_min : ℤ
int_min = minus 2147483648

-- ---- sums, differences and products

pub record SumExamples : Type 0 where
  pub least : on_ints Add int_min (pos 0) ≡ Ok (int int_min)
  pub past : on_ints Add (pos int_max) (pos 1) ≡ Err (Undefined SignedOverflow)
  pub below : on_ints Sub int_min (pos 1) ≡ Err (Undefined SignedOverflow)
  pub wraps : on_unsigned Add 4294967295 1 ≡ Ok (unsigned 0)
  pub wraps_below : on_unsigned Sub 0 1 ≡ Ok (unsigned 4294967295)
  pub promoted : on_exact Add U8 (pos 255) (pos 1) ≡ Ok (int (pos 256))
  pub promoted_below : on_exact Sub U16 (pos 0) (pos 1) ≡ Ok (int (minus 1))
  pub truths : with Add (Num (Scalar Truth) (pos 1)) (Num (Scalar Truth) (pos 1)) ≡ Ok (int (pos 2))
  pub mixed : with Add (int (minus 1)) (unsigned 0) ≡ Ok (unsigned 4294967295)
  pub represented : with Add (long_long (minus 1)) (unsigned 0) ≡ Ok (long_long (minus 1))
  pub narrow_wraps : narrowly Sub (exact U16 (pos 0)) (exact U16 (pos 1)) ≡ Ok (unsigned 65535)

pub record ProductExamples : Type 0 where
  pub signed : on_ints Mul (minus 46341) (pos 46340) ≡ Ok (int (minus 2147441940))
  pub past : on_ints Mul (pos 46341) (pos 46341) ≡ Err (Undefined SignedOverflow)
  pub promoted : on_exact Mul U16 (pos 65535) (pos 65535) ≡ Err (Undefined SignedOverflow)
  pub chars : on_exact Mul U8 (pos 255) (pos 255) ≡ Ok (int (pos 65025))
  pub wraps : on_unsigned Mul 4294967295 4294967295 ≡ Ok (unsigned 1)
  pub narrow_chars : narrowly Mul (exact U8 (pos 255)) (exact U8 (pos 255)) ≡ Err (Undefined SignedOverflow)
  pub narrow_wraps : narrowly Mul (exact U16 (pos 65535)) (exact U16 (pos 65535)) ≡ Ok (unsigned 1)

-- ---- quotients and remainders

pub record QuotientExamples : Type 0 where
  pub toward_zero : on_ints Div (minus 7) (pos 2) ≡ Ok (int (minus 3))
  pub remainder : on_ints Rem (minus 7) (pos 2) ≡ Ok (int (minus 1))
  pub remainder_by_negative : on_ints Rem (pos 7) (minus 2) ≡ Ok (int (pos 1))
  pub by_zero : on_ints Div (pos 1) (pos 0) ≡ Err (Undefined DivZero)
  pub remainder_by_zero : on_ints Rem (pos 1) (pos 0) ≡ Err (Undefined DivZero)
  pub unsigned_by_zero : on_unsigned Div 1 0 ≡ Err (Undefined DivZero)
  pub unsigned_remainder_by_zero : on_unsigned Rem 1 0 ≡ Err (Undefined DivZero)
  pub least : on_ints Div int_min (minus 1) ≡ Err (Undefined SignedOverflow)
  pub remainder_of_least : on_ints Rem int_min (minus 1) ≡ Err (Undefined SignedOverflow)
  pub promoted : on_exact Div I8 (minus 128) (minus 1) ≡ Ok (int (pos 128))
  pub remainder_promoted : on_exact Rem I8 (minus 128) (minus 1) ≡ Ok (int (pos 0))
  pub mixed : with Div (int (minus 1)) (unsigned 2) ≡ Ok (unsigned 2147483647)
  pub unsigned_remainder : on_unsigned Rem 4294967295 10 ≡ Ok (unsigned 5)
  pub narrow_least : narrowly Div (exact I16 (minus 32768)) (exact I16 (minus 1)) ≡ Err (Undefined SignedOverflow)

-- ---- bits

pub record BitExamples : Type 0 where
  pub and : on_ints And (minus 1) (pos 255) ≡ Ok (int (pos 255))
  pub or : on_ints Or (minus 2) (pos 1) ≡ Ok (int (minus 1))
  pub xor : on_ints Xor (minus 1) (pos 1) ≡ Ok (int (minus 2))
  pub least : on_ints And int_min (minus 1) ≡ Ok (int int_min)
  pub unsigned_and : on_unsigned And 12 10 ≡ Ok (unsigned 8)
  pub unsigned_or : on_unsigned Or 12 10 ≡ Ok (unsigned 14)
  pub unsigned_xor : on_unsigned Xor 12 10 ≡ Ok (unsigned 6)
  pub mixed : with And (int (minus 1)) (unsigned 4294967295) ≡ Ok (unsigned 4294967295)
  pub promoted : on_exact Xor U8 (pos 240) (pos 255) ≡ Ok (int (pos 15))

-- ---- shifts

pub record LeftShiftExamples : Type 0 where
  pub greatest : on_ints Shl (pos 1) (pos 30) ≡ Ok (int (pos 1073741824))
  pub past : on_ints Shl (pos 1) (pos 31) ≡ Err (Undefined SignedOverflow)
  pub negative : on_ints Shl (minus 1) (pos 1) ≡ Err (Undefined SignedOverflow)
  pub negative_by_none : on_ints Shl (minus 1) (pos 0) ≡ Err (Undefined SignedOverflow)
  pub too_far : on_ints Shl (pos 1) (pos 32) ≡ Err (Undefined Shift)
  pub backward : on_ints Shl (pos 1) (minus 1) ≡ Err (Undefined Shift)
  pub negative_too_far : on_ints Shl (minus 1) (pos 32) ≡ Err (Undefined Shift)
  pub unsigned_top : on_unsigned Shl 3 31 ≡ Ok (unsigned 2147483648)
  pub unsigned_too_far : on_unsigned Shl 1 32 ≡ Err (Undefined Shift)
  pub left_type : with Shl (exact U8 (pos 1)) (exact U64 (pos 8)) ≡ Ok (int (pos 256))
  pub left_width : with Shl (exact U8 (pos 1)) (exact U64 (pos 32)) ≡ Err (Undefined Shift)
  pub wide : with Shl (exact I64 (pos 1)) (int (pos 40)) ≡ Ok (long_long (pos (2 ^ 40)))
  pub narrow_past : narrowly Shl (exact U8 (pos 1)) (int (pos 15)) ≡ Err (Undefined SignedOverflow)
  pub narrow_too_far : narrowly Shl (exact U8 (pos 1)) (int (pos 16)) ≡ Err (Undefined Shift)

pub record RightShiftExamples : Type 0 where
  pub down : on_ints Shr (pos 7) (pos 1) ≡ Ok (int (pos 3))
  pub negative : on_ints Shr (minus 1) (pos 1) ≡ Err (Undefined Implementation)
  pub negative_too_far : on_ints Shr (minus 1) (pos 32) ≡ Err (Undefined Shift)
  pub backward : on_ints Shr (pos 1) (minus 1) ≡ Err (Undefined Shift)
  pub unsigned_top : on_unsigned Shr 4294967295 31 ≡ Ok (unsigned 1)
  pub promoted : on_exact Shr U8 (pos 255) (pos 8) ≡ Ok (int (pos 0))

-- ---- comparisons

pub record ComparisonExamples : Type 0 where
  pub equal : on_ints Eq (pos 3) (pos 3) ≡ Ok (int (pos 1))
  pub unequal : on_ints Eq (pos 3) (pos 4) ≡ Ok (int (pos 0))
  pub other : on_ints Ne (pos 3) (pos 4) ≡ Ok (int (pos 1))
  pub no_other : on_ints Ne (pos 3) (pos 3) ≡ Ok (int (pos 0))
  pub less : on_ints Lt (minus 1) (pos 0) ≡ Ok (int (pos 1))
  pub not_less : on_ints Lt (pos 3) (pos 3) ≡ Ok (int (pos 0))
  pub at_most : on_ints Le (pos 3) (pos 3) ≡ Ok (int (pos 1))
  pub not_at_most : on_ints Le (pos 4) (pos 3) ≡ Ok (int (pos 0))
  pub greater : on_ints Gt (pos 4) (pos 3) ≡ Ok (int (pos 1))
  pub not_greater : on_ints Gt (pos 3) (pos 3) ≡ Ok (int (pos 0))
  pub at_least : on_ints Ge (pos 3) (pos 3) ≡ Ok (int (pos 1))
  pub not_at_least : on_ints Ge (minus 1) (pos 0) ≡ Ok (int (pos 0))
  pub mixed : with Lt (int (minus 1)) (unsigned 0) ≡ Ok (int (pos 0))
  pub mixed_equal : with Eq (int (minus 1)) (unsigned 4294967295) ≡ Ok (int (pos 1))
  pub represented : with Lt (long_long (minus 1)) (unsigned 0) ≡ Ok (int (pos 1))
  pub promoted : with Eq (exact U16 (pos 65535)) (exact I16 (minus 1)) ≡ Ok (int (pos 0))
  pub narrow_unsigned : narrowly Eq (exact U16 (pos 65535)) (exact I16 (minus 1)) ≡ Ok (int (pos 1))

-- ---- operators on one value

pub record UnaryExamples : Type 0 where
  pub least : of_one Neg (int int_min) ≡ Err (Undefined SignedOverflow)
  pub opposite : of_one Neg (int (pos int_max)) ≡ Ok (int (minus int_max))
  pub promoted : of_one Neg (exact I8 (minus 128)) ≡ Ok (int (pos 128))
  pub unsigned_opposite : of_one Neg (unsigned 1) ≡ Ok (unsigned 4294967295)
  pub promoted_opposite : of_one Neg (exact U16 (pos 1)) ≡ Ok (int (minus 1))
  pub flipped : of_one Flip (int (pos 5)) ≡ Ok (int (minus 6))
  pub unsigned_flipped : of_one Flip (unsigned 0) ≡ Ok (unsigned 4294967295)
  pub promoted_flipped : of_one Flip (exact U8 (pos 0)) ≡ Ok (int (minus 1))
  pub narrow_flipped : unary narrow Flip (exact U16 (pos 0)) ≡ Ok (unsigned 65535)
  pub not_zero : of_one Not (int (pos 0)) ≡ Ok (int (pos 1))
  pub not_other : of_one Not (exact U64 (pos (2 ^ 32))) ≡ Ok (int (pos 0))

-- ---- pointers are no operands

abbrev pub pointer : CValue
pointer = Ptr false (base.Scalar Truth) (record { object = 0; offset = 0 })

pub record PointerExamples : Type 0 where
  pub sum : with Add pointer (int (pos 1)) ≡ Err Stuck
  pub right : with Sub (int (pos 1)) pointer ≡ Err Stuck
  pub equal : with Eq pointer pointer ≡ Err Stuck
  pub shifted : with Shl pointer (int (pos 1)) ≡ Err Stuck
  pub opposite : of_one Neg pointer ≡ Err Stuck
  pub negated : of_one Not pointer ≡ Err Stuck
  pub decided : with OrElse pointer (int (pos 1)) ≡ Err Stuck
  pub tested : with AndAlso (int (pos 1)) pointer ≡ Err Stuck

-- What holds of conversions and of the types of constants, with examples.
use Rattle.std.specs.Prelude.{◌≡◌, ℕ, ℤ, pos, ◌-ℤ◌, ◌^◌, Some, None, IsTrue}
use Rattle.iv_words.specs.Kinds.{in_range}
use Rattle.iv_words.specs.declared.IntKind.{IntKind}
use Rattle.iv_words.specs.declared.IntKind.TheVariants.{U8, U64, I8}
use Rattle.c_ast.specs.declared.types.Target.{Target}
use Rattle.c_ast.specs.declared.types.Target.TheVariants.{T32}
use Rattle.c_ast.specs.declared.types.CScalar.TheVariants.{Truth, Int as Exact}
use Rattle.c_ast.specs.declared.types.Arith.TheVariants.{Int, UInt, LongLong, ULongLong}
use Rattle.c_ast.specs.declared.types.CKind.TheVariants.{Scalar, Arith as Computed}
use Rattle.c_ast.specs.declared.expr.Suffix.TheVariants.{Plain, U, Ll, Ull}
use Rattle.c_ast.specs.Conversions.{convert, constant_type}

abbrev negative : ℕ → ℤ
negative n = pos 0 -ℤ pos n

-- a number that the type can hold stays as it is (6.3.1.3)
abbrev pub HeldNumbersStay : Type 0
HeldNumbersStay = (t : Target) (kind : IntKind) (v : ℤ) → IsTrue (in_range kind v) → convert t (Scalar (Exact kind)) v ≡ Some v

-- and what comes of a conversion is a number that the type holds
abbrev pub ConvertedNumbersAreHeld : Type 0
ConvertedNumbersAreHeld = (t : Target) (kind : IntKind) (v w : ℤ) → convert t (Scalar (Exact kind)) v ≡ Some w → IsTrue (in_range kind w)

pub record ConversionExamples : Type 0 where
  pub byte : convert T32 (Scalar (Exact U8)) (pos 256) ≡ Some (pos 0)
  pub below : convert T32 (Scalar (Exact U8)) (negative 1) ≡ Some (pos 255)
  pub widest : convert T32 (Scalar (Exact U64)) (negative 1) ≡ Some (pos (2 ^ 64) -ℤ pos 1)
  pub signed : convert T32 (Scalar (Exact I8)) (negative 128) ≡ Some (negative 128)
  pub above : convert T32 (Scalar (Exact I8)) (pos 128) ≡ None
  pub far_below : convert T32 (Scalar (Exact I8)) (negative 129) ≡ None
  pub truth : convert T32 (Scalar Truth) (pos 256) ≡ Some (pos 1)
  pub untruth : convert T32 (Scalar Truth) (pos 0) ≡ Some (pos 0)
  pub computed : convert T32 (Computed UInt) (negative 1) ≡ Some (pos 4294967295)
  pub long_long : convert T32 (Computed LongLong) (pos (2 ^ 63)) ≡ None

pub record ConstantExamples : Type 0 where
  pub int : constant_type T32 Plain 2147483647 ≡ Some Int
  pub long_long : constant_type T32 Plain 2147483648 ≡ Some LongLong
  pub none : constant_type T32 Plain 9223372036854775808 ≡ None
  pub unsigned : constant_type T32 U 4294967295 ≡ Some UInt
  pub unsigned_long_long : constant_type T32 U 4294967296 ≡ Some ULongLong
  pub greatest : constant_type T32 U 18446744073709551615 ≡ Some ULongLong
  pub past : constant_type T32 U 18446744073709551616 ≡ None
  pub ll : constant_type T32 Ll 0 ≡ Some LongLong
  pub ull : constant_type T32 Ull 0 ≡ Some ULongLong

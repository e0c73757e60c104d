-- A second table, and to which types promotions and the usual conversions go: examples that hold the definitions fast.
use Rattle.std.specs.Prelude.{◌≡◌, Option, Some, None}
use Rattle.iv_words.specs.declared.IntKind.{IntKind}
use Rattle.iv_words.specs.declared.IntKind.TheVariants.{U8, U16, U32, U64, I8, I16, I32, I64}
use Rattle.c_ast.specs.declared.types.Target.TheVariants.{T32}
use Rattle.c_ast.specs.declared.types.CScalar.TheVariants.{Truth, Int as Exact}
use Rattle.c_ast.specs.declared.types.Arith.{Arith}
use Rattle.c_ast.specs.declared.types.Arith.TheVariants.{Int, UInt, Long, ULong, LongLong, ULongLong}
use Rattle.c_ast.specs.declared.expr.Suffix.TheVariants.{Plain, U}
use Rattle.c_memory.specs.Codecs.{Little, Big}
use Rattle.c_ast.specs.Targets.{TargetTable, table_of, promote, promote_in, common, common_in}
use Rattle.c_ast.specs.Conversions.{constant_type_in}
use Rattle.c_ast.specs.TargetLaws.{SoundTable}

-- ---- a second table: int has 16 bits, long 32, long long 64; the highest byte is first, and no alignment is over 2

abbrev pub exact_with_narrow_int : IntKind → Option Arith
exact_with_narrow_int I8 = None
exact_with_narrow_int I16 = Some Int
exact_with_narrow_int I32 = Some Long
exact_with_narrow_int I64 = Some LongLong
exact_with_narrow_int U8 = None
exact_with_narrow_int U16 = Some UInt
exact_with_narrow_int U32 = Some ULong
exact_with_narrow_int U64 = Some ULongLong

abbrev pub narrow : TargetTable
narrow = record { int_bits = 16; long_bits = 32; long_long_bits = 64; byte_order = Big; greatest_alignment = 2; exact = exact_with_narrow_int }

pub record PromotionExamples : Type 0 where
  pub truth : promote T32 Truth ≡ Int
  pub char : promote T32 (Exact I8) ≡ Int
  pub unsigned_char : promote T32 (Exact U8) ≡ Int
  pub unsigned_short : promote T32 (Exact U16) ≡ Int
  pub unsigned_int : promote T32 (Exact U32) ≡ UInt
  pub int : promote T32 (Exact I32) ≡ Int
  pub long_long : promote T32 (Exact I64) ≡ LongLong
  pub unsigned_long_long : promote T32 (Exact U64) ≡ ULongLong
  pub narrow_char : promote_in narrow (Exact U8) ≡ Int
  pub narrow_unsigned : promote_in narrow (Exact U16) ≡ UInt
  pub narrow_signed : promote_in narrow (Exact I16) ≡ Int
  pub narrow_long : promote_in narrow (Exact I32) ≡ Long

pub record CommonExamples : Type 0 where
  pub same : common T32 Int Int ≡ Int
  pub greater : common T32 Int Long ≡ Long
  pub unsigned : common T32 Int UInt ≡ UInt
  pub unsigned_greater : common T32 Long ULongLong ≡ ULongLong
  pub corresponding : common T32 Long UInt ≡ ULong
  pub turned : common T32 UInt Long ≡ ULong
  pub represented : common T32 LongLong ULong ≡ LongLong
  pub narrow_represented : common_in narrow Long UInt ≡ Long
  pub narrow_unsigned : common_in narrow Int UInt ≡ UInt

-- which types constants have where int has 16 bits
pub record NarrowConstantExamples : Type 0 where
  pub int : constant_type_in narrow Plain 32767 ≡ Some Int
  pub long : constant_type_in narrow Plain 32768 ≡ Some Long
  pub unsigned : constant_type_in narrow U 65535 ≡ Some UInt
  pub unsigned_long : constant_type_in narrow U 65536 ≡ Some ULong

abbrev pub NarrowIsSound : Type 0
NarrowIsSound = SoundTable narrow

abbrev pub LowestByteFirst : Type 0
LowestByteFirst = (table_of T32).byte_order ≡ Little

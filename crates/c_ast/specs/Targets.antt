-- What a C compiler decides about types, as a table with one row for each target, and what follows of it: the integer
-- promotions (C99 6.3.1.1) and the usual arithmetic conversions (6.3.1.8). The rules speak of any table.
use Rattle.std.specs.Prelude.{ℕ, Bool, true, false, ◌&&◌, if◌then◌else◌, nat_lt, nat_le, Option, Some, None}
use Rattle.iv_words.specs.Kinds.{in_range_of, least_of, greatest_of, width, is_signed}
use Rattle.iv_words.specs.declared.IntKind.{IntKind}
use Rattle.iv_words.specs.declared.IntKind.TheVariants.{U8, U16, U32, U64, I8, I16, I32, I64}
use Rattle.c_memory.specs.Codecs.{ByteOrder, Little}
use Rattle.c_ast.specs.declared.types.Target.{Target}
use Rattle.c_ast.specs.declared.types.Target.TheVariants.{T32}
use Rattle.c_ast.specs.declared.types.CScalar.{CScalar}
use Rattle.c_ast.specs.declared.types.CScalar.TheVariants.{Truth, Int as Exact}
use Rattle.c_ast.specs.declared.types.Arith.{Arith}
use Rattle.c_ast.specs.declared.types.Arith.TheVariants.{Int, UInt, Long, ULong, LongLong, ULongLong}
use Rattle.c_ast.specs.declared.types.CKind.{CKind}
use Rattle.c_ast.specs.declared.types.CKind.TheVariants.{Scalar, Arith as Computed}

-- ---- the table

-- The bits of int, long and long long, signed and unsigned alike (6.2.5, 6.2.6.2); the byte order; the greatest alignment, in bytes,
-- to which a scalar of at least so many bytes is aligned; and which of these types each exact-width type is (7.18.1.1): none for
-- the chars and shorts, whose rank is below that of int.
pub record TargetTable : Type 0 where
  pub int_bits : ℕ
  pub long_bits : ℕ
  pub long_long_bits : ℕ
  pub byte_order : ByteOrder
  pub greatest_alignment : ℕ
  pub exact : IntKind → Option Arith

-- int8_t is signed char, int16_t short, int32_t int and int64_t long long, the unsigned ones alike
abbrev pub exact_with_wide_int : IntKind → Option Arith
exact_with_wide_int I8 = None
exact_with_wide_int I16 = None
exact_with_wide_int I32 = Some Int
exact_with_wide_int I64 = Some LongLong
exact_with_wide_int U8 = None
exact_with_wide_int U16 = None
exact_with_wide_int U32 = Some UInt
exact_with_wide_int U64 = Some ULongLong

abbrev pub table_of : Target → TargetTable
table_of T32 = record { int_bits = 32; long_bits = 32; long_long_bits = 64; byte_order = Little; greatest_alignment = 8; exact = exact_with_wide_int }

-- ---- the types in which C computes

-- the number of bits
abbrev pub arith_bits : TargetTable → Arith → ℕ
arith_bits t Int = t.int_bits
arith_bits t UInt = t.int_bits
arith_bits t Long = t.long_bits
arith_bits t ULong = t.long_bits
arith_bits t LongLong = t.long_long_bits
arith_bits t ULongLong = t.long_long_bits

abbrev pub arith_width : Target → Arith → ℕ
arith_width t a = arith_bits (table_of t) a

abbrev pub arith_signed : Arith → Bool
arith_signed Int = true
arith_signed UInt = false
arith_signed Long = true
arith_signed ULong = false
arith_signed LongLong = true
arith_signed ULongLong = false

-- the conversion rank, which the signed and the unsigned type share (6.3.1.1)
abbrev pub rank : Arith → ℕ
rank Int = 0
rank UInt = 0
rank Long = 1
rank ULong = 1
rank LongLong = 2
rank ULongLong = 2

-- the unsigned type that corresponds to a type
abbrev pub unsigned_of : Arith → Arith
unsigned_of Int = UInt
unsigned_of UInt = UInt
unsigned_of Long = ULong
unsigned_of ULong = ULong
unsigned_of LongLong = ULongLong
unsigned_of ULongLong = ULongLong

-- a type of so many bits and this sign can represent all values of one of other bits and sign
abbrev pub represents : ℕ → Bool → ℕ → Bool → Bool
represents bits signed other_bits other_signed =
    in_range_of bits signed (least_of other_bits other_signed) && in_range_of bits signed (greatest_of other_bits other_signed)

-- ---- integer promotions (6.3.1.1)

-- of a type whose rank is below that of int: to int where that represents all its values, else to unsigned int
abbrev pub promote_small : TargetTable → ℕ → Bool → Arith
promote_small t bits signed = if represents t.int_bits true bits signed then Int else UInt

-- every other type stays
abbrev pub promote_exact : TargetTable → IntKind → Option Arith → Arith
promote_exact t kind None = promote_small t (width kind) (is_signed kind)
promote_exact t kind (Some a) = a

-- `bool` has the least rank of all, and the values 0 and 1 (6.2.5)
abbrev pub promote_in : TargetTable → CScalar → Arith
promote_in t Truth = promote_small t 1 false
promote_in t (Exact kind) = promote_exact t kind (t.exact kind)

abbrev pub promote : Target → CScalar → Arith
promote t s = promote_in (table_of t) s

-- the type of a value once it is promoted
abbrev pub promoted : TargetTable → CKind → Arith
promoted t (Scalar s) = promote_in t s
promoted t (Computed a) = a

-- ---- usual arithmetic conversions (6.3.1.8), after promotion

-- of two signed or two unsigned types: the one of greater rank, the type itself where there is but one
abbrev pub common_alike : Arith → Arith → Arith
common_alike a b = if nat_lt (rank a) (rank b) then b else a

-- Of an unsigned and a signed type: the unsigned one where its rank is not below; else the signed one where it represents
-- all values of the unsigned one; else the unsigned type that corresponds to the signed one.
abbrev pub common_mixed : TargetTable → Arith → Arith → Arith
common_mixed t u s =
    if nat_le (rank s) (rank u) then u
    else (if represents (arith_bits t s) true (arith_bits t u) false then s else unsigned_of s)

abbrev pub common_signed : TargetTable → Bool → Bool → Arith → Arith → Arith
common_signed t true true a b = common_alike a b
common_signed t false false a b = common_alike a b
common_signed t false true a b = common_mixed t a b
common_signed t true false a b = common_mixed t b a

abbrev pub common_in : TargetTable → Arith → Arith → Arith
common_in t a b = common_signed t (arith_signed a) (arith_signed b) a b

abbrev pub common : Target → Arith → Arith → Arith
common t a b = common_in (table_of t) a b

-- the type to which an operator converts values of two types
abbrev pub common_type : TargetTable → CKind → CKind → Arith
common_type t k l = common_in t (promoted t k) (promoted t l)

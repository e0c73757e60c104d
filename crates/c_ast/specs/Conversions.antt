-- How numbers are converted (C99 6.3.1.2, 6.3.1.3), and which type a constant has (6.4.4.1). The rules speak of any table of a target.
use Rattle.std.specs.Prelude.{ℕ, ℤ, pos, Bool, true, false, ◌&&◌, not, if◌then◌else◌, List, [], ◌∷◌, Option, Some, None}
use Rattle.std.specs.Ordering.{int_eq}
use Rattle.iv_words.specs.Bits.{modulo}
use Rattle.iv_words.specs.Kinds.{in_range_of, in_range, width, is_signed}
use Rattle.c_ast.specs.declared.types.Target.{Target}
use Rattle.c_ast.specs.declared.types.CScalar.TheVariants.{Truth, Int as Exact}
use Rattle.c_ast.specs.declared.types.Arith.{Arith}
use Rattle.c_ast.specs.declared.types.Arith.TheVariants.{Int, UInt, Long, ULong, LongLong, ULongLong}
use Rattle.c_ast.specs.declared.types.CKind.{CKind}
use Rattle.c_ast.specs.declared.types.CKind.TheVariants.{Scalar, Arith as Computed}
use Rattle.c_ast.specs.declared.expr.Suffix.{Suffix}
use Rattle.c_ast.specs.declared.expr.Suffix.TheVariants.{Plain, U, Ll, Ull}
use Rattle.c_ast.specs.Targets.{TargetTable, table_of, arith_bits, arith_signed}

-- ---- conversions

-- To an unsigned type the number is taken modulo 2 ^ bits; to a signed type it stays, and where the type cannot hold it the
-- implementation decides (6.3.1.3).
abbrev pub converted : ℕ → Bool → ℤ → Option ℤ
converted bits false v = Some (modulo bits v)
converted bits true v = if in_range_of bits true v then Some v else None

-- conversion of a number to a type; to `bool` it gives 0 for 0 and 1 for all else (6.3.1.2)
abbrev pub convert_in : TargetTable → CKind → ℤ → Option ℤ
convert_in t (Scalar Truth) v = Some (if int_eq v (pos 0) then pos 0 else pos 1)
convert_in t (Scalar (Exact kind)) v = converted (width kind) (is_signed kind) v
convert_in t (Computed a) v = converted (arith_bits t a) (arith_signed a) v

abbrev pub convert : Target → CKind → ℤ → Option ℤ
convert t kind v = convert_in (table_of t) kind v

-- the number is one of the type
abbrev pub can_hold : TargetTable → CKind → ℤ → Bool
can_hold t (Scalar Truth) v = in_range_of 1 false v
can_hold t (Scalar (Exact kind)) v = in_range kind v
can_hold t (Computed a) v = in_range_of (arith_bits t a) (arith_signed a) v

abbrev pub kind_signed : CKind → Bool
kind_signed (Scalar Truth) = false
kind_signed (Scalar (Exact kind)) = is_signed kind
kind_signed (Computed a) = arith_signed a

-- the type is signed and cannot hold the number
abbrev pub is_lost : TargetTable → CKind → ℤ → Bool
is_lost t kind v = kind_signed kind && not (can_hold t kind v)

-- ---- constants

-- the types that a decimal constant may have, by its suffix
abbrev pub candidates : Suffix → List Arith
candidates Plain = Int ∷ Long ∷ LongLong ∷ []
candidates U = UInt ∷ ULong ∷ ULongLong ∷ []
candidates Ll = LongLong ∷ []
candidates Ull = ULongLong ∷ []

-- the first of the types that can represent the number
abbrev pub first_of_types : TargetTable → List Arith → ℤ → Option Arith
first_of_types t [] v = None
first_of_types t (a ∷ rest) v = if in_range_of (arith_bits t a) (arith_signed a) v then Some a else first_of_types t rest v

abbrev pub constant_type_in : TargetTable → Suffix → ℕ → Option Arith
constant_type_in t suffix v = first_of_types t (candidates suffix) (pos v)

abbrev pub constant_type : Target → Suffix → ℕ → Option Arith
constant_type t suffix v = constant_type_in (table_of t) suffix v

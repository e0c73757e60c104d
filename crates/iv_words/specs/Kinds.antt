-- The kinds of whole numbers: width, sign and range (C99 7.18.1.1; the signed ones in two's complement).
use Rattle.std.specs.Prelude.{ℕ, ◌-◌, ◌/◌, ◌^◌, ℤ, pos, ◌-ℤ◌, Bool, true, false, ◌&&◌, if◌then◌else◌, int_le, nat_eq}
use Rattle.iv_words.specs.declared.kind.IntKind.{IntKind}
use Rattle.iv_words.specs.declared.kind.IntKind.TheVariants.{U8, U16, U32, U64, I8, I16, I32, I64}

-- the number of bits
abbrev pub width : IntKind → ℕ
width U8 = 8
width U16 = 16
width U32 = 32
width U64 = 64
width I8 = 8
width I16 = 16
width I32 = 32
width I64 = 64

abbrev pub is_signed : IntKind → Bool
is_signed U8 = false
is_signed U16 = false
is_signed U32 = false
is_signed U64 = false
is_signed I8 = true
is_signed I16 = true
is_signed I32 = true
is_signed I64 = true

-- the number of bytes of eight bits
abbrev pub kind_bytes : IntKind → ℕ
kind_bytes kind = width kind / 8

-- the kind of so many bits, of those that there are
abbrev pub kind_at : ℕ → Bool → IntKind
kind_at bits false = if nat_eq bits 8 then U8 else (if nat_eq bits 16 then U16 else (if nat_eq bits 32 then U32 else U64))
kind_at bits true = if nat_eq bits 8 then I8 else (if nat_eq bits 16 then I16 else (if nat_eq bits 32 then I32 else I64))

-- the least and the greatest number of so many bits
abbrev pub least_of : ℕ → Bool → ℤ
least_of bits signed = if signed then pos 0 -ℤ pos (2 ^ (bits - 1)) else pos 0

abbrev pub greatest_of : ℕ → Bool → ℤ
greatest_of bits signed = if signed then pos (2 ^ (bits - 1)) -ℤ pos 1 else pos (2 ^ bits) -ℤ pos 1

abbrev pub least : IntKind → ℤ
least kind = least_of (width kind) (is_signed kind)

abbrev pub greatest : IntKind → ℤ
greatest kind = greatest_of (width kind) (is_signed kind)

-- the number is in the range of so many bits
abbrev pub in_range_of : ℕ → Bool → ℤ → Bool
in_range_of bits signed v = int_le (least_of bits signed) v && int_le v (greatest_of bits signed)

-- the number is in the kind's range
abbrev pub in_range : IntKind → ℤ → Bool
in_range kind v = in_range_of (width kind) (is_signed kind) v

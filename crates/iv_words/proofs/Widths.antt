-- Kinds: their widths, a kind by its width and sign, and the kind of twice as many bits.
use Rattle.std.proofs.Common.{◌≡◌, ◌*◌, ◌≤◌, ℤ, Bool, true, IsTrue, arith, refl, sym, subst, ap, ◌∙◌}
use Rattle.std.specs.Prelude.{nat_lt}
use Rattle.iv_words.specs.Kinds.{in_range_of, in_range, width, is_signed, kind_at}
use Rattle.iv_words.specs.declared.kind.IntKind.{IntKind}
use Rattle.iv_words.specs.declared.kind.IntKind.TheVariants.{U8, U16, U32, U64, I8, I16, I32, I64}

pub width_least : (kind : IntKind) → 8 ≤ width kind
width_least U8 = omega arith
width_least U16 = omega arith
width_least U32 = omega arith
width_least U64 = omega arith
width_least I8 = omega arith
width_least I16 = omega arith
width_least I32 = omega arith
width_least I64 = omega arith

pub width_most : (kind : IntKind) → width kind ≤ 64
width_most U8 = omega arith
width_most U16 = omega arith
width_most U32 = omega arith
width_most U64 = omega arith
width_most I8 = omega arith
width_most I16 = omega arith
width_most I32 = omega arith
width_most I64 = omega arith

pub kind_at_width : (kind : IntKind) → kind_at (width kind) (is_signed kind) ≡ kind
kind_at_width U8 = refl
kind_at_width U16 = refl
kind_at_width U32 = refl
kind_at_width U64 = refl
kind_at_width I8 = refl
kind_at_width I16 = refl
kind_at_width I32 = refl
kind_at_width I64 = refl

-- a kind by its width and its sign
pub kind_of_sign : (kind : IntKind) (signed : Bool) → is_signed kind ≡ signed → kind_at (width kind) signed ≡ kind
kind_of_sign kind signed e = ap (kind_at (width kind)) (sym e) ∙ kind_at_width kind

pub range_of_sign : (kind : IntKind) (signed : Bool) → is_signed kind ≡ signed → (v : ℤ) → IsTrue (in_range kind v) → IsTrue (in_range_of (width kind) signed v)
range_of_sign kind signed e v h = subst (λ b. IsTrue (in_range_of (width kind) b v)) e h

pub in_range_by_sign : (kind : IntKind) (signed : Bool) → is_signed kind ≡ signed → (v : ℤ) → IsTrue (in_range_of (width kind) signed v) → IsTrue (in_range kind v)
in_range_by_sign kind signed e v h = subst (λ b. IsTrue (in_range_of (width kind) b v)) (sym e) h

-- ---- the kind of twice as many bits and the same sign

pub record IsDouble (kind double : IntKind) : Type 0 where
  pub bits : width double ≡ 2 * width kind
  pub sign : is_signed double ≡ is_signed kind

pub doubled : (kind : IntKind) → nat_lt (width kind) 64 ≡ true → IsDouble kind (kind_at (2 * width kind) (is_signed kind))
doubled U8 l = record { bits = refl; sign = refl }
doubled U16 l = record { bits = refl; sign = refl }
doubled U32 l = record { bits = refl; sign = refl }
doubled I8 l = record { bits = refl; sign = refl }
doubled I16 l = record { bits = refl; sign = refl }
doubled I32 l = record { bits = refl; sign = refl }
doubled U64 l = cc
doubled I64 l = cc

-- a number of twice as many bits is in its range
pub in_double : (kind double : IntKind) → IsDouble kind double → (signed : Bool) → is_signed kind ≡ signed → (v : ℤ) → IsTrue (in_range_of (2 * width kind) signed v) → IsTrue (in_range double v)
in_double kind double d signed e v h =
    subst (λ n. IsTrue (in_range_of n (is_signed double) v)) (sym d.bits) (subst (λ b. IsTrue (in_range_of (2 * width kind) b v)) (sym (d.sign ∙ e)) h)

-- The kinds of whole numbers are scalars of a byte at least, told apart, and hold numbers of their bits and sign.
use Rattle.std.proofs.Common.{◌≡◌, ℕ, ◌*◌, ◌≤◌, true, IsTrue, refl, subst, arith}
use denote.Enum.Bare.{same_true}
use Rattle.iv_words.specs.Kinds.{width, kind_bytes, is_signed, in_range_of}
use Rattle.iv_words.specs.declared.IntKind.{IntKind}
use Rattle.iv_words.specs.declared.IntKind.TheVariants.{U8, U16, U32, U64, I8, I16, I32, I64}
use Rattle.iv_words.specs.contracts.kind.IntKind as kinds
use Rattle.c_memory.specs.Codecs.{ByteOrder, SoundScalars}
use Rattle.c_memory.specs.KindTables.{same_kind, kind_table}

bits : (kind : IntKind) → width kind ≡ 8 * kind_bytes kind
bits U8 = refl
bits U16 = refl
bits U32 = refl
bits U64 = refl
bits I8 = refl
bits I16 = refl
bits I32 = refl
bits I64 = refl

some : (kind : IntKind) → 1 ≤ kind_bytes kind
some U8 = omega arith
some U16 = omega arith
some U32 = omega arith
some U64 = omega arith
some I8 = omega arith
some I16 = omega arith
some I32 = omega arith
some I64 = omega arith

itself : (kind : IntKind) → same_kind kind kind ≡ true
itself U8 = refl
itself U16 = refl
itself U32 = refl
itself U64 = refl
itself I8 = refl
itself I16 = refl
itself I32 = refl
itself I64 = refl

pub kinds_are_sound : (order : ByteOrder) (most : ℕ) → SoundScalars (kind_table order most)
kinds_are_sound order most = record {
  some = some;
  itself = itself;
  exact = λ a b e. same_true kinds.the_type tt a b e;
  within = λ kind v h. subst (λ n. IsTrue (in_range_of n (is_signed kind) v)) (bits kind) h;
}

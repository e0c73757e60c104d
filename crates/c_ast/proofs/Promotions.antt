-- The tables of the targets are sound, and over a sound table promotions and signed common types keep values.
use Rattle.std.proofs.Common.{◌≡◌, ℕ, ◌-◌, ◌≤◌, ℤ, Bool, true, false, IsTrue, arith, refl, sym, subst, ◌∙◌}
use Rattle.std.specs.Prelude.{Option, Some, None, if◌then◌else◌, nat_lt, nat_le}
use Rattle.std.proofs.lemmas.Int.{ints}
use Rattle.std.proofs.lemmas.Nat.{pow_pos}
use Rattle.iv_words.specs.Kinds.{in_range_of, in_range, width, is_signed}
use Rattle.iv_words.specs.declared.IntKind.{IntKind}
use Rattle.iv_words.specs.declared.IntKind.TheVariants.{U8, U16, U32, U64, I8, I16, I32, I64}
use Rattle.c_ast.specs.declared.types.Target.TheVariants.{T32}
use Rattle.c_ast.specs.declared.types.Arith.{Arith}
use Rattle.c_ast.specs.declared.types.Arith.TheVariants.{Int, UInt, Long, ULong, LongLong, ULongLong}
use Rattle.c_ast.specs.declared.types.CScalar.TheVariants.{Truth, Int as Exact}
use Rattle.c_ast.specs.declared.types.CKind.{CKind}
use Rattle.c_ast.specs.declared.types.CKind.TheVariants.{Scalar, Arith as Computed}
use Rattle.c_ast.specs.Targets.{TargetTable, table_of, arith_bits, arith_signed, represents, promote_small, promote_exact, promoted, rank, unsigned_of, common_alike, common_mixed, common_signed, common_in}
use Rattle.c_ast.specs.Conversions.{can_hold}
use Rattle.c_ast.specs.TargetLaws.{SoundTable, TargetsAreSound, PromotionKeepsValues, SignedCommonKeepsValues}
use Rattle.iv_words.proofs.Ranges.{powers_grow, wider}
use Rattle.iv_words.proofs.Widths.{width_least}
use Rattle.c_ast.proofs.Ranges.{represented}

-- ---- the tables

below_int_32 : (kind : IntKind) → (table_of T32).exact kind ≡ None → width kind ≤ 32
below_int_32 U8 e = omega arith
below_int_32 U16 e = omega arith
below_int_32 I8 e = omega arith
below_int_32 I16 e = omega arith
below_int_32 kind e = cc

exact_bits_32 : (kind : IntKind) (a : Arith) → (table_of T32).exact kind ≡ Some a → arith_bits (table_of T32) a ≡ width kind
exact_bits_32 U32 a e = let q : UInt ≡ a = cc in subst (λ b. arith_bits (table_of T32) b ≡ 32) q refl
exact_bits_32 U64 a e = let q : ULongLong ≡ a = cc in subst (λ b. arith_bits (table_of T32) b ≡ 64) q refl
exact_bits_32 I32 a e = let q : Int ≡ a = cc in subst (λ b. arith_bits (table_of T32) b ≡ 32) q refl
exact_bits_32 I64 a e = let q : LongLong ≡ a = cc in subst (λ b. arith_bits (table_of T32) b ≡ 64) q refl
exact_bits_32 kind a e = cc

exact_sign_32 : (kind : IntKind) (a : Arith) → (table_of T32).exact kind ≡ Some a → arith_signed a ≡ is_signed kind
exact_sign_32 U32 a e = let q : UInt ≡ a = cc in subst (λ b. arith_signed b ≡ false) q refl
exact_sign_32 U64 a e = let q : ULongLong ≡ a = cc in subst (λ b. arith_signed b ≡ false) q refl
exact_sign_32 I32 a e = let q : Int ≡ a = cc in subst (λ b. arith_signed b ≡ true) q refl
exact_sign_32 I64 a e = let q : LongLong ≡ a = cc in subst (λ b. arith_signed b ≡ true) q refl
exact_sign_32 kind a e = cc

pub targets_are_sound : TargetsAreSound
targets_are_sound T32 = record {
  int_least = omega arith;
  long_least = omega arith;
  long_long_least = omega arith;
  int_in_long = omega arith;
  long_in_long_long = omega arith;
  below_int = below_int_32;
  exact_bits = exact_bits_32;
  exact_sign = exact_sign_32;
  some_alignment = omega arith;
}

-- ---- promotions

module _ (t : TargetTable) (sound : SoundTable t) where
  -- a signed type of no more bits than int is represented in int
  signed_in_int : (bits : ℕ) → 1 ≤ bits → bits ≤ t.int_bits → IsTrue (represents t.int_bits true bits true)
  signed_in_int bits one le =
      let p = powers_grow (bits - 1) (t.int_bits - 1) (omega arith) in let a = pow_pos (bits - 1) in let b = pow_pos (t.int_bits - 1) in grind (arith, ints)

  promoted_by : (bits : ℕ) (signed : Bool) (v : ℤ) → 1 ≤ bits → bits ≤ t.int_bits → IsTrue (in_range_of bits signed v) → (test : Bool) → represents t.int_bits true bits signed ≡ test
      → IsTrue (can_hold t (Computed (if test then Int else UInt)) v)
  promoted_by bits signed v one le h true e = represented t.int_bits true bits signed v e h
  promoted_by bits false v one le h false e = wider bits t.int_bits false v le h
  promoted_by bits true v one le h false e = let r = signed_in_int bits one le in let no : ⊥ = cc in absurd no

  pub promote_small_keeps : (bits : ℕ) (signed : Bool) (v : ℤ) → 1 ≤ bits → bits ≤ t.int_bits → IsTrue (in_range_of bits signed v)
      → IsTrue (can_hold t (Computed (promote_small t bits signed)) v)
  promote_small_keeps bits signed v one le h = promoted_by bits signed v one le h (represents t.int_bits true bits signed) refl

  exact_keeps : (kind : IntKind) (v : ℤ) → IsTrue (in_range kind v) → (found : Option Arith) → t.exact kind ≡ found → IsTrue (can_hold t (Computed (promote_exact t kind found)) v)
  exact_keeps kind v h None e = promote_small_keeps (width kind) (is_signed kind) v (omega (arith, width_least kind)) (sound.below_int kind e) h
  exact_keeps kind v h (Some a) e =
      subst (λ bits. IsTrue (in_range_of bits (arith_signed a) v)) (sym (sound.exact_bits kind a e)) (subst (λ signed. IsTrue (in_range_of (width kind) signed v)) (sym (sound.exact_sign kind a e)) h)

  pub promotion_keeps : (k : CKind) (v : ℤ) → IsTrue (can_hold t k v) → IsTrue (can_hold t (Computed (promoted t k)) v)
  promotion_keeps (Scalar Truth) v h = let i = sound.int_least in promote_small_keeps 1 false v (omega arith) (omega arith) h
  promotion_keeps (Scalar (Exact kind)) v h = exact_keeps kind v h (t.exact kind) refl
  promotion_keeps (Computed a) v h = h

pub promotion_keeps_values : PromotionKeepsValues
promotion_keeps_values t sound k v h = promotion_keeps t sound k v h

-- ---- common types

module _ (t : TargetTable) (sound : SoundTable t) where
  abbrev bits : Arith → ℕ
  bits a = arith_bits t a

  abbrev holds : Arith → ℤ → Type 0
  holds a v = IsTrue (can_hold t (Computed a) v)

  int_is_least : (b : Arith) → t.int_bits ≤ bits b
  int_is_least Int = omega arith
  int_is_least UInt = omega arith
  int_is_least Long = sound.int_in_long
  int_is_least ULong = sound.int_in_long
  int_is_least LongLong = let p = sound.int_in_long in let q = sound.long_in_long_long in omega arith
  int_is_least ULongLong = let p = sound.int_in_long in let q = sound.long_in_long_long in omega arith

  long_under : (b : Arith) → 1 ≤ rank b → t.long_bits ≤ bits b
  long_under Int le = absurd (omega arith)
  long_under UInt le = absurd (omega arith)
  long_under Long le = omega arith
  long_under ULong le = omega arith
  long_under LongLong le = sound.long_in_long_long
  long_under ULongLong le = sound.long_in_long_long

  long_long_under : (b : Arith) → 2 ≤ rank b → t.long_long_bits ≤ bits b
  long_long_under Int le = absurd (omega arith)
  long_long_under UInt le = absurd (omega arith)
  long_long_under Long le = absurd (omega arith)
  long_long_under ULong le = absurd (omega arith)
  long_long_under LongLong le = omega arith
  long_long_under ULongLong le = omega arith

  -- a type of less rank is no wider
  pub bits_by_rank : (a b : Arith) → rank a ≤ rank b → bits a ≤ bits b
  bits_by_rank Int b le = int_is_least b
  bits_by_rank UInt b le = int_is_least b
  bits_by_rank Long b le = long_under b le
  bits_by_rank ULong b le = long_under b le
  bits_by_rank LongLong b le = long_long_under b le
  bits_by_rank ULongLong b le = long_long_under b le

  wider_arith : (a b : Arith) (v : ℤ) → arith_signed a ≡ arith_signed b → rank a ≤ rank b → holds a v → holds b v
  wider_arith a b v e le h =
      wider (bits a) (bits b) (arith_signed b) v (bits_by_rank a b le) (subst (λ signed. IsTrue (in_range_of (bits a) signed v)) e h)

  abbrev Keeps : (a b c : Arith) (v : ℤ) → Type 0
  Keeps a b c v = (holds a v → holds c v) × (holds b v → holds c v)

  alike_by : (a b : Arith) (v : ℤ) → arith_signed a ≡ arith_signed b → (test : Bool) → nat_lt (rank a) (rank b) ≡ test → Keeps a b (if test then b else a) v
  alike_by a b v e true l = (λ h. wider_arith a b v e (grind arith) h, λ h. h)
  alike_by a b v e false l = (λ h. h, λ h. wider_arith b a v (sym e) (grind arith) h)

  -- of two types of one sign the common type has all values
  pub alike_keeps : (a b : Arith) (v : ℤ) → arith_signed a ≡ arith_signed b → Keeps a b (common_alike a b) v
  alike_keeps a b v e = alike_by a b v e (nat_lt (rank a) (rank b)) refl

  unsigned_is_not_signed : (a : Arith) → arith_signed (unsigned_of a) ≡ false
  unsigned_is_not_signed Int = refl
  unsigned_is_not_signed UInt = refl
  unsigned_is_not_signed Long = refl
  unsigned_is_not_signed ULong = refl
  unsigned_is_not_signed LongLong = refl
  unsigned_is_not_signed ULongLong = refl

  mixed_else : (u s : Arith) (v : ℤ) → arith_signed u ≡ false → arith_signed s ≡ true → (test : Bool) → represents (bits s) true (bits u) false ≡ test
      → arith_signed (if test then s else unsigned_of s) ≡ true → Keeps u s (if test then s else unsigned_of s) v
  mixed_else u s v eu es true l e =
      (λ h. subst (λ signed. IsTrue (in_range_of (bits s) signed v)) (sym es) (represented (bits s) true (bits u) false v l (subst (λ signed. IsTrue (in_range_of (bits u) signed v)) eu h)), λ h. h)
  mixed_else u s v eu es false l e = let n = unsigned_is_not_signed s in let no : ⊥ = cc in absurd no

  mixed_by : (u s : Arith) (v : ℤ) → arith_signed u ≡ false → arith_signed s ≡ true → (test : Bool)
      → arith_signed (if test then u else (if represents (bits s) true (bits u) false then s else unsigned_of s)) ≡ true
      → Keeps u s (if test then u else (if represents (bits s) true (bits u) false then s else unsigned_of s)) v
  mixed_by u s v eu es true e = let no : ⊥ = cc in absurd no
  mixed_by u s v eu es false e = mixed_else u s v eu es (represents (bits s) true (bits u) false) refl e

  -- of two types of different sign the common type has all values, if it is signed
  mixed_keeps : (u s : Arith) (v : ℤ) → arith_signed u ≡ false → arith_signed s ≡ true → arith_signed (common_mixed t u s) ≡ true → Keeps u s (common_mixed t u s) v
  mixed_keeps u s v eu es e = mixed_by u s v eu es (nat_le (rank s) (rank u)) e

  signed_by : (a b : Arith) (v : ℤ) (x y : Bool) → arith_signed a ≡ x → arith_signed b ≡ y → arith_signed (common_signed t x y a b) ≡ true → Keeps a b (common_signed t x y a b) v
  signed_by a b v true true ea eb e = alike_keeps a b v (ea ∙ sym eb)
  signed_by a b v false false ea eb e = alike_keeps a b v (ea ∙ sym eb)
  signed_by a b v false true ea eb e = mixed_keeps a b v ea eb e
  signed_by a b v true false ea eb e = let k = mixed_keeps b a v eb ea e in (k.1, k.0)

  pub signed_common_keeps : (a b : Arith) (v : ℤ) → arith_signed (common_in t a b) ≡ true → Keeps a b (common_in t a b) v
  signed_common_keeps a b v e = signed_by a b v (arith_signed a) (arith_signed b) refl refl e

pub signed_common_keeps_values : SignedCommonKeepsValues
signed_common_keeps_values t sound a b v e = signed_common_keeps t sound a b v e

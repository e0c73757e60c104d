-- What the forms ask of a target's table, and to which types it promotes the kinds.
use Rattle.std.proofs.Common.{◌≡◌, ℕ, ◌*◌, ◌<◌, ◌≤◌, ◌⊎◌, inl, inr, Bool, true, false, arith, refl, sym, subst, ap, ◌∙◌}
use Rattle.std.specs.Prelude.{Option, Some, None, if◌then◌else◌}
use Rattle.iv_words.specs.Kinds.{width, is_signed}
use Rattle.iv_words.specs.declared.IntKind.{IntKind}
use Rattle.iv_words.specs.declared.IntKind.TheVariants.{U8, U16, U32, U64, I8, I16, I32, I64}
use Rattle.c_ast.specs.declared.Target.{Target}
use Rattle.c_ast.specs.declared.Target.TheVariants.{T32}
use Rattle.c_ast.specs.declared.Arith.{Arith}
use Rattle.c_ast.specs.declared.Arith.TheVariants.{Int, UInt, Long, ULong, LongLong, ULongLong}
use Rattle.c_ast.specs.declared.CScalar.TheVariants.{Int as Exact}
use Rattle.c_ast.specs.declared.CKind.TheVariants.{Scalar}
use Rattle.c_ast.specs.Targets.{TargetTable, table_of, arith_bits, arith_signed, represents, promote_small, promote_exact, promoted, common_in}
use Rattle.c_ast.specs.TargetLaws.{SoundTable}
use Rattle.c_ast.specs.TargetExamples.{narrow}
use Rattle.c_ast.proofs.Promotions.{targets_are_sound}

-- a sound table, whose int has 16 or 32 bits
pub record CTable (t : TargetTable) : Type 0 where
  pub sound : SoundTable t
  pub int_is : (t.int_bits ≡ 16) ⊎ (t.int_bits ≡ 32)

pub table_of_target : (t : Target) → CTable (table_of t)
table_of_target T32 = record { sound = targets_are_sound T32; int_is = inr refl }

-- the table whose int has 16 bits is one too
below_narrow_int : (kind : IntKind) → narrow.exact kind ≡ None → width kind ≤ 16
below_narrow_int I8 e = omega arith
below_narrow_int U8 e = omega arith
below_narrow_int kind e = cc

narrow_bits : (kind : IntKind) (a : Arith) → narrow.exact kind ≡ Some a → arith_bits narrow a ≡ width kind
narrow_bits U16 a e = let q : UInt ≡ a = cc in subst (λ b. arith_bits narrow b ≡ 16) q refl
narrow_bits U32 a e = let q : ULong ≡ a = cc in subst (λ b. arith_bits narrow b ≡ 32) q refl
narrow_bits U64 a e = let q : ULongLong ≡ a = cc in subst (λ b. arith_bits narrow b ≡ 64) q refl
narrow_bits I16 a e = let q : Int ≡ a = cc in subst (λ b. arith_bits narrow b ≡ 16) q refl
narrow_bits I32 a e = let q : Long ≡ a = cc in subst (λ b. arith_bits narrow b ≡ 32) q refl
narrow_bits I64 a e = let q : LongLong ≡ a = cc in subst (λ b. arith_bits narrow b ≡ 64) q refl
narrow_bits kind a e = cc

narrow_sign : (kind : IntKind) (a : Arith) → narrow.exact kind ≡ Some a → arith_signed a ≡ is_signed kind
narrow_sign U16 a e = let q : UInt ≡ a = cc in subst (λ b. arith_signed b ≡ false) q refl
narrow_sign U32 a e = let q : ULong ≡ a = cc in subst (λ b. arith_signed b ≡ false) q refl
narrow_sign U64 a e = let q : ULongLong ≡ a = cc in subst (λ b. arith_signed b ≡ false) q refl
narrow_sign I16 a e = let q : Int ≡ a = cc in subst (λ b. arith_signed b ≡ true) q refl
narrow_sign I32 a e = let q : Long ≡ a = cc in subst (λ b. arith_signed b ≡ true) q refl
narrow_sign I64 a e = let q : LongLong ≡ a = cc in subst (λ b. arith_signed b ≡ true) q refl
narrow_sign kind a e = cc

pub narrow_table : CTable narrow
narrow_table = record {
  sound = record {
    int_least = omega arith;
    long_least = omega arith;
    long_long_least = omega arith;
    int_in_long = omega arith;
    long_in_long_long = omega arith;
    below_int = below_narrow_int;
    exact_bits = narrow_bits;
    exact_sign = narrow_sign;
    some_alignment = omega arith;
  };
  int_is = inl refl;
}

-- the common type of a type and itself
pub common_with_itself : (t : TargetTable) (c : Arith) → common_in t c c ≡ c
common_with_itself t Int = refl
common_with_itself t UInt = refl
common_with_itself t Long = refl
common_with_itself t ULong = refl
common_with_itself t LongLong = refl
common_with_itself t ULongLong = refl

-- ---- the types to which an unsigned kind of so many bits is promoted

-- a signed type of twice as many bits at least, or an unsigned one of as many
pub data IsWideOrSame (t : TargetTable) (bits : ℕ) (c : Arith) : Type 0 where
  wide : arith_signed c ≡ true → 2 * bits ≤ arith_bits t c → bits < 64 → IsWideOrSame t bits c
  same : arith_signed c ≡ false → arith_bits t c ≡ bits → IsWideOrSame t bits c

module _ (t : TargetTable) (table : CTable t) where
  -- int has twice as many bits where it represents a narrower unsigned kind, and else as many
  small_by : (bits n : ℕ) → t.int_bits ≡ n → (test : Bool) → represents n true bits false ≡ test → (test ≡ true → 2 * bits ≤ n) → (test ≡ true → bits < 64) → (test ≡ false → n ≡ bits)
      → IsWideOrSame t bits (if represents t.int_bits true bits false then Int else UInt)
  small_by bits n is true e twice few as_many = subst (λ b. IsWideOrSame t bits (if b then Int else UInt)) (sym (ap (λ m. represents m true bits false) is ∙ e)) (wide refl (let l = twice refl in omega (arith, is)) (few refl))
  small_by bits n is false e twice few as_many = subst (λ b. IsWideOrSame t bits (if b then Int else UInt)) (sym (ap (λ m. represents m true bits false) is ∙ e)) (same refl (is ∙ as_many refl))

  small : (kind : IntKind) → is_signed kind ≡ false → width kind ≤ t.int_bits → (int_is : (t.int_bits ≡ 16) ⊎ (t.int_bits ≡ 32)) → IsWideOrSame t (width kind) (promote_small t (width kind) (is_signed kind))
  small U8 s le (inl is) = small_by 8 16 is true refl (λ e. omega arith) (λ e. omega arith) (λ e. cc)
  small U8 s le (inr is) = small_by 8 32 is true refl (λ e. omega arith) (λ e. omega arith) (λ e. cc)
  small U16 s le (inl is) = small_by 16 16 is false refl (λ e. cc) (λ e. cc) (λ e. refl)
  small U16 s le (inr is) = small_by 16 32 is true refl (λ e. omega arith) (λ e. omega arith) (λ e. cc)
  small U32 s le (inl is) = absurd (omega (arith, le, is))
  small U32 s le (inr is) = small_by 32 32 is false refl (λ e. cc) (λ e. cc) (λ e. refl)
  small U64 s le (inl is) = absurd (omega (arith, le, is))
  small U64 s le (inr is) = absurd (omega (arith, le, is))
  small I8 s le is = cc
  small I16 s le is = cc
  small I32 s le is = cc
  small I64 s le is = cc

  by_exact : (kind : IntKind) → is_signed kind ≡ false → (found : Option Arith) → t.exact kind ≡ found → IsWideOrSame t (width kind) (promote_exact t kind found)
  by_exact kind s None e = small kind s (table.sound.below_int kind e) table.int_is
  by_exact kind s (Some c) e = same (table.sound.exact_sign kind c e ∙ s) (table.sound.exact_bits kind c e)

  pub promoted_unsigned : (kind : IntKind) → is_signed kind ≡ false → IsWideOrSame t (width kind) (promoted t (Scalar (Exact kind)))
  promoted_unsigned kind s = by_exact kind s (t.exact kind) refl

  -- ---- a signed kind is promoted to a signed type

  signed_by : (bits n : ℕ) → t.int_bits ≡ n → represents n true bits true ≡ true → arith_signed (promote_small t bits true) ≡ true
  signed_by bits n is e = subst (λ b. arith_signed (if b then Int else UInt) ≡ true) (sym (ap (λ m. represents m true bits true) is ∙ e)) refl

  small_signed : (kind : IntKind) → is_signed kind ≡ true → width kind ≤ t.int_bits → (int_is : (t.int_bits ≡ 16) ⊎ (t.int_bits ≡ 32)) → arith_signed (promote_small t (width kind) (is_signed kind)) ≡ true
  small_signed I8 s le (inl is) = signed_by 8 16 is refl
  small_signed I8 s le (inr is) = signed_by 8 32 is refl
  small_signed I16 s le (inl is) = signed_by 16 16 is refl
  small_signed I16 s le (inr is) = signed_by 16 32 is refl
  small_signed I32 s le (inl is) = absurd (omega (arith, le, is))
  small_signed I32 s le (inr is) = signed_by 32 32 is refl
  small_signed I64 s le (inl is) = absurd (omega (arith, le, is))
  small_signed I64 s le (inr is) = absurd (omega (arith, le, is))
  small_signed U8 s le is = cc
  small_signed U16 s le is = cc
  small_signed U32 s le is = cc
  small_signed U64 s le is = cc

  signed_by_exact : (kind : IntKind) → is_signed kind ≡ true → (found : Option Arith) → t.exact kind ≡ found → arith_signed (promote_exact t kind found) ≡ true
  signed_by_exact kind s None e = small_signed kind s (table.sound.below_int kind e) table.int_is
  signed_by_exact kind s (Some c) e = table.sound.exact_sign kind c e ∙ s

  pub promoted_signed : (kind : IntKind) → is_signed kind ≡ true → arith_signed (promoted t (Scalar (Exact kind))) ≡ true
  promoted_signed kind s = signed_by_exact kind s (t.exact kind) refl

-- Which numbers the types of a target have, and to which it promotes unsigned kinds that are no narrower than int.
use Rattle.std.proofs.Common.{◌≡◌, ℕ, ◌-◌, ◌*◌, ◌^◌, ◌≤◌, ℤ, true, false, IsTrue, arith, refl, sym, subst, ap, ◌∙◌}
use Rattle.std.specs.Prelude.{Option, Some, None, if◌then◌else◌}
use Rattle.std.proofs.lemmas.Int.{ints}
use Rattle.std.proofs.lemmas.Nat.{pow_pos}
use Rattle.std.proofs.Math.Nat.{pow-suc}
use Rattle.iv_words.specs.Kinds.{in_range_of, width, is_signed}
use Rattle.iv_words.specs.declared.IntKind.{IntKind}
use Rattle.c_ast.specs.declared.Arith.{Arith}
use Rattle.c_ast.specs.declared.Arith.TheVariants.{Int, UInt, Long, ULong, LongLong, ULongLong}
use Rattle.c_ast.specs.declared.CScalar.TheVariants.{Int as Exact}
use Rattle.c_ast.specs.declared.CKind.TheVariants.{Scalar}
use Rattle.c_ast.specs.Targets.{TargetTable, arith_bits, arith_signed, represents, promote_exact, promoted, common_in}
use Rattle.iv_words.proofs.Ranges.{wider}
use Rattle.overflow_checks.proofs.Tables.{CTable}

module _ (t : TargetTable) (table : CTable t) where
  -- every type in which C computes has at least the bits of int
  pub int_is_least : (c : Arith) → t.int_bits ≤ arith_bits t c
  int_is_least Int = omega arith
  int_is_least UInt = omega arith
  int_is_least Long = table.sound.int_in_long
  int_is_least ULong = table.sound.int_in_long
  int_is_least LongLong = let p = table.sound.int_in_long in let q = table.sound.long_in_long_long in omega arith
  int_is_least ULongLong = let p = table.sound.int_in_long in let q = table.sound.long_in_long_long in omega arith

  -- so a signed one has the numbers of int
  pub has_of_int : (c : Arith) (v : ℤ) → arith_signed c ≡ true → IsTrue (in_range_of t.int_bits true v) → IsTrue (in_range_of (arith_bits t c) (arith_signed c) v)
  has_of_int c v is h = subst (λ signed. IsTrue (in_range_of (arith_bits t c) signed v)) (sym is) (wider t.int_bits (arith_bits t c) true v (int_is_least c) h)

-- ---- unsigned kinds that are no narrower than int

-- no signed type has the greatest number of the unsigned one with as many bits
not_represented : (n : ℕ) → 1 ≤ n → represents n true n false ≡ false
not_represented n some =
    let e : 2 ^ n ≡ 2 ^ (n - 1) * 2 = ap (λ k. 2 ^ k) (omega arith) ∙ pow-suc 2 (n - 1) in let p = pow_pos (n - 1) in grind (arith, ints)

-- the type is unsigned and has as many bits
abbrev pub IsAlike : TargetTable → ℕ → Arith → Type 0
IsAlike t bits c = (arith_signed c ≡ false) × (arith_bits t c ≡ bits)

module _ (t : TargetTable) (table : CTable t) where
  alike_by : (kind : IntKind) → is_signed kind ≡ false → t.int_bits ≤ width kind → (found : Option Arith) → t.exact kind ≡ found → IsAlike t (width kind) (promote_exact t kind found)
  alike_by kind s le (Some c) e = (table.sound.exact_sign kind c e ∙ s, table.sound.exact_bits kind c e)
  alike_by kind s le None e =
      let below = table.sound.below_int kind e in
      let least = table.sound.int_least in
      let is : width kind ≡ t.int_bits = omega (arith, le, below) in
      let rep : represents t.int_bits true (width kind) (is_signed kind) ≡ false =
      ap (λ n. represents t.int_bits true n (is_signed kind)) is ∙ ap (represents t.int_bits true t.int_bits) s ∙ not_represented t.int_bits (omega (arith, least)) in
      subst (λ b. IsAlike t (width kind) (if b then Int else UInt)) (sym rep) (refl, sym is)

  -- such a kind is promoted to an unsigned type with as many bits
  pub promoted_alike : (kind : IntKind) → is_signed kind ≡ false → t.int_bits ≤ width kind → IsAlike t (width kind) (promoted t (Scalar (Exact kind)))
  promoted_alike kind s le = alike_by kind s le (t.exact kind) refl

-- int gives way to an unsigned type
pub int_with_unsigned : (t : TargetTable) (c : Arith) → arith_signed c ≡ false → common_in t Int c ≡ c
int_with_unsigned t UInt e = refl
int_with_unsigned t ULong e = refl
int_with_unsigned t ULongLong e = refl
int_with_unsigned t Int e = cc
int_with_unsigned t Long e = cc
int_with_unsigned t LongLong e = cc

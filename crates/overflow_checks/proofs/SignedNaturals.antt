-- Numbers from 0 in an unsigned type of so many bits: what the parts of the guard of a product give on them.
use Rattle.std.proofs.Common.{◌≡◌, ℕ, ◌-◌, ◌+◌, ◌*◌, ◌/◌, ◌^◌, ◌<◌, ◌≤◌, ℤ, pos, ◌-ℤ◌, false, IsTrue, Result, Ok, Err, arith, sym, subst, ap, ◌∙◌}
use Rattle.std.specs.Prelude.{if◌then◌else◌, Option, Some, [], ◌∷◌, ◌||◌, int_le, int_lt, int_div}
use Rattle.std.specs.Ordering.{int_eq}
use Rattle.std.proofs.lemmas.Int.{ints}
use Rattle.std.proofs.lemmas.Nat.{pow_pos}
use Rattle.run_records.specs.declared.Reason.{Reason}
use Rattle.run_records.specs.declared.Reason.TheVariants.{DivZero, Shift, Implementation}
use Rattle.c_ast.specs.declared.Arith.{Arith}
use Rattle.c_ast.specs.declared.Arith.TheVariants.{Int, Long, LongLong}
use Rattle.c_ast.specs.declared.CKind.{CKind}
use Rattle.c_ast.specs.declared.CKind.TheVariants.{Arith as Computed}
use Rattle.c_ast.specs.declared.Suffix.TheVariants.{Plain, U}
use Rattle.c_ast.specs.declared.CBinary.TheVariants.{Add, Sub, Mul, Div, Shr, Le}
use Rattle.c_ast.specs.Syntax.{Expr, Binary}
use Rattle.c_ast.specs.Targets.{TargetTable, table_of, arith_bits, arith_signed, common_in, common_type}
use Rattle.iv_words.specs.Bits.{modulo}
use Rattle.c_ast.specs.Conversions.{can_hold, first_of_types, constant_type_in}
use Rattle.c_meaning.specs.Values.{Trouble, Undefined, CValue, Num, typed}
use Rattle.c_meaning.specs.Operators.{sum, difference, product, quotient, fitted, shifted_right, computed}
use Rattle.c_meaning.specs.State.{Program, CState}
use Rattle.c_ast.specs.StaticTypes.{Arithmetic}
use Rattle.c_meaning.specs.Expressions.{as_common}
use Rattle.c_ast.proofs.Conversions.{held_stays}
use Rattle.iv_words.proofs.Ranges.{powers_grow}
use Rattle.iv_words.proofs.Modular.{modulo_in_range, modulo_difference_right}
use Rattle.overflow_checks.specs.Parts.{plain, unsigned, greatest_constant}
use Rattle.overflow_checks.specs.UnsignedForms.{does_not_wrap}
use Rattle.overflow_checks.proofs.Tables.{CTable}
use Rattle.overflow_checks.proofs.Given.{Gives, binary_gives, constant_gives}
use Rattle.overflow_checks.proofs.Rows.{Tests}
use Rattle.overflow_checks.proofs.Alike.{fitted_held, AreNatural, left_kept, right_kept, usual_kept, usual_alike, usual_natural, compared_natural}
use Rattle.overflow_checks.proofs.Constants.{plain_typed, unsigned_typed}
use Rattle.overflow_checks.proofs.Numbers.{natural, quotient_held}
use Rattle.overflow_checks.proofs.SignedTypes.{IsAlike, int_with_unsigned}
use Rattle.overflow_checks.proofs.SignedNumbers.{from_zero, natural_held}
use Rattle.overflow_checks.proofs.SignedModulo.{IsModulo, in_type}
use Rattle.overflow_checks.proofs.SignedProducts.{limit_below}

-- 0 is an int
pub zero_type : (t : TargetTable) → constant_type_in t Plain 0 ≡ Some Int
zero_type t = ap (λ b. let q : Option Arith = if b then Some Int else first_of_types t (Long ∷ LongLong ∷ []) (pos 0) in q) (natural_held t.int_bits 0 (pow_pos (t.int_bits - 1)))

module _ (p : Program) (s : CState) (table : CTable (table_of p.target)) (bits : ℕ) (c : Arith) (alike : IsAlike (table_of p.target) bits c) (some : 1 ≤ bits) (few : bits ≤ 64) where
  abbrev t : TargetTable
  t = table_of p.target

  abbrev pub IsNatural : Expr → ℕ → Type 0
  IsNatural e n = Gives p s e (Num (Computed c) (pos n))

  held : (n : ℕ) → n < 2 ^ bits → IsTrue (can_hold t (Computed c) (pos n))
  held n l = in_type p s table bits c alike (pos n) (natural bits n l)

  -- ---- distances

  -- 0 minus a number of the type, modulo 2 ^ bits
  pub opposite_gives : (b : Expr) (y : ℤ) → IsModulo p s table bits c alike b y → Gives p s (Binary Sub (plain 0) b) (Num (Computed c) (modulo bits (pos 0 -ℤ y)))
  opposite_gives b y r =
      let k = Computed Int in
      let n = modulo bits y in
      let common : common_type t k r.kind ≡ c = ap (common_in t Int) r.promotes ∙ int_with_unsigned t c alike.0 in
      let kept : (v : ℤ) → IsTrue (can_hold t (Computed c) v) → IsTrue (can_hold t (Computed (common_type t k r.kind)) v) = λ v h. subst (λ d. IsTrue (can_hold t (Computed d) v)) (sym common) h in
      binary_gives p s Sub (plain 0) b (Num k (pos 0)) (Num r.kind n) (constant_gives p s 0 Plain Int (zero_type t)) r.gives
      ∙ usual_kept t table difference k r.kind (pos 0) n (kept (pos 0) (held 0 (pow_pos bits))) (kept n (in_type p s table bits c alike n (modulo_in_range bits y)))
      ∙ ap (λ d. computed d (difference (arith_bits t d) (arith_signed d) (pos 0) n)) common
      ∙ ap (λ m. computed c (difference m (arith_signed c) (pos 0) n)) alike.1
      ∙ ap (λ signed. computed c (difference bits signed (pos 0) n)) alike.0
      ∙ ap (λ v. let q : Result CValue Trouble = Ok (Num (Computed c) v) in q) (modulo_difference_right bits (pos 0) y)

  -- an arm of `?:` in the type
  pub arm_is : (r : Result CValue Trouble) (kind : CKind) (v : ℤ) (n : ℕ) → n < 2 ^ bits → v ≡ pos n → r ≡ Ok (Num kind v) → as_common t (Some (Arithmetic (Computed c))) r ≡ Ok (Num (Computed c) (pos n))
  arm_is r kind v n l is e =
      ap (as_common t (Some (Arithmetic (Computed c)))) e
      ∙ ap (λ u. as_common t (Some (Arithmetic (Computed c))) (Ok (Num kind u))) is
      ∙ ap (typed (Computed c)) (held_stays (arith_bits t c) (arith_signed c) (pos n) (held n l))

  -- ---- products

  abbrev most : ℕ
  most = 2 ^ bits - 1

  most_few : 2 ^ bits - 1 < 2 ^ 64
  most_few = let g = powers_grow bits 64 few in let q = pow_pos bits in omega arith

  module _ (e f : Expr) (m n : ℕ) (l : m < 2 ^ bits) (k : n < 2 ^ bits) (ge : IsNatural e m) (gf : IsNatural f n) where
    pub wrap_tests : int_eq (pos n) (pos 0) ≡ false → Tests p s (does_not_wrap bits e f) (int_le (pos m) (int_div (pos (2 ^ bits - 1)) (pos n)))
    wrap_tests nonzero =
        let u = unsigned_typed t table most most_few in
        let q = int_div (pos most) (pos n) in
        let d = common_type t (Computed u.type) (Computed c) in
        let both : AreNatural t table (Computed u.type) (Computed c) (pos most) (pos n) = record { left_from = from_zero most; right_from = from_zero n; left_held = u.holds; right_held = held n k } in
        let there = quotient_held (arith_bits t d) (arith_signed d) (pos most) (pos n) (from_zero most) (from_zero n) (left_kept t table (Computed u.type) (Computed c) (pos most) (pos n) both) in
        let gives : Gives p s (Binary Div (greatest_constant bits false) f) (Num (Computed d) q) =
        binary_gives p s Div (greatest_constant bits false) f (Num (Computed u.type) (pos most)) (Num (Computed c) (pos n)) (constant_gives p s most U u.type u.found_it) gf
        ∙ usual_natural t table (Computed u.type) (Computed c) (pos most) (pos n) both quotient
        ∙ ap (λ test. computed d (if test then Err DivZero else fitted (arith_bits t d) (arith_signed d) q)) nonzero
        ∙ ap (computed d) (fitted_held (arith_bits t d) (arith_signed d) q there) in
        let compared : AreNatural t table (Computed c) (Computed d) (pos m) q = record { left_from = from_zero m; right_from = from_zero (most / n); left_held = held m l; right_held = there } in
        binary_gives p s Le e (Binary Div (greatest_constant bits false) f) (Num (Computed c) (pos m)) (Num (Computed d) q) ge gives
        ∙ compared_natural t table (Computed c) (Computed d) (pos m) q compared int_le

    pub product_gives : m * n < 2 ^ bits → IsNatural (Binary Mul e f) (m * n)
    product_gives less =
        binary_gives p s Mul e f (Num (Computed c) (pos m)) (Num (Computed c) (pos n)) ge gf
        ∙ usual_alike t table (Computed c) (pos m) (pos n) (held m l) (held n k) product
        ∙ ap (computed c) (fitted_held (arith_bits t c) (arith_signed c) (pos (m * n)) (held (m * n) less))

  -- ---- the limit

  not_too_far : (int_lt (pos (bits - 1)) (pos 0) || int_le (pos bits) (pos (bits - 1))) ≡ false
  not_too_far = grind (arith, ints)

  not_negative : (n : ℕ) → int_lt (pos n) (pos 0) ≡ false
  not_negative n = grind (arith, ints)

  -- the highest bit, moved to the lowest place
  pub top_gives : (e : Expr) (n : ℕ) → IsNatural e n → IsNatural (Binary Shr e (plain (bits - 1))) (n / 2 ^ (bits - 1))
  top_gives e n ge =
      let k = bits - 1 in
      let d = plain_typed t table k (omega arith) in
      let result = computed c (shifted_right (arith_bits t c) (arith_signed c) (pos n) (pos k)) in
      binary_gives p s Shr e (plain k) (Num (Computed c) (pos n)) (Num (Computed d.type) (pos k)) ge (constant_gives p s k Plain d.type d.found_it)
      ∙ ap (λ b. let q : Result CValue Trouble = if int_lt (pos k) (pos 0) || int_le (pos b) (pos k) then Err (Undefined Shift) else result in q) alike.1
      ∙ ap (λ test. let q : Result CValue Trouble = if test then Err (Undefined Shift) else result in q) not_too_far
      ∙ ap (λ test. computed c (if test then Err Implementation else Ok (pos (n / 2 ^ k)))) (not_negative n)

  -- at most the greatest number of the signed kind, or one more
  pub limit_tests : (e f : Expr) (m d : ℕ) → m < 2 ^ bits → d < 2 → IsNatural e m → IsNatural f d → Tests p s (Binary Le e (Binary Add (unsigned (2 ^ (bits - 1) - 1)) f)) (int_le (pos m) (pos (2 ^ (bits - 1) - 1 + d)))
  limit_tests e f m d l two ge gf =
      let g = 2 ^ (bits - 1) - 1 in
      let v = g + d in
      let grows = powers_grow (bits - 1) 63 (omega arith) in
      let some_half = pow_pos (bits - 1) in
      let u = unsigned_typed t table g (omega arith) in
      let a = Computed u.type in
      let b = Computed c in
      let c2 = common_type t a b in
      let below : v < 2 ^ bits = limit_below bits some v d two (omega arith) in
      let both : AreNatural t table a b (pos g) (pos d) = record { left_from = from_zero g; right_from = from_zero d; left_held = u.holds; right_held = held d (limit_below bits some d d two (omega arith)) } in
      let with_sum : AreNatural t table a b (pos g) (pos v) = record { left_from = from_zero g; right_from = from_zero v; left_held = u.holds; right_held = held v below } in
      let there = right_kept t table a b (pos g) (pos v) with_sum in
      let gives : Gives p s (Binary Add (unsigned g) f) (Num (Computed c2) (pos v)) =
      binary_gives p s Add (unsigned g) f (Num a (pos g)) (Num b (pos d)) (constant_gives p s g U u.type u.found_it) gf
      ∙ usual_natural t table a b (pos g) (pos d) both sum
      ∙ ap (computed c2) (fitted_held (arith_bits t c2) (arith_signed c2) (pos v) there) in
      let compared : AreNatural t table b (Computed c2) (pos m) (pos v) = record { left_from = from_zero m; right_from = from_zero v; left_held = held m l; right_held = there } in
      binary_gives p s Le e (Binary Add (unsigned g) f) (Num b (pos m)) (Num (Computed c2) (pos v)) ge gives
      ∙ compared_natural t table b (Computed c2) (pos m) (pos v) compared int_le

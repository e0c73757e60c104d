-- A test of the ends of a range: a number of a kind is compared with the number of an end in C as it is, and where an end is not tested the
-- number is not beyond it anyway.
use Rattle.std.proofs.Common.{◌≡◌, ℕ, suc, ◌-◌, ◌^◌, ◌<◌, ℤ, pos, negsuc, neg_ℤ, Bool, true, false, IsTrue, Ok, arith, refl, sym, subst, ap, ◌∙◌}
use Rattle.std.specs.Prelude.{if◌then◌else◌, ◌&&◌, int_le, int_lt, nat_lt}
use Rattle.std.proofs.lemmas.Int.{ints}
use Rattle.std.proofs.lemmas.Nat.{pow_pos}
use Rattle.std.proofs.Math.Bool.{and-true}
use Rattle.iv_words.specs.Kinds.{in_range_of, width, is_signed}
use Rattle.iv_words.specs.declared.IntKind.{IntKind}
use Rattle.iv_words.proofs.Widths.{range_of_sign}
use Rattle.c_ast.specs.declared.CBinary.{CBinary}
use Rattle.c_ast.specs.declared.CBinary.TheVariants.{Sub, Le, Ge, AndAlso}
use Rattle.c_ast.specs.declared.CKind.TheVariants.{Arith as Computed}
use Rattle.c_ast.specs.declared.CUnary.TheVariants.{Neg}
use Rattle.c_ast.specs.declared.Suffix.{Suffix}
use Rattle.c_ast.specs.declared.Suffix.TheVariants.{Plain, U}
use Rattle.c_ast.specs.Conversions.{constant_type_in}
use Rattle.c_ast.specs.Syntax.{Expr, Number, Unary, Binary}
use Rattle.c_ast.specs.Targets.{TargetTable, table_of, arith_bits}
use Rattle.c_meaning.specs.Values.{CValue, Num, is_true, on_ok}
use Rattle.c_meaning.specs.Operators.{binary, compared}
use Rattle.c_meaning.specs.State.{Program, CState}
use Rattle.overflow_checks.specs.Contract.{IsGiven}
use Rattle.overflow_checks.proofs.Alike.{AreNatural, compared_natural}
use Rattle.overflow_checks.proofs.Choices.{and_also_tests}
use Rattle.overflow_checks.proofs.Constants.{IsTyped, plain_typed, unsigned_typed}
use Rattle.overflow_checks.proofs.Given.{of_kind, binary_gives, constant_gives}
use Rattle.overflow_checks.proofs.Numbers.{from_zero}
use Rattle.overflow_checks.proofs.Rows.{Tests}
use Rattle.overflow_checks.proofs.SignedValues.{IsSigned, compares, given_is, opposite_is}
use Rattle.overflow_checks.proofs.Tables.{CTable, table_of_target}
use Rattle.lower_types.specs.Constants.{number_for, signed_limit}
use Rattle.lower_values.specs.Conversions.{joined, is_within}
use Rattle.form_answers.specs.Standing.{TestIs}
use Rattle.form_answers.proofs.Guards.{truth_tested}

-- an end that may stand beside a number of a signed or an unsigned type: neither converts the other
abbrev pub IsEnd : (signed : Bool) → ℤ → Type 0
IsEnd true (pos n) = n < 2 ^ 63
IsEnd true (negsuc n) = suc n < 2 ^ 63
IsEnd false (pos n) = n < 2 ^ 64
IsEnd false (negsuc n) = ⊥

-- ---- comparisons with a number

module _ (p : Program) (u : CState) where
  abbrev t : TargetTable
  t = table_of p.target

  abbrev table : CTable (table_of p.target)
  table = table_of_target p.target

  -- a constant, as an operand of a signed type
  pub signed_constant : (n : ℕ) (c : IsTyped t table true (pos n) (constant_type_in t Plain n)) → IsSigned p u table (arith_bits t c.type) (Number n Plain) (pos n)
  signed_constant n c = record {
    kind = Computed c.type;
    gives = constant_gives p u n Plain c.type c.found_it;
    sign = c.sign;
    has = c.holds;
    all = λ w h. subst (λ signed. IsTrue (in_range_of (arith_bits t c.type) signed w)) (sym c.sign) h;
  }

  pub opposite_has : (bits n : ℕ) → IsTrue (in_range_of bits true (pos n)) → IsTrue (in_range_of bits true (neg_ℤ (pos n)))
  opposite_has bits n h = let some = pow_pos (bits - 1) in grind (arith, ints)

  module _ (kind : IntKind) (e : Expr) (v : ℤ) (given : IsGiven p u kind e v) (op : CBinary) (test : ℤ → ℤ → Bool)
      (is : (x y : CValue) → binary (table_of p.target) op x (Ok y) ≡ compared (table_of p.target) test x y) where
    with_constant : is_signed kind ≡ true → (n : ℕ) → n < 2 ^ 63 → Tests p u (Binary op e (Number n Plain)) (test v (pos n))
    with_constant s n l =
        let c = plain_typed t table n l in
        compares p u table (width kind) (arith_bits t c.type) e (Number n Plain) v (pos n) (given_is p u table kind e v s given) (signed_constant n c) op test is

    with_opposite : is_signed kind ≡ true → (n : ℕ) → n < 2 ^ 63 → Tests p u (Binary op e (Unary Neg (Number n Plain))) (test v (neg_ℤ (pos n)))
    with_opposite s n l =
        let c = plain_typed t table n l in
        let h : IsTrue (in_range_of (arith_bits t c.type) true (pos n)) = subst (λ signed. IsTrue (in_range_of (arith_bits t c.type) signed (pos n))) c.sign c.holds in
        compares p u table (width kind) (arith_bits t c.type) e (Unary Neg (Number n Plain)) v (neg_ℤ (pos n)) (given_is p u table kind e v s given)
        (opposite_is p u table (arith_bits t c.type) (Number n Plain) (pos n) (signed_constant n c) (opposite_has (arith_bits t c.type) n h)) op test is

    with_natural : is_signed kind ≡ false → (n : ℕ) (suffix : Suffix) (signed : Bool) → IsTyped t table signed (pos n) (constant_type_in t suffix n) → Tests p u (Binary op e (Number n suffix)) (test v (pos n))
    with_natural s n suffix signed c =
        let a : AreNatural t table (of_kind kind) (Computed c.type) v (pos n) =
        record { left_from = from_zero (width kind) v (range_of_sign kind false s v given.is_in); right_from = grind (arith, ints); left_held = given.is_in; right_held = c.holds } in
        binary_gives p u op e (Number n suffix) (Num (of_kind kind) v) (Num (Computed c.type) (pos n)) given.gives (constant_gives p u n suffix c.type c.found_it)
        ∙ is (Num (of_kind kind) v) (Num (Computed c.type) (pos n))
        ∙ compared_natural t table (of_kind kind) (Computed c.type) v (pos n) a test

    natural_by : is_signed kind ≡ false → (n : ℕ) → n < 2 ^ 64 → (small : Bool) → nat_lt n signed_limit ≡ small → Tests p u (Binary op e (if small then Number n Plain else Number n U)) (test v (pos n))
    natural_by s n l true h = with_natural s n Plain true (plain_typed t table n (grind arith))
    natural_by s n l false h = with_natural s n U false (unsigned_typed t table n l)

    small_is : (n : ℕ) → n < 2 ^ 63 → nat_lt n signed_limit ≡ true
    small_is n l = grind arith

    -- with the number of an end
    pub with_end : (signed : Bool) → is_signed kind ≡ signed → (z : ℤ) → IsEnd signed z → Tests p u (Binary op e (number_for z)) (test v z)
    with_end true s (pos n) l = subst (λ b. Tests p u (Binary op e (if b then Number n Plain else Number n U)) (test v (pos n))) (sym (small_is n l)) (with_constant s n l)
    with_end true s (negsuc n) l =
        subst (λ b. Tests p u (Binary op e (if b then Unary Neg (Number (suc n) Plain) else Binary Sub (Unary Neg (Number (suc n - 1) Plain)) (Number 1 Plain))) (test v (negsuc n))) (sym (small_is (suc n) l))
        (with_opposite s (suc n) l)
    with_end false s (pos n) l = natural_by s n l (nat_lt n signed_limit) refl
    with_end false s (negsuc n) l = absurd l

-- ---- tests of both ends, where they are needed

pub record IsBetween (low high v : ℤ) : Type 0 where
  pub from_low : IsTrue (int_le low v)
  pub to_high : IsTrue (int_le v high)

not_below : (from_low low v : ℤ) → int_lt from_low low ≡ false → IsTrue (int_le from_low v) → int_le low v ≡ true
not_below from_low low v e h = grind (arith, ints)

not_above : (high from_high v : ℤ) → int_lt high from_high ≡ false → IsTrue (int_le v from_high) → int_le v high ≡ true
not_above high from_high v e h = grind (arith, ints)

module _ (p : Program) (u : CState) (kind : IntKind) (e : Expr) (v : ℤ) (given : IsGiven p u kind e v) (from_low from_high low high : ℤ) (between : IsBetween from_low from_high v) where
  low_tests : IsEnd (is_signed kind) low → Tests p u (Binary Ge e (number_for low)) (int_le low v)
  low_tests end = with_end p u kind e v given Ge (λ x y. int_le y x) (λ x y. refl) (is_signed kind) refl low end

  high_tests : IsEnd (is_signed kind) high → Tests p u (Binary Le e (number_for high)) (int_le v high)
  high_tests end = with_end p u kind e v given Le int_le (λ x y. refl) (is_signed kind) refl high end

  joined_tests : (has_less has_more : Bool) → int_lt from_low low ≡ has_less → int_lt high from_high ≡ has_more → (has_less ≡ true → IsEnd (is_signed kind) low) → (has_more ≡ true → IsEnd (is_signed kind) high)
      → TestIs p u (joined has_less has_more (Binary Ge e (number_for low)) (Binary Le e (number_for high))) (int_le low v && int_le v high)
  joined_tests true true l h low_end high_end =
      truth_tested p u (Binary AndAlso (Binary Ge e (number_for low)) (Binary Le e (number_for high))) (int_le low v && int_le v high)
      (and_also_tests p u (Binary Ge e (number_for low)) (Binary Le e (number_for high)) (int_le low v) (int_le v high) (low_tests (low_end refl)) (λ is. high_tests (high_end refl)))
  joined_tests true false l h low_end high_end =
      subst (TestIs p u (Binary Ge e (number_for low))) (sym (ap (λ b. int_le low v && b) (not_above high from_high v h between.to_high) ∙ and-true (int_le low v)))
      (truth_tested p u (Binary Ge e (number_for low)) (int_le low v) (low_tests (low_end refl)))
  joined_tests false true l h low_end high_end =
      subst (TestIs p u (Binary Le e (number_for high))) (sym (ap (λ b. b && int_le v high) (not_below from_low low v l between.from_low)))
      (truth_tested p u (Binary Le e (number_for high)) (int_le v high) (high_tests (high_end refl)))
  joined_tests false false l h low_end high_end =
      let c = plain_typed (table_of p.target) (table_of_target p.target) 1 (omega arith) in
      subst (TestIs p u (Number 1 Plain)) (sym (ap (λ b. b && int_le v high) (not_below from_low low v l between.from_low) ∙ not_above high from_high v h between.to_high))
      (ap (λ r. on_ok r is_true) (constant_gives p u 1 Plain c.type c.found_it))

  pub within_tests : (int_lt from_low low ≡ true → IsEnd (is_signed kind) low) → (int_lt high from_high ≡ true → IsEnd (is_signed kind) high)
      → TestIs p u (is_within from_low from_high low high e) (int_le low v && int_le v high)
  within_tests low_end high_end = joined_tests (int_lt from_low low) (int_lt high from_high) refl refl low_end high_end

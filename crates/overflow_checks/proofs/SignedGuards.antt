-- What the guards of the signed kinds test, but for those on bits and on distances from 0.
use Rattle.std.proofs.Common.{◌≡◌, ℕ, ◌-◌, ◌*◌, ◌^◌, ◌<◌, ◌≤◌, ℤ, pos, negsuc, ◌+ℤ◌, ◌-ℤ◌, ◌*ℤ◌, neg_ℤ, Bool, true, false, not, IsTrue, arith, refl, sym, subst, ap, ◌∙◌}
use Rattle.std.specs.Prelude.{◌||◌, ◌&&◌, int_le, int_div}
use Rattle.std.specs.Ordering.{int_eq}
use Rattle.iv_words.specs.Kinds.{in_range_of, in_range, width, is_signed, least_of}
use Rattle.iv_words.specs.declared.IntKind.{IntKind}
use Rattle.c_ast.specs.declared.CUnary.TheVariants.{Neg}
use Rattle.c_ast.specs.declared.CBinary.TheVariants.{Add, Sub, Mul, Ne, Le, Ge}
use Rattle.c_ast.specs.Syntax.{Expr, Unary, Binary}
use Rattle.c_ast.specs.Targets.{table_of}
use Rattle.c_meaning.specs.State.{Program, CState}
use Rattle.iv_words.proofs.Ranges.{wider}
use Rattle.overflow_checks.specs.Parts.{plain, greatest_constant, least_constant, cast_to}
use Rattle.overflow_checks.specs.SignedForms.{is_between_ends, narrow_sum_fits, narrow_difference_fits, opposite_fits, quotient_fits}
use Rattle.overflow_checks.proofs.Tables.{CTable}
use Rattle.overflow_checks.proofs.Rows.{Tests}
use Rattle.overflow_checks.proofs.Choices.{or_else_tests, and_also_tests}
use Rattle.overflow_checks.proofs.SignedValues.{IsSigned, of_int, cast_is, greatest_is, second_least_is, least_is, minus_one_is, compares, sum_is, difference_is, product_is}
use Rattle.overflow_checks.proofs.SignedNumbers.{least_number, greatest_number, sum_in_wider, difference_in_wider, product_in_double, opposite_test, quotient_test}

module _ (p : Program) (s : CState) (table : CTable (table_of p.target)) where
  -- a guard's test by another name
  pub tests_same : (e : Expr) (x y : Bool) → x ≡ y → Tests p s e x → Tests p s e y
  tests_same e x y is h = subst (Tests p s e) is h

  between_is : (bits : ℕ) (v : ℤ) → (int_le (neg_ℤ (pos (2 ^ (bits - 1) - 1)) -ℤ pos 1) v && int_le v (pos (2 ^ (bits - 1) - 1))) ≡ in_range_of bits true v
  between_is bits v =
      ap (λ l. int_le l v && int_le v (pos (2 ^ (bits - 1) - 1))) (least_number bits)
      ∙ ap (λ g. int_le (least_of bits true) v && int_le v g) (greatest_number bits)

  pub between_tests : (bits m : ℕ) (e : Expr) (v : ℤ) → bits ≤ 64 → IsSigned p s table m e v → Tests p s (is_between_ends bits e) (in_range_of bits true v)
  between_tests bits m e v le l =
      let least = neg_ℤ (pos (2 ^ (bits - 1) - 1)) -ℤ pos 1 in
      let greatest = pos (2 ^ (bits - 1) - 1) in
      tests_same (is_between_ends bits e) (int_le least v && int_le v greatest) (in_range_of bits true v) (between_is bits v)
      (and_also_tests p s (Binary Ge e (least_constant bits)) (Binary Le e (greatest_constant bits true)) (int_le least v) (int_le v greatest)
      (compares p s table m bits e (least_constant bits) v least l (least_is p s table bits le) Ge (λ x y. int_le y x) (λ u w. refl))
      (λ i. compares p s table m bits e (greatest_constant bits true) v greatest l (greatest_is p s table bits le) Le int_le (λ u w. refl)))

  pub opposite_tests : (bits : ℕ) (a : Expr) (x : ℤ) → bits ≤ 64 → IsSigned p s table bits a x → IsTrue (in_range_of bits true x) → Tests p s (opposite_fits bits a) (in_range_of bits true (neg_ℤ x))
  opposite_tests bits a x le l h =
      let least = neg_ℤ (pos (2 ^ (bits - 1) - 1)) in
      tests_same (opposite_fits bits a) (int_le least x) (in_range_of bits true (neg_ℤ x)) (opposite_test bits x h)
      (compares p s table bits bits a (Unary Neg (greatest_constant bits true)) x least l (second_least_is p s table bits le) Ge (λ x y. int_le y x) (λ u w. refl))

  module _ (bits : ℕ) (a b : Expr) (x y : ℤ) (few : bits ≤ 64) (some : 1 ≤ bits) (l : IsSigned p s table bits a x) (r : IsSigned p s table bits b y)
      (h : IsTrue (in_range_of bits true x)) (k : IsTrue (in_range_of bits true y)) where
    pub quotient_tests : int_eq y (pos 0) ≡ false → Tests p s (quotient_fits bits a b) (in_range_of bits true (int_div x y))
    quotient_tests other =
        let fits = in_range_of bits true (neg_ℤ x) in
        let is_other = not (int_eq y (negsuc 0)) in
        tests_same (quotient_fits bits a b) (is_other || fits) (in_range_of bits true (int_div x y)) (quotient_test bits x y other h)
        (or_else_tests p s (Binary Ne b (Unary Neg (plain 1))) (opposite_fits bits a) is_other fits
        (compares p s table bits (table_of p.target).int_bits b (Unary Neg (plain 1)) y (negsuc 0) r (minus_one_is p s table) Ne (λ x y. not (int_eq x y)) (λ u w. refl))
        (λ i. opposite_tests bits a x few l h))

    -- where int has more bits

    pub narrow_sum_tests : bits < (table_of p.target).int_bits → Tests p s (narrow_sum_fits bits a b) (in_range_of bits true (x +ℤ y))
    narrow_sum_tests more =
        let int = (table_of p.target).int_bits in
        between_tests bits int (Binary Add a b) (x +ℤ y) few
        (sum_is p s table int bits a b x y (of_int p s table bits a x l) r (sum_in_wider bits int x y more some h k))

    pub narrow_difference_tests : bits < (table_of p.target).int_bits → Tests p s (narrow_difference_fits bits a b) (in_range_of bits true (x -ℤ y))
    narrow_difference_tests more =
        let int = (table_of p.target).int_bits in
        between_tests bits int (Binary Sub a b) (x -ℤ y) few
        (difference_is p s table int bits a b x y (of_int p s table bits a x l) r (difference_in_wider bits int x y more some h k))

    -- in a signed kind of twice as many bits

    module _ (double : IntKind) (signed : is_signed double ≡ true) (twice : width double ≡ 2 * bits) where
      held : (v : ℤ) → IsTrue (in_range_of bits true v) → IsTrue (in_range double v)
      held v i =
          subst (λ sign. IsTrue (in_range_of (width double) sign v)) (sym signed)
          (subst (λ n. IsTrue (in_range_of n true v)) (sym twice) (wider bits (2 * bits) true v (omega arith) i))

      pub double_product_is : IsSigned p s table (width double) (Binary Mul (cast_to double a) (cast_to double b)) (x *ℤ y)
      double_product_is =
          product_is p s table (width double) (width double) (cast_to double a) (cast_to double b) x y
          (cast_is p s table double bits a x signed l (held x h)) (cast_is p s table double bits b y signed r (held y k))
          (subst (λ n. IsTrue (in_range_of n true (x *ℤ y))) (sym twice) (product_in_double bits x y some h k))

      pub double_product_tests : Tests p s (is_between_ends bits (Binary Mul (cast_to double a) (cast_to double b))) (in_range_of bits true (x *ℤ y))
      double_product_tests = between_tests bits (width double) (Binary Mul (cast_to double a) (cast_to double b)) (x *ℤ y) few double_product_is

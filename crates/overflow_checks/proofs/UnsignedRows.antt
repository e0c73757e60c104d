-- The guards of the unsigned kinds: what they test.
use Rattle.std.proofs.Common.{◌≡◌, ℕ, ◌-◌, ◌*◌, ◌^◌, ◌<◌, ◌≤◌, ℤ, pos, ◌+ℤ◌, ◌-ℤ◌, ◌*ℤ◌, Bool, true, false, not, IsTrue, Some, Result, Ok, Err, arith, refl, sym, subst, ap, ◌∙◌}
use Rattle.std.specs.Prelude.{if◌then◌else◌, int_le, int_lt, int_div, nat_lt}
use Rattle.std.specs.Ordering.{int_eq}
use Rattle.std.proofs.lemmas.Int.{ints}
use Rattle.std.proofs.lemmas.Nat.{pow_pos}
use Rattle.iv_words.specs.Kinds.{in_range_of, width, is_signed, kind_at}
use Rattle.run_records.specs.declared.Reason.{Reason}
use Rattle.run_records.specs.declared.Reason.TheVariants.{DivZero}
use Rattle.iv_words.specs.declared.IntKind.{IntKind}
use Rattle.c_ast.specs.declared.Arith.{Arith}
use Rattle.c_ast.specs.declared.CKind.TheVariants.{Arith as Computed}
use Rattle.c_ast.specs.declared.Suffix.TheVariants.{Plain, U}
use Rattle.c_ast.specs.declared.CBinary.TheVariants.{Add, Mul, Div, Eq, Ne, Lt, Le, Ge}
use Rattle.c_ast.specs.Syntax.{Expr, Binary}
use Rattle.c_ast.specs.Targets.{TargetTable, table_of, arith_bits, arith_signed, promoted, common_type}
use Rattle.iv_words.specs.Bits.{modulo}
use Rattle.c_ast.specs.Conversions.{converted, constant_type_in}
use Rattle.c_meaning.specs.Values.{Num}
use Rattle.c_meaning.specs.Operators.{fitted, sum, quotient, computed, truth}
use Rattle.c_meaning.specs.State.{Program, CState}
use Rattle.iv_words.proofs.Ranges.{powers_grow, wider}
use Rattle.iv_words.proofs.Modular.{modulo_in_range, modulo_of_held}
use Rattle.c_ast.proofs.Promotions.{promotion_keeps}
use Rattle.overflow_checks.specs.Parts.{plain, greatest_constant, cast_to, double_product}
use Rattle.overflow_checks.specs.UnsignedForms.{sum_fits, difference_fits, narrow_product_fits, does_not_wrap, wide_product_fits, divisor_is_some, shift_fits}
use Rattle.overflow_checks.specs.Forms.{product_guard}
use Rattle.overflow_checks.proofs.Tables.{CTable, IsWideOrSame, wide, same, promoted_unsigned}
use Rattle.overflow_checks.proofs.Given.{Gives, of_kind, binary_gives, cast_gives, constant_gives}
use Rattle.overflow_checks.specs.Contract.{IsGiven}
use Rattle.overflow_checks.proofs.Rows.{AreGiven, Tests}
use Rattle.overflow_checks.proofs.Choices.{or_else_tests}
use Rattle.iv_words.proofs.Widths.{width_least, width_most, kind_of_sign, range_of_sign, in_range_by_sign, IsDouble, doubled, in_double}
use Rattle.overflow_checks.proofs.DoubleProducts.{product_gives}
use Rattle.overflow_checks.proofs.Alike.{fitted_held, usual_alike, compared_alike, AreNatural, left_kept, usual_natural, compared_natural}
use Rattle.overflow_checks.proofs.Constants.{IsTyped, plain_typed, unsigned_typed}
use Rattle.overflow_checks.proofs.Numbers.{from_zero, sum_in_double, product_in_double, sum_test, difference_test, most_test, product_test, quotient_held, quotient_from_zero}

-- ---- results modulo 2 to the width

-- a result that is a number congruent to v
pub record IsReduced (bits : ℕ) (v : ℤ) (r : Result ℤ Reason) : Type 0 where
  pub number : ℤ
  pub is : r ≡ Ok number
  pub reduced : modulo bits number ≡ modulo bits v

-- in the type to which an unsigned kind is promoted, a number that twice as many bits hold comes out modulo the kind's width
pub fitted_reduced : (t : TargetTable) (bits : ℕ) (c : Arith) (v : ℤ) → IsWideOrSame t bits c → (bits < 64 → IsTrue (in_range_of (2 * bits) true v)) → IsReduced bits v (fitted (arith_bits t c) (arith_signed c) v)
fitted_reduced t bits c v (wide s le few) h =
    record { number = v; is = ap (λ signed. fitted (arith_bits t c) signed v) s ∙ fitted_held (arith_bits t c) true v (wider (2 * bits) (arith_bits t c) true v le (h few)); reduced = refl }
fitted_reduced t bits c v (same s e) h =
    record { number = modulo bits v; is = ap (λ signed. fitted (arith_bits t c) signed v) s ∙ ap (λ n. fitted n false v) e; reduced = modulo_of_held bits (modulo bits v) (modulo_in_range bits v) }

-- ---- comparisons of a number of the kind with a constant

module _ (p : Program) (s : CState) (table : CTable (table_of p.target)) where
  abbrev table_here : TargetTable
  table_here = table_of p.target

  module _ (kind : IntKind) (unsigned_one : is_signed kind ≡ false) (b : Expr) (y : ℤ) (given : IsGiven p s kind b y) where
    from : IsTrue (int_le (pos 0) y)
    from = from_zero (width kind) y (range_of_sign kind false unsigned_one y given.is_in)

    with_typed : (n : ℕ) → IsTrue (int_le (pos 0) (pos n)) → (signed : Bool) (c : IsTyped table_here table signed (pos n) (constant_type_in table_here Plain n)) → AreNatural table_here table (of_kind kind) (Computed c.type) y (pos n)
    with_typed n z signed c = record { left_from = from; right_from = z; left_held = given.is_in; right_held = c.holds }

    pub divisor_tested : Tests p s (divisor_is_some b) (not (int_eq y (pos 0)))
    divisor_tested =
        let c = plain_typed table_here table 0 (omega arith) in
        binary_gives p s Ne b (plain 0) (Num (of_kind kind) y) (Num (Computed c.type) (pos 0)) given.gives (constant_gives p s 0 Plain c.type c.found_it)
        ∙ compared_natural table_here table (of_kind kind) (Computed c.type) y (pos 0) (with_typed 0 refl true c) (λ x z. not (int_eq x z))

    is_zero_tested : Tests p s (Binary Eq b (plain 0)) (int_eq y (pos 0))
    is_zero_tested =
        let c = plain_typed table_here table 0 (omega arith) in
        binary_gives p s Eq b (plain 0) (Num (of_kind kind) y) (Num (Computed c.type) (pos 0)) given.gives (constant_gives p s 0 Plain c.type c.found_it)
        ∙ compared_natural table_here table (of_kind kind) (Computed c.type) y (pos 0) (with_typed 0 refl true c) int_eq

    pub shift_tested : Tests p s (shift_fits (width kind) b) (int_lt y (pos (width kind)))
    shift_tested =
        let w = width kind in
        let l = width_most kind in
        let c = plain_typed table_here table w (omega arith) in
        binary_gives p s Lt b (plain w) (Num (of_kind kind) y) (Num (Computed c.type) (pos w)) given.gives (constant_gives p s w Plain c.type c.found_it)
        ∙ compared_natural table_here table (of_kind kind) (Computed c.type) y (pos w) (with_typed w (grind (arith, ints)) true c) int_lt

-- ---- sums, differences and products

module _ (p : Program) (s : CState) (kind : IntKind) (unsigned_one : is_signed kind ≡ false) (a b : Expr) (x y : ℤ) (given : AreGiven p s kind a b x y) where
  abbrev t : TargetTable
  t = table_of p.target

  abbrev w : ℕ
  w = width kind

  left_in : IsTrue (in_range_of (width kind) false x)
  left_in = range_of_sign kind false unsigned_one x given.left.is_in

  right_in : IsTrue (in_range_of (width kind) false y)
  right_in = range_of_sign kind false unsigned_one y given.right.is_in

  two : 2 ≤ width kind
  two = let l = width_least kind in omega arith

  -- the value of a sum
  sum_gives : (r : IsReduced w (x +ℤ y) (sum (arith_bits t (promoted t (of_kind kind))) (arith_signed (promoted t (of_kind kind))) x y)) → Gives p s (Binary Add a b) (Num (Computed (promoted t (of_kind kind))) r.number)
  sum_gives r =
      let k = of_kind kind in
      binary_gives p s Add a b (Num k x) (Num k y) given.left.gives given.right.gives
      ∙ usual_alike t given.table k x y given.left.is_in given.right.is_in sum ∙ ap (computed (promoted t k)) r.is

  cast_sum : (r : IsReduced w (x +ℤ y) (sum (arith_bits t (promoted t (of_kind kind))) (arith_signed (promoted t (of_kind kind))) x y)) → Gives p s (cast_to (kind_at w false) (Binary Add a b)) (Num (of_kind kind) (modulo w (x +ℤ y)))
  cast_sum r =
      let n = r.number in
      subst (λ k. Gives p s (cast_to k (Binary Add a b)) (Num (of_kind kind) (modulo w (x +ℤ y)))) (sym (kind_of_sign kind false unsigned_one))
      (cast_gives p s kind (Binary Add a b) (Computed (promoted t (of_kind kind))) n (modulo w (x +ℤ y)) (sum_gives r) (ap (λ signed. converted w signed n) unsigned_one ∙ ap Some r.reduced))

  pub sum_tested : Tests p s (sum_fits (width kind) a b) (in_range_of (width kind) false (x +ℤ y))
  sum_tested =
      let k = of_kind kind in
      let c = promoted t k in
      let m = modulo w (x +ℤ y) in
      let r : IsReduced w (x +ℤ y) (sum (arith_bits t c) (arith_signed c) x y) = fitted_reduced t w c (x +ℤ y) (promoted_unsigned t given.table kind unsigned_one) (λ few. sum_in_double w x y two left_in right_in) in
      binary_gives p s Ge (cast_to (kind_at w false) (Binary Add a b)) a (Num k m) (Num k x) (cast_sum r) given.left.gives
      ∙ compared_alike t given.table k m x (in_range_by_sign kind false unsigned_one m (modulo_in_range w (x +ℤ y))) given.left.is_in (λ u v. int_le v u)
      ∙ ap (λ q. Ok (truth q)) (sum_test w x y left_in right_in)

  pub difference_tested : Tests p s (difference_fits a b) (in_range_of (width kind) false (x -ℤ y))
  difference_tested =
      let k = of_kind kind in
      binary_gives p s Le b a (Num k y) (Num k x) given.right.gives given.left.gives
      ∙ compared_alike t given.table k y x given.right.is_in given.left.is_in int_le
      ∙ ap (λ q. Ok (truth q)) (difference_test w x y left_in right_in)

  abbrev most : ℕ
  most = 2 ^ w - 1

  few_bits : 2 ^ w - 1 < 2 ^ 64
  few_bits = let g = powers_grow w 64 (width_most kind) in let q = pow_pos w in omega arith

  most_from : IsTrue (int_le (pos 0) (pos (2 ^ w - 1)))
  most_from = grind (arith, ints)

  -- where the kind of twice as many bits has the product
  doubled_tested : (double : IntKind) → IsDouble kind double → (is : kind_at (2 * w) false ≡ double) → Tests p s (narrow_product_fits w a b) (in_range_of w false (x *ℤ y))
  doubled_tested double d is =
      let i = product_in_double w x y left_in right_in in
      let h = in_double kind double d false unsigned_one (x *ℤ y) i in
      let u = unsigned_typed t given.table (2 ^ w - 1) few_bits in
      let c = promoted t (of_kind double) in
      let v = Num (Computed c) (x *ℤ y) in
      let g = product_gives p s kind double d a b x y given h in
      let m = subst (λ k. Gives p s (Binary Mul (cast_to k a) (cast_to k b)) v) (sym is) g in
      let n : AreNatural t given.table (Computed c) (Computed u.type) (x *ℤ y) (pos most) = record { left_from = from_zero (2 * w) (x *ℤ y) i; right_from = most_from; left_held = promotion_keeps t given.table.sound (of_kind double) (x *ℤ y) h; right_held = u.holds } in
      binary_gives p s Le (double_product w false a b) (greatest_constant w false) v (Num (Computed u.type) (pos most)) m (constant_gives p s most U u.type u.found_it)
      ∙ compared_natural t given.table (Computed c) (Computed u.type) (x *ℤ y) (pos most) n int_le
      ∙ ap (λ q. Ok (truth q)) (most_test w (x *ℤ y) (from_zero (2 * w) (x *ℤ y) i))

  -- the greatest number divided by the right operand
  quotient_gives : int_eq y (pos 0) ≡ false → (u : IsTyped t given.table false (pos most) (constant_type_in t U most))
      → Gives p s (Binary Div (greatest_constant w false) b) (Num (Computed (common_type t (Computed u.type) (of_kind kind))) (int_div (pos most) y))
  quotient_gives nonzero u =
      let k = of_kind kind in
      let from = from_zero w y right_in in
      let n : AreNatural t given.table (Computed u.type) k (pos most) y = record { left_from = most_from; right_from = from; left_held = u.holds; right_held = given.right.is_in } in
      let c = common_type t (Computed u.type) k in
      binary_gives p s Div (greatest_constant w false) b (Num (Computed u.type) (pos most)) (Num k y) (constant_gives p s most U u.type u.found_it) given.right.gives
      ∙ usual_natural t given.table (Computed u.type) k (pos most) y n quotient
      ∙ ap (λ test. computed c (if test then Err DivZero else fitted (arith_bits t c) (arith_signed c) (int_div (pos most) y))) nonzero
      ∙ ap (computed c) (fitted_held (arith_bits t c) (arith_signed c) (int_div (pos most) y)
      (quotient_held (arith_bits t c) (arith_signed c) (pos most) y most_from from (left_kept t given.table (Computed u.type) k (pos most) y n)))

  wrap_tested : int_eq y (pos 0) ≡ false → Tests p s (does_not_wrap w a b) (int_le x (int_div (pos most) y))
  wrap_tested nonzero =
      let k = of_kind kind in
      let u = unsigned_typed t given.table most few_bits in
      let c = common_type t (Computed u.type) k in
      let q = int_div (pos most) y in
      let from = from_zero w y right_in in
      let n : AreNatural t given.table (Computed u.type) k (pos most) y = record { left_from = most_from; right_from = from; left_held = u.holds; right_held = given.right.is_in } in
      let h = quotient_held (arith_bits t c) (arith_signed c) (pos most) y most_from from (left_kept t given.table (Computed u.type) k (pos most) y n) in
      let m : AreNatural t given.table k (Computed c) x q = record { left_from = from_zero w x left_in; right_from = quotient_from_zero (pos most) y most_from from; left_held = given.left.is_in; right_held = h } in
      binary_gives p s Le a (Binary Div (greatest_constant w false) b) (Num k x) (Num (Computed c) q) given.left.gives (quotient_gives nonzero u)
      ∙ compared_natural t given.table k (Computed c) x q m int_le

  wide_tested : Tests p s (wide_product_fits w a b) (in_range_of w false (x *ℤ y))
  wide_tested =
      or_else_tests p s (Binary Eq b (plain 0)) (does_not_wrap w a b) (int_eq y (pos 0)) (int_le x (int_div (pos most) y)) (is_zero_tested p s given.table kind unsigned_one b y given.right) wrap_tested
      ∙ ap (λ q. Ok (truth q)) (product_test w x y left_in right_in)

  product_by : (test : Bool) → nat_lt (width kind) 64 ≡ test → Tests p s (if test then narrow_product_fits w a b else wide_product_fits w a b) (in_range_of w false (x *ℤ y))
  product_by true e =
      let same_kind = ap (kind_at (2 * w)) (sym unsigned_one) in doubled_tested (kind_at (2 * w) (is_signed kind)) (doubled kind e) same_kind
  product_by false e = wide_tested

  pub product_tested : Tests p s (product_guard (width kind) false a b) (in_range_of (width kind) false (x *ℤ y))
  product_tested = product_by (nat_lt (width kind) 64) refl

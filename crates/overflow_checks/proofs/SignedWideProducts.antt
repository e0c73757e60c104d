-- Products of a signed kind that has no kind of twice as many bits: what their guard on the distances from 0 tests.
use Rattle.std.proofs.Common.{◌≡◌, ℕ, ◌-◌, ◌+◌, ◌*◌, ◌/◌, ◌^◌, ◌<◌, ◌≤◌, ℤ, pos, ◌*ℤ◌, Bool, true, false, IsTrue, Result, Ok, arith, refl, sym, subst, ap, ◌∙◌}
use Rattle.std.specs.Prelude.{if◌then◌else◌, ◌||◌, ◌&&◌, Option, Some, int_le, int_lt, int_div, unsigned_abs, bit_xor}
use Rattle.std.specs.Option.{option_map, option_and_then}
use Rattle.std.specs.Ordering.{int_eq}
use Rattle.std.proofs.lemmas.Nat.{xor_lt}
use Rattle.std.proofs.lemmas.Nat.Bits.{bit_at_xor}
use Rattle.iv_words.specs.Kinds.{in_range_of, width, is_signed}
use Rattle.iv_words.specs.declared.IntKind.{IntKind}
use Rattle.run_records.specs.declared.Reason.{Reason}
use Rattle.c_ast.specs.declared.Arith.{Arith}
use Rattle.c_ast.specs.declared.Arith.TheVariants.{Int}
use Rattle.c_ast.specs.declared.CScalar.TheVariants.{Int as Exact}
use Rattle.c_ast.specs.declared.CKind.{CKind}
use Rattle.c_ast.specs.declared.CKind.TheVariants.{Arith as Computed}
use Rattle.c_ast.specs.declared.CType.TheVariants.{Value}
use Rattle.c_ast.specs.declared.CBinary.TheVariants.{Sub, Mul, Shr, Eq, Lt, Le, Xor}
use Rattle.c_ast.specs.Syntax.{Expr, Binary}
use Rattle.c_ast.specs.Targets.{TargetTable, table_of, common_in, common_type}
use Rattle.c_meaning.specs.Values.{Trouble, CValue, Num, is_true, on_ok}
use Rattle.c_meaning.specs.Operators.{bits_of, truth}
use Rattle.c_meaning.specs.State.{Program, CState}
use Rattle.c_ast.specs.StaticTypes.{ValueType, Arithmetic, of_binary, of_choice, of_cast, of_both}
use Rattle.c_meaning.specs.Expressions.{static_type, as_common, eval}
use Rattle.overflow_checks.specs.Parts.{plain}
use Rattle.overflow_checks.specs.UnsignedForms.{does_not_wrap}
use Rattle.overflow_checks.specs.SignedForms.{unsigned_of, differing, magnitude, product_limit, nonzero_product_fits, wide_signed_product_fits}
use Rattle.overflow_checks.proofs.Tables.{CTable, common_with_itself}
use Rattle.overflow_checks.proofs.Given.{of_kind}
use Rattle.overflow_checks.specs.Contract.{IsGiven}
use Rattle.overflow_checks.proofs.Rows.{Tests}
use Rattle.overflow_checks.proofs.Choices.{or_else_tests, and_also_tests}
use Rattle.iv_words.proofs.Widths.{width_least, width_most, range_of_sign}
use Rattle.overflow_checks.proofs.Numbers.{below, product_test}
use Rattle.overflow_checks.proofs.Numbers as numbers
use Rattle.overflow_checks.proofs.SignedTypes.{IsAlike, int_with_unsigned}
use Rattle.overflow_checks.proofs.SignedValues.{given_is, plain_is, compares}
use Rattle.overflow_checks.proofs.SignedGuards.{tests_same}
use Rattle.overflow_checks.proofs.SignedModulo.{bits_under, bitwise_gives}
use Rattle.overflow_checks.proofs.SignedWideSums.{unsigned_kind, unsigned_type, alike, cast_modulo}
use Rattle.overflow_checks.proofs.SignedProducts.{distance_below, opposite_distance, same_distance, distance_not_zero, shifted_top, signs_differ, signs_below, distance_test}
use Rattle.overflow_checks.proofs.SignedNaturals.{zero_type, IsNatural, opposite_gives, arm_is, wrap_tests, product_gives, top_gives, limit_tests}

some_bits : (kind : IntKind) → 1 ≤ width kind
some_bits kind = let l = width_least kind in omega arith

module _ (p : Program) (s : CState) (table : CTable (table_of p.target)) (kind : IntKind) (signed : is_signed kind ≡ true) (wide : (table_of p.target).int_bits ≤ width kind) where
  abbrev t : TargetTable
  t = table_of p.target

  abbrev w : ℕ
  w = width kind

  abbrev u : IntKind
  u = unsigned_kind kind

  abbrev c : Arith
  c = unsigned_type p s kind table wide

  abbrev same : IsAlike t w c
  same = alike p s kind table wide

  abbrev Natural : Expr → ℕ → Type 0
  Natural e n = IsNatural p s table w c same (some_bits kind) (width_most kind) e n

  -- an operand is below 0
  sign_tests : (a : Expr) (x : ℤ) → IsGiven p s kind a x → Tests p s (Binary Lt a (plain 0)) (int_lt x (pos 0))
  sign_tests a x given =
      compares p s table w t.int_bits a (plain 0) x (pos 0) (given_is p s table kind a x signed given) (plain_is p s table 0 (omega arith)) Lt int_lt (λ u w. refl)

  zero_tests : (a : Expr) (x : ℤ) → IsGiven p s kind a x → Tests p s (Binary Eq a (plain 0)) (int_eq x (pos 0))
  zero_tests a x given =
      compares p s table w t.int_bits a (plain 0) x (pos 0) (given_is p s table kind a x signed given) (plain_is p s table 0 (omega arith)) Eq int_eq (λ u w. refl)

  -- ---- how far an operand is from 0

  module _ (a : Expr) (x : ℤ) (given : IsGiven p s kind a x) where
    abbrev as_unsigned : Expr
    as_unsigned = unsigned_of w a

    abbrev opposite : Expr
    opposite = Binary Sub (plain 0) (unsigned_of w a)

    abbrev type_of : Expr → Option ValueType
    type_of e = static_type p s e

    abbrev Typed : Expr → CKind → Type 0
    Typed e k = type_of e ≡ Some (Arithmetic k)

    abbrev constant_of : Option Arith → Option ValueType
    constant_of found = option_map (λ a. Arithmetic (Computed a)) found

    abbrev zero_and : Arith
    zero_and = common_type t (Computed Int) (of_kind u)

    unsigned_typed_as : Typed as_unsigned (of_kind u)
    unsigned_typed_as = ap (λ o. option_and_then (of_cast (Value (Exact u))) o) given.type

    opposite_typed : Typed opposite (Computed zero_and)
    opposite_typed =
        ap (λ o. of_both (of_binary t Sub) (constant_of o) (type_of as_unsigned)) (zero_type t)
        ∙ ap (λ o. of_both (of_binary t Sub) (Some (Arithmetic (Computed Int))) o) unsigned_typed_as

    test_typed : Typed (Binary Lt a (plain 0)) (Computed Int)
    test_typed =
        ap (λ o. of_both (of_binary t Lt) o (type_of (plain 0))) given.type
        ∙ ap (λ o. of_both (of_binary t Lt) (Some (Arithmetic (of_kind kind))) (constant_of o)) (zero_type t)

    abbrev arms_type : Option ValueType → Option ValueType → Option ValueType
    arms_type = of_both (of_choice t (Arithmetic (Computed Int)))

    magnitude_typed : Typed (magnitude w a) (Computed c)
    magnitude_typed =
        ap (λ o. option_and_then (λ test. of_both (of_choice t test) (type_of opposite) (type_of as_unsigned)) o) test_typed
        ∙ ap (λ o. arms_type o (type_of as_unsigned)) opposite_typed
        ∙ ap (λ o. arms_type (Some (Arithmetic (Computed zero_and))) o) unsigned_typed_as
        ∙ ap (λ d. let q : Option ValueType = Some (Arithmetic (Computed (common_in t d c))) in q) (int_with_unsigned t c same.0)
        ∙ ap (λ d. let q : Option ValueType = Some (Arithmetic (Computed d)) in q) (common_with_itself t c)

    abbrev distance : ℕ
    distance = unsigned_abs x

    is_in : IsTrue (in_range_of (width kind) true x)
    is_in = range_of_sign kind true signed x given.is_in

    below_all : unsigned_abs x < 2 ^ width kind
    below_all = distance_below w x (some_bits kind) is_in

    arms : (test : Bool) → int_lt x (pos 0) ≡ test → on_ok (is_true (truth test)) (λ holds. as_common t (Some (Arithmetic (Computed c))) (if holds then eval p opposite s else eval p as_unsigned s)) ≡ Ok (Num (Computed c) (pos distance))
    arms true e =
        arm_is p s table w c same (some_bits kind) (width_most kind) (eval p opposite s) (Computed c) _ distance below_all (opposite_distance w x (some_bits kind) is_in e)
        (opposite_gives p s table w c same (some_bits kind) (width_most kind) as_unsigned x (cast_modulo p s kind table wide a x given))
    arms false e =
        let m = cast_modulo p s kind table wide a x given in
        arm_is p s table w c same (some_bits kind) (width_most kind) (eval p as_unsigned s) m.kind _ distance below_all (same_distance w x (some_bits kind) is_in e) m.gives

    magnitude_gives : Natural (magnitude w a) distance
    magnitude_gives =
        ap (λ r. let q : Result CValue Trouble = on_ok (on_ok r is_true) (λ holds. as_common t (type_of (magnitude w a)) (if holds then eval p opposite s else eval p as_unsigned s)) in q) (sign_tests a x given)
        ∙ ap (λ k. let q : Result CValue Trouble = on_ok (is_true (truth (int_lt x (pos 0)))) (λ holds. as_common t k (if holds then eval p opposite s else eval p as_unsigned s)) in q) magnitude_typed
        ∙ arms (int_lt x (pos 0)) refl

  -- ---- products

  module _ (a b : Expr) (x y : ℤ) (left : IsGiven p s kind a x) (right : IsGiven p s kind b y) where
    h : IsTrue (in_range_of (width kind) true x)
    h = range_of_sign kind true signed x left.is_in

    k : IsTrue (in_range_of (width kind) true y)
    k = range_of_sign kind true signed y right.is_in

    abbrev m : ℕ
    m = unsigned_abs x

    abbrev n : ℕ
    n = unsigned_abs y

    m_below : unsigned_abs x < 2 ^ width kind
    m_below = distance_below w x (some_bits kind) h

    n_below : unsigned_abs y < 2 ^ width kind
    n_below = distance_below w y (some_bits kind) k

    abbrev d : ℕ
    d = signs_differ w (some_bits kind) x y

    abbrev apart : Expr
    apart = differing (unsigned_of w a) (unsigned_of w b)

    -- 1 where the signs differ, and else 0
    signs_give : Natural (Binary Shr apart (plain (w - 1))) d
    signs_give =
        let v = bit_xor (bits_of w x) (bits_of w y) in
        let l = xor_lt w (bits_of w x) (bits_of w y) (bits_under w x) (bits_under w y) in
        let is : v / 2 ^ (w - 1) ≡ d = shifted_top w v (some_bits kind) l ∙ bit_at_xor (bits_of w x) (bits_of w y) (w - 1) in
        subst (Natural (Binary Shr apart (plain (w - 1)))) is
        (top_gives p s table w c same (some_bits kind) (width_most kind) apart v
        (bitwise_gives p s table w c same (unsigned_of w a) (unsigned_of w b) x y (cast_modulo p s kind table wide a x left) (cast_modulo p s kind table wide b y right) Xor bit_xor (λ u w. refl)))

    abbrev fits : Bool
    fits = int_le (pos m) (int_div (pos (2 ^ w - 1)) (pos n))

    abbrev is_within : Bool
    is_within = int_le (pos (m * n)) (pos (2 ^ (w - 1) - 1 + d))

    fits_is : int_eq y (pos 0) ≡ false → fits ≡ in_range_of w false (pos (m * n))
    fits_is other =
        ap (λ z. z || fits) (sym (distance_not_zero y other)) ∙ product_test w (pos m) (pos n) (numbers.natural w m m_below) (numbers.natural w n n_below)

    limit_there : int_eq y (pos 0) ≡ false → fits ≡ true → Tests p s (Binary Le (Binary Mul (magnitude w a) (magnitude w b)) (product_limit w a b)) is_within
    limit_there other it_fits =
        let less : m * n < 2 ^ w = below w (m * n) (sym (fits_is other) ∙ it_fits) in
        limit_tests p s table w c same (some_bits kind) (width_most kind) (Binary Mul (magnitude w a) (magnitude w b)) (Binary Shr apart (plain (w - 1))) (m * n) d less (signs_below w (some_bits kind) x y)
        (product_gives p s table w c same (some_bits kind) (width_most kind) (magnitude w a) (magnitude w b) m n m_below n_below (magnitude_gives a x left) (magnitude_gives b y right) less)
        signs_give

    nonzero_tests : int_eq y (pos 0) ≡ false → Tests p s (nonzero_product_fits w a b) (fits && is_within)
    nonzero_tests other =
        and_also_tests p s (does_not_wrap w (magnitude w a) (magnitude w b)) (Binary Le (Binary Mul (magnitude w a) (magnitude w b)) (product_limit w a b)) fits is_within
        (wrap_tests p s table w c same (some_bits kind) (width_most kind) (magnitude w a) (magnitude w b) m n m_below n_below (magnitude_gives a x left) (magnitude_gives b y right) (distance_not_zero y other))
        (limit_there other)

    pub wide_product_tests : Tests p s (wide_signed_product_fits (width kind) a b) (in_range_of (width kind) true (x *ℤ y))
    wide_product_tests =
        tests_same p s table (wide_signed_product_fits w a b) (int_eq y (pos 0) || (fits && is_within)) (in_range_of w true (x *ℤ y))
        (distance_test w (some_bits kind) x y fits h k fits_is (int_eq y (pos 0)) refl)
        (or_else_tests p s (Binary Eq b (plain 0)) (nonzero_product_fits w a b) (int_eq y (pos 0)) (fits && is_within) (zero_tests b y right) nonzero_tests)

-- The rows of the signed kinds.
use Rattle.std.proofs.Common.{◌≡◌, ℕ, ◌*◌, ◌≤◌, ◌⊎◌, inl, inr, ℤ, pos, ◌+ℤ◌, ◌-ℤ◌, ◌*ℤ◌, neg_ℤ, Bool, true, false, IsTrue, arith, refl}
use Rattle.std.specs.Prelude.{if◌then◌else◌, int_div, nat_lt}
use Rattle.std.specs.Ordering.{int_eq}
use Rattle.iv_words.specs.Kinds.{in_range_of, width, is_signed}
use Rattle.iv_words.specs.declared.IntKind.{IntKind}
use Rattle.iv_words.specs.declared.IntKind.TheVariants.{U8, U16, U32, U64, I8, I16, I32, I64}
use Rattle.c_ast.specs.declared.CUnary.TheVariants.{Neg}
use Rattle.c_ast.specs.declared.CBinary.TheVariants.{Add, Sub, Mul, Div, Rem}
use Rattle.c_ast.specs.Syntax.{Expr, Unary, Binary}
use Rattle.c_ast.specs.Targets.{table_of}
use Rattle.c_meaning.specs.State.{Program, CState}
use Rattle.overflow_checks.specs.Parts.{cast_to}
use Rattle.overflow_checks.specs.SignedForms.{is_between_ends, narrow_sum_fits, narrow_difference_fits, wide_sum_fits, wide_difference_fits, opposite_fits, quotient_fits}
use Rattle.overflow_checks.specs.Forms.{sum_guard, difference_guard, product_guard, product_of}
use Rattle.overflow_checks.proofs.Tables.{CTable}
use Rattle.overflow_checks.specs.Contract.{IsGiven}
use Rattle.overflow_checks.proofs.Rows.{AreGiven, Tests, GivesNumber}
use Rattle.iv_words.proofs.Widths.{width_least, width_most, range_of_sign}
use Rattle.overflow_checks.proofs.SignedValues.{IsSigned, number_is, given_is, opposite_is, sum_is, difference_is, product_is, quotient_is, remainder_gives}
use Rattle.overflow_checks.proofs.SignedWideSums.{wide_sum_tests, wide_difference_tests}
use Rattle.overflow_checks.proofs.SignedWideProducts.{wide_product_tests}
use Rattle.overflow_checks.proofs.SignedGuards.{opposite_tests, quotient_tests, narrow_sum_tests, narrow_difference_tests, double_product_is, double_product_tests}

some_bits : (kind : IntKind) → 1 ≤ width kind
some_bits kind = let w = width_least kind in omega arith

module _ (p : Program) (s : CState) (kind : IntKind) (signed : is_signed kind ≡ true) where
  is : (e : Expr) (v : ℤ) → (table : CTable (table_of p.target)) → IsGiven p s kind e v → IsSigned p s table (width kind) e v
  is e v table given = given_is p s table kind e v signed given

  held : (e : Expr) (v : ℤ) → IsGiven p s kind e v → IsTrue (in_range_of (width kind) true v)
  held e v given = range_of_sign kind true signed v given.is_in

  module _ (a b : Expr) (x y : ℤ) (given : AreGiven p s kind a b x y) where
    abbrev bits : ℕ
    bits = width kind

    abbrev int_bits : ℕ
    int_bits = (table_of p.target).int_bits

    l : IsSigned p s given.table bits a x
    l = is a x given.table given.left

    r : IsSigned p s given.table bits b y
    r = is b y given.table given.right

    h : IsTrue (in_range_of bits true x)
    h = held a x given.left

    k : IsTrue (in_range_of bits true y)
    k = held b y given.right

    -- ---- guards

    sum_by : (test : Bool) → nat_lt bits int_bits ≡ test → Tests p s (if test then narrow_sum_fits bits a b else wide_sum_fits bits a b) (in_range_of bits true (x +ℤ y))
    sum_by true e = narrow_sum_tests p s given.table bits a b x y (width_most kind) (some_bits kind) l r h k (grind arith)
    sum_by false e = wide_sum_tests p s kind signed a b x y given (grind arith)

    pub sum_guarded : Tests p s (sum_guard (table_of p.target).int_bits (width kind) true a b) (in_range_of (width kind) true (x +ℤ y))
    sum_guarded = sum_by (nat_lt bits int_bits) refl

    difference_by : (test : Bool) → nat_lt bits int_bits ≡ test → Tests p s (if test then narrow_difference_fits bits a b else wide_difference_fits bits a b) (in_range_of bits true (x -ℤ y))
    difference_by true e = narrow_difference_tests p s given.table bits a b x y (width_most kind) (some_bits kind) l r h k (grind arith)
    difference_by false e = wide_difference_tests p s kind signed a b x y given (grind arith)

    pub difference_guarded : Tests p s (difference_guard (table_of p.target).int_bits (width kind) true a b) (in_range_of (width kind) true (x -ℤ y))
    difference_guarded = difference_by (nat_lt bits int_bits) refl

    -- the divisor is not 0
    pub quotient_guarded : int_eq y (pos 0) ≡ false → Tests p s (quotient_fits (width kind) a b) (in_range_of (width kind) true (int_div x y))
    quotient_guarded n = quotient_tests p s given.table bits a b x y (width_most kind) (some_bits kind) l r h k n

    -- ---- computations

    pub sum_computed : IsTrue (in_range_of (width kind) true (x +ℤ y)) → GivesNumber p s (Binary Add a b) (x +ℤ y)
    sum_computed i = number_is p s given.table bits (Binary Add a b) (x +ℤ y) (sum_is p s given.table bits bits a b x y l r i)

    pub difference_computed : IsTrue (in_range_of (width kind) true (x -ℤ y)) → GivesNumber p s (Binary Sub a b) (x -ℤ y)
    difference_computed i = number_is p s given.table bits (Binary Sub a b) (x -ℤ y) (difference_is p s given.table bits bits a b x y l r i)

    pub quotient_computed : int_eq y (pos 0) ≡ false → IsTrue (in_range_of (width kind) true (int_div x y)) → GivesNumber p s (Binary Div a b) (int_div x y)
    quotient_computed n i = number_is p s given.table bits (Binary Div a b) (int_div x y) (quotient_is p s given.table bits bits a b x y l r n i)

    pub remainder_computed : int_eq y (pos 0) ≡ false → IsTrue (in_range_of (width kind) true (int_div x y)) → GivesNumber p s (Binary Rem a b) (x -ℤ int_div x y *ℤ y)
    remainder_computed n i = remainder_gives p s given.table bits bits a b x y l r n i

  -- ---- the prefix `-`

  module _ (table : CTable (table_of p.target)) (a : Expr) (x : ℤ) (given : IsGiven p s kind a x) where
    pub opposite_guarded : Tests p s (opposite_fits (width kind) a) (in_range_of (width kind) true (neg_ℤ x))
    opposite_guarded = opposite_tests p s table (width kind) a x (width_most kind) (is a x table given) (held a x given)

    pub opposite_computed : IsTrue (in_range_of (width kind) true (neg_ℤ x)) → GivesNumber p s (Unary Neg a) (neg_ℤ x)
    opposite_computed i = number_is p s table (width kind) (Unary Neg a) (neg_ℤ x) (opposite_is p s table (width kind) a x (is a x table given) i)

-- ---- products, in the kind of twice as many bits where there is one

int_below : {n : ℕ} → (n ≡ 16) ⊎ (n ≡ 32) → n ≤ 64
int_below (inl is) = omega arith
int_below (inr is) = omega arith

module _ (p : Program) (s : CState) where
  -- the kind of twice as many bits
  module _ (kind double : IntKind) (signed : is_signed kind ≡ true) (sign : is_signed double ≡ true) (twice : width double ≡ 2 * width kind)
      (a b : Expr) (x y : ℤ) (given : AreGiven p s kind a b x y) where
    in_double_guarded : Tests p s (is_between_ends (width kind) (Binary Mul (cast_to double a) (cast_to double b))) (in_range_of (width kind) true (x *ℤ y))
    in_double_guarded =
        double_product_tests p s given.table (width kind) a b x y (width_most kind) (some_bits kind)
        (is p s kind signed a x given.table given.left) (is p s kind signed b y given.table given.right) (held p s kind signed a x given.left) (held p s kind signed b y given.right)
        double sign twice

    in_double_computed : GivesNumber p s (Binary Mul (cast_to double a) (cast_to double b)) (x *ℤ y)
    in_double_computed =
        number_is p s given.table (width double) (Binary Mul (cast_to double a) (cast_to double b)) (x *ℤ y)
        (double_product_is p s given.table (width kind) a b x y (width_most kind) (some_bits kind)
        (is p s kind signed a x given.table given.left) (is p s kind signed b y given.table given.right) (held p s kind signed a x given.left) (held p s kind signed b y given.right)
        double sign twice)

  pub product_guarded : (kind : IntKind) → is_signed kind ≡ true → (a b : Expr) (x y : ℤ) → AreGiven p s kind a b x y → Tests p s (product_guard (width kind) true a b) (in_range_of (width kind) true (x *ℤ y))
  product_guarded I8 signed a b x y given = in_double_guarded I8 I16 refl refl refl a b x y given
  product_guarded I16 signed a b x y given = in_double_guarded I16 I32 refl refl refl a b x y given
  product_guarded I32 signed a b x y given = in_double_guarded I32 I64 refl refl refl a b x y given
  product_guarded I64 signed a b x y given = wide_product_tests p s given.table I64 refl (int_below given.table.int_is) a b x y given.left given.right
  product_guarded U8 signed a b x y given = cc
  product_guarded U16 signed a b x y given = cc
  product_guarded U32 signed a b x y given = cc
  product_guarded U64 signed a b x y given = cc

  pub product_computed : (kind : IntKind) → is_signed kind ≡ true → (a b : Expr) (x y : ℤ) → AreGiven p s kind a b x y → IsTrue (in_range_of (width kind) true (x *ℤ y)) → GivesNumber p s (product_of (width kind) true a b) (x *ℤ y)
  product_computed I8 signed a b x y given i = in_double_computed I8 I16 refl refl refl a b x y given
  product_computed I16 signed a b x y given i = in_double_computed I16 I32 refl refl refl a b x y given
  product_computed I32 signed a b x y given i = in_double_computed I32 I64 refl refl refl a b x y given
  product_computed I64 signed a b x y given i =
      number_is p s given.table 64 (Binary Mul a b) (x *ℤ y)
      (product_is p s given.table 64 64 a b x y (is p s I64 refl a x given.table given.left) (is p s I64 refl b y given.table given.right) i)
  product_computed U8 signed a b x y given i = cc
  product_computed U16 signed a b x y given i = cc
  product_computed U32 signed a b x y given i = cc
  product_computed U64 signed a b x y given i = cc

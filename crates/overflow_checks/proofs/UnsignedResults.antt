-- The computations of the unsigned kinds: which numbers they give, modulo 2 to the width.
use Rattle.std.proofs.Common.{◌≡◌, ℕ, ◌-◌, ◌*◌, ◌^◌, ◌<◌, ◌≤◌, ℤ, pos, negsuc, ◌+ℤ◌, ◌-ℤ◌, ◌*ℤ◌, neg_ℤ, Bool, true, false, IsTrue, Result, Ok, Err, arith, refl, sym, subst, ap, ◌∙◌}
use Rattle.std.specs.Prelude.{if◌then◌else◌, ◌||◌, int_le, int_lt, int_div, nat_lt, bit_and, bit_or, bit_xor}
use Rattle.std.specs.Int.{int_div_euclid}
use Rattle.std.specs.Ordering.{int_eq}
use Rattle.std.proofs.lemmas.Int.{ints}
use Rattle.std.proofs.lemmas.Nat.{pow_pos, and_le_l, or_lt, xor_lt}
use Rattle.std.proofs.Math.Nat.{mod-eq_of_lt}
use Rattle.iv_words.specs.Kinds.{in_range_of, greatest_of, width, is_signed, kind_at}
use Rattle.run_records.specs.declared.Reason.{Reason}
use Rattle.run_records.specs.declared.Reason.TheVariants.{SignedOverflow, DivZero, Shift, Implementation}
use Rattle.iv_words.specs.declared.IntKind.{IntKind}
use Rattle.int_ops.specs.Operators as exact
use Rattle.c_ast.specs.declared.Arith.{Arith}
use Rattle.c_ast.specs.declared.CKind.{CKind}
use Rattle.c_ast.specs.declared.CKind.TheVariants.{Arith as Computed}
use Rattle.c_ast.specs.declared.CUnary.TheVariants.{Flip}
use Rattle.c_ast.specs.declared.CBinary.{CBinary}
use Rattle.c_ast.specs.declared.CBinary.TheVariants.{Add, Sub, Mul, Div, Rem, And, Or, Xor, Shl, Shr}
use Rattle.c_ast.specs.Syntax.{Expr, Unary, Binary}
use Rattle.c_ast.specs.Targets.{TargetTable, table_of, arith_bits, arith_signed, promoted}
use Rattle.c_meaning.specs.Values.{Trouble, Undefined, CValue, Num, on_ok}
use Rattle.iv_words.specs.Bits.{modulo, two_to}
use Rattle.c_meaning.specs.Operators.{Operator, fitted, sum, difference, product, quotient, remainder, bits_of, number_of_bits, bitwise, shifted_left, shifted_right, flipped, computed, usual, binary}
use Rattle.c_meaning.specs.State.{Program, CState}
use Rattle.c_meaning.specs.Expressions.{eval}
use Rattle.iv_words.proofs.Ranges.{powers_grow}
use Rattle.iv_words.proofs.Modular.{modulo_only, modulo_of_held}
use Rattle.c_ast.proofs.Promotions.{promotion_keeps}
use Rattle.overflow_checks.specs.Parts.{cast_to, double_product}
use Rattle.overflow_checks.specs.Forms.{product_of}
use Rattle.overflow_checks.proofs.Tables.{CTable, IsWideOrSame, wide, same, promoted_unsigned}
use Rattle.overflow_checks.proofs.Given.{Gives, of_kind, binary_gives, unary_gives}
use Rattle.overflow_checks.specs.Contract.{IsGiven}
use Rattle.overflow_checks.proofs.Rows.{AreGiven}
use Rattle.iv_words.proofs.Widths.{width_least, range_of_sign, IsDouble, doubled, in_double}
use Rattle.overflow_checks.proofs.DoubleProducts.{product_gives}
use Rattle.overflow_checks.proofs.Alike.{fitted_held, usual_alike}
use Rattle.overflow_checks.proofs.Numbers.{below, from_zero, sum_in_double, difference_in_double, product_in_double, shifted_in_double, quotient_held}
use Rattle.overflow_checks.proofs.UnsignedRows.{IsReduced, fitted_reduced}

-- ---- numbers

-- bit by bit, in a type that has all numbers of the width
pub record KeepsBits (f : ℕ → ℕ → ℕ) : Type 0 where
  pub keeps : (bits m n : ℕ) → m < 2 ^ bits → n < 2 ^ bits → f m n < 2 ^ bits

pub and_keeps : KeepsBits bit_and
and_keeps = record { keeps = λ bits m n h k. let l = and_le_l m n in omega arith }

pub or_keeps : KeepsBits bit_or
or_keeps = record { keeps = λ bits m n h k. or_lt bits m n h k }

pub xor_keeps : KeepsBits bit_xor
xor_keeps = record { keeps = λ bits m n h k. xor_lt bits m n h k }

bits_of_natural : (few bits n : ℕ) → few ≤ bits → n < 2 ^ few → bits_of bits (pos n) ≡ n
bits_of_natural few bits n le l = let p = powers_grow few bits le in mod-eq_of_lt (omega arith)

number_of_small : (bits n : ℕ) (signed : Bool) → (signed ≡ true → n < 2 ^ (bits - 1)) → number_of_bits bits signed n ≡ pos n
number_of_small bits n false h = refl
number_of_small bits n true h = let l = h refl in small (nat_lt n (2 ^ (bits - 1))) (grind arith)
  where
    small : (test : Bool) → test ≡ true → (if test then pos n else pos n -ℤ pos (2 ^ bits)) ≡ pos n
    small true e = refl
    small false e = cc

bitwise_is : (f : ℕ → ℕ → ℕ) → KeepsBits f → (few bits : ℕ) (signed : Bool) (x y : ℤ) → few ≤ bits → (signed ≡ true → few < bits) → IsTrue (in_range_of few false x) → IsTrue (in_range_of few false y)
    → bitwise f bits signed x y ≡ Ok (exact.bitwise f x y)
bitwise_is f keeps few bits signed (pos m) (pos n) le less h k =
    let small = keeps.keeps few m n (below few m h) (below few n k) in
    ap (λ i. Ok (number_of_bits bits signed (f i (bits_of bits (pos n))))) (bits_of_natural few bits m le (below few m h))
    ∙ ap (λ j. Ok (number_of_bits bits signed (f m j))) (bits_of_natural few bits n le (below few n k))
    ∙ ap Ok (number_of_small bits (f m n) signed (λ e. let p = powers_grow few (bits - 1) (let l = less e in omega arith) in omega arith))
bitwise_is f keeps few bits signed (pos m) (negsuc n) le less h k = cc
bitwise_is f keeps few bits signed (negsuc m) y le less h k = cc

-- `~`, modulo 2 to the width
flipped_signed : (bits : ℕ) (v : ℤ) → IsTrue (in_range_of bits false v) → modulo bits (neg_ℤ v -ℤ pos 1) ≡ greatest_of bits false -ℤ v
flipped_signed bits (pos n) h =
    let p = pow_pos bits in
    let l = below bits n h in
    modulo_only bits (neg_ℤ (pos n) -ℤ pos 1) (greatest_of bits false -ℤ pos n) (record { up = 1; down = 0; same = omega (arith, ints) }) (grind (arith, ints))
flipped_signed bits (negsuc n) h = cc

flipped_unsigned : (bits : ℕ) (v : ℤ) → IsTrue (in_range_of bits false v) → IsTrue (in_range_of bits false (greatest_of bits false -ℤ v))
flipped_unsigned bits (pos n) h = let p = pow_pos bits in let l = below bits n h in grind (arith, ints)
flipped_unsigned bits (negsuc n) h = cc

pub flipped_reduced : (t : TargetTable) (bits : ℕ) (c : Arith) (v : ℤ) → IsWideOrSame t bits c → IsTrue (in_range_of bits false v)
    → modulo bits (flipped (arith_bits t c) (arith_signed c) v) ≡ greatest_of bits false -ℤ v
flipped_reduced t bits c v (wide s le few) h = ap (λ signed. modulo bits (flipped (arith_bits t c) signed v)) s ∙ flipped_signed bits v h
flipped_reduced t bits c v (same s e) h =
    ap (λ signed. modulo bits (flipped (arith_bits t c) signed v)) s ∙ ap (λ n. modulo bits (flipped n false v)) e ∙ modulo_of_held bits (greatest_of bits false -ℤ v) (flipped_unsigned bits v h)

left_is : (bits : ℕ) (signed : Bool) (x y : ℤ) → IsTrue (int_le (pos 0) x) → shifted_left bits signed x y ≡ fitted bits signed (x *ℤ two_to y)
left_is bits false x y from = refl
left_is bits true x y from = ap (λ test. let q : Result ℤ Reason = if test then Err SignedOverflow else fitted bits true (x *ℤ two_to y) in q) (not_negative x from)
  where
    not_negative : (v : ℤ) → IsTrue (int_le (pos 0) v) → int_lt v (pos 0) ≡ false
    not_negative v h = grind (arith, ints)

right_is : (bits : ℕ) (signed : Bool) (x y : ℤ) → IsTrue (int_le (pos 0) x) → shifted_right bits signed x y ≡ Ok (int_div_euclid x (two_to y))
right_is bits signed x y from = ap (λ test. let q : Result ℤ Reason = if test then Err Implementation else Ok (int_div_euclid x (two_to y)) in q) (let e : int_lt x (pos 0) ≡ false = grind (arith, ints) in e)

-- an amount from 0 and below the width is one for each type that has the width
amount_is_right : (bits more : ℕ) (y : ℤ) → bits ≤ more → IsTrue (int_le (pos 0) y) → IsTrue (int_lt y (pos bits)) → (int_lt y (pos 0) || int_le (pos more) y) ≡ false
amount_is_right bits more (pos n) le from less =
    let a : int_lt (pos n) (pos 0) ≡ false = grind (arith, ints) in
    let b : int_le (pos more) (pos n) ≡ false = grind (arith, ints) in
    ap (λ test. test || int_le (pos more) (pos n)) a ∙ b
amount_is_right bits more (negsuc n) le from less = cc

-- the type to which the kind is promoted has the width, and one bit more where it is signed
pub has_width : (t : TargetTable) (bits : ℕ) (c : Arith) → IsWideOrSame t bits c → 1 ≤ bits → (bits ≤ arith_bits t c) × (arith_signed c ≡ true → bits < arith_bits t c)
has_width t bits c (wide s le few) some = (omega arith, λ e. omega arith)
has_width t bits c (same s e) some = (omega (arith, e), λ f. let no : ⊥ = cc in absurd no)

-- ---- rows

-- the expression has a value, whose number is v modulo 2 ^ bits
pub record GivesModulo (p : Program) (s : CState) (bits : ℕ) (e : Expr) (v : ℤ) : Type 0 where
  pub kind : CKind
  pub number : ℤ
  pub gives : Gives p s e (Num kind number)
  pub reduced : modulo bits number ≡ modulo bits v

module _ (p : Program) (s : CState) (kind : IntKind) (unsigned_one : is_signed kind ≡ false) (a b : Expr) (x y : ℤ) (given : AreGiven p s kind a b x y) where
  abbrev t : TargetTable
  t = table_of p.target

  abbrev w : ℕ
  w = width kind

  abbrev k : CKind
  k = of_kind kind

  abbrev c : Arith
  c = promoted t (of_kind kind)

  left_in : IsTrue (in_range_of (width kind) false x)
  left_in = range_of_sign kind false unsigned_one x given.left.is_in

  right_in : IsTrue (in_range_of (width kind) false y)
  right_in = range_of_sign kind false unsigned_one y given.right.is_in

  two : 2 ≤ width kind
  two = let l = width_least kind in omega arith

  type_is : IsWideOrSame t w c
  type_is = promoted_unsigned t given.table kind unsigned_one

  x_from : IsTrue (int_le (pos 0) x)
  x_from = from_zero w x left_in

  y_from : IsTrue (int_le (pos 0) y)
  y_from = from_zero w y right_in

  -- an operator on both operands in the type to which the kind is promoted
  usual_gives : (op : CBinary) (f : Operator) → ((v u : CValue) → binary t op v (Ok u) ≡ usual t f v u) → (r : Result ℤ Reason) → f (arith_bits t c) (arith_signed c) x y ≡ r → eval p (Binary op a b) s ≡ computed c r
  usual_gives op f is r e =
      binary_gives p s op a b (Num k x) (Num k y) given.left.gives given.right.gives ∙ is (Num k x) (Num k y)
      ∙ usual_alike t given.table k x y given.left.is_in given.right.is_in f ∙ ap (computed c) e

  reduced_gives : (op : CBinary) (f : Operator) → ((v u : CValue) → binary t op v (Ok u) ≡ usual t f v u) → (v : ℤ) → IsReduced w v (f (arith_bits t c) (arith_signed c) x y) → GivesModulo p s w (Binary op a b) v
  reduced_gives op f is v r = record { kind = Computed c; number = r.number; gives = usual_gives op f is (Ok r.number) r.is; reduced = r.reduced }

  exact_gives : (op : CBinary) (f : Operator) → ((v u : CValue) → binary t op v (Ok u) ≡ usual t f v u) → (v : ℤ) → f (arith_bits t c) (arith_signed c) x y ≡ Ok v → GivesModulo p s w (Binary op a b) v
  exact_gives op f is v e = record { kind = Computed c; number = v; gives = usual_gives op f is (Ok v) e; reduced = refl }

  pub sum_gives : GivesModulo p s w (Binary Add a b) (x +ℤ y)
  sum_gives = reduced_gives Add sum (λ v u. refl) (x +ℤ y) (fitted_reduced t w c (x +ℤ y) type_is (λ few. sum_in_double w x y two left_in right_in))

  pub difference_gives : GivesModulo p s w (Binary Sub a b) (x -ℤ y)
  difference_gives = reduced_gives Sub difference (λ v u. refl) (x -ℤ y) (fitted_reduced t w c (x -ℤ y) type_is (λ few. difference_in_double w x y two left_in right_in))

  -- ---- products

  narrow_product : (double : IntKind) → IsDouble kind double → kind_at (2 * w) false ≡ double → GivesModulo p s w (double_product w false a b) (x *ℤ y)
  narrow_product double d is =
      let h = in_double kind double d false unsigned_one (x *ℤ y) (product_in_double w x y left_in right_in) in
      let u = Num (Computed (promoted t (of_kind double))) (x *ℤ y) in
      record {
        kind = Computed (promoted t (of_kind double));
        number = x *ℤ y;
        gives = subst (λ i. Gives p s (Binary Mul (cast_to i a) (cast_to i b)) u) (sym is) (product_gives p s kind double d a b x y given h);
        reduced = refl;
      }

  wide_product : nat_lt (width kind) 64 ≡ false → GivesModulo p s w (Binary Mul a b) (x *ℤ y)
  wide_product e = reduced_gives Mul product (λ v u. refl) (x *ℤ y) (fitted_reduced t w c (x *ℤ y) type_is (λ few. absurd (grind arith)))

  product_by : (test : Bool) → nat_lt (width kind) 64 ≡ test → GivesModulo p s w (if test then double_product w false a b else Binary Mul a b) (x *ℤ y)
  product_by true e = narrow_product (kind_at (2 * w) (is_signed kind)) (doubled kind e) (ap (kind_at (2 * w)) (sym unsigned_one))
  product_by false e = wide_product e

  pub product_of_gives : GivesModulo p s w (product_of (width kind) false a b) (x *ℤ y)
  product_of_gives = product_by (nat_lt (width kind) 64) refl

  -- ---- quotients

  quotient_is : int_eq y (pos 0) ≡ false → quotient (arith_bits t c) (arith_signed c) x y ≡ Ok (int_div x y)
  quotient_is nonzero =
      ap (λ test. let q : Result ℤ Reason = if test then Err DivZero else fitted (arith_bits t c) (arith_signed c) (int_div x y) in q) nonzero
      ∙ fitted_held (arith_bits t c) (arith_signed c) (int_div x y) (quotient_held (arith_bits t c) (arith_signed c) x y x_from y_from (promotion_keeps t given.table.sound k x given.left.is_in))

  pub quotient_gives : int_eq y (pos 0) ≡ false → GivesModulo p s w (Binary Div a b) (int_div x y)
  quotient_gives nonzero = exact_gives Div quotient (λ v u. refl) (int_div x y) (quotient_is nonzero)

  pub remainder_gives : int_eq y (pos 0) ≡ false → GivesModulo p s w (Binary Rem a b) (x -ℤ int_div x y *ℤ y)
  remainder_gives nonzero =
      exact_gives Rem remainder (λ v u. refl) (x -ℤ int_div x y *ℤ y) (ap (λ r. let q : Result ℤ Reason = on_ok r (λ i. Ok (x -ℤ i *ℤ y)) in q) (quotient_is nonzero))

  -- ---- bits

  bits_give : (op : CBinary) (f : ℕ → ℕ → ℕ) → KeepsBits f → ((v u : CValue) → binary t op v (Ok u) ≡ usual t (bitwise f) v u) → GivesModulo p s w (Binary op a b) (exact.bitwise f x y)
  bits_give op f keeps is =
      let has = has_width t w c type_is (let l = two in omega arith) in
      exact_gives op (bitwise f) is (exact.bitwise f x y) (bitwise_is f keeps w (arith_bits t c) (arith_signed c) x y has.0 has.1 left_in right_in)

  pub and_gives : GivesModulo p s w (Binary And a b) (exact.bitwise bit_and x y)
  and_gives = bits_give And bit_and and_keeps (λ v u. refl)

  pub or_gives : GivesModulo p s w (Binary Or a b) (exact.bitwise bit_or x y)
  or_gives = bits_give Or bit_or or_keeps (λ v u. refl)

  pub xor_gives : GivesModulo p s w (Binary Xor a b) (exact.bitwise bit_xor x y)
  xor_gives = bits_give Xor bit_xor xor_keeps (λ v u. refl)

  -- ---- shifts

  module _ (short : IsTrue (int_lt y (pos (width kind)))) where
    amount : (int_lt y (pos 0) || int_le (pos (arith_bits t c)) y) ≡ false
    amount = amount_is_right w (arith_bits t c) y (has_width t w c type_is (let l = two in omega arith)).0 y_from short

    shift_gives : (op : CBinary) (r : Result ℤ Reason) → binary t op (Num k x) (Ok (Num k y)) ≡ (if int_lt y (pos 0) || int_le (pos (arith_bits t c)) y then Err (Undefined Shift) else computed c r) → eval p (Binary op a b) s ≡ computed c r
    shift_gives op r is =
        binary_gives p s op a b (Num k x) (Num k y) given.left.gives given.right.gives ∙ is
        ∙ ap (λ test. let q : Result CValue Trouble = if test then Err (Undefined Shift) else computed c r in q) amount

    pub left_shift_gives : GivesModulo p s w (Binary Shl a b) (x *ℤ two_to y)
    left_shift_gives =
        let r = fitted_reduced t w c (x *ℤ two_to y) type_is (λ few. shifted_in_double w x y left_in y_from short) in
        record {
          kind = Computed c;
          number = r.number;
          gives = shift_gives Shl (shifted_left (arith_bits t c) (arith_signed c) x y) refl ∙ ap (computed c) (left_is (arith_bits t c) (arith_signed c) x y x_from ∙ r.is);
          reduced = r.reduced;
        }

    pub right_shift_gives : GivesModulo p s w (Binary Shr a b) (int_div_euclid x (two_to y))
    right_shift_gives =
        record {
          kind = Computed c;
          number = int_div_euclid x (two_to y);
          gives = shift_gives Shr (shifted_right (arith_bits t c) (arith_signed c) x y) refl ∙ ap (computed c) (right_is (arith_bits t c) (arith_signed c) x y x_from);
          reduced = refl;
        }

-- ---- the prefix `~`

module _ (p : Program) (s : CState) (kind : IntKind) (unsigned_one : is_signed kind ≡ false) (table : CTable (table_of p.target)) (a : Expr) (x : ℤ) (given : IsGiven p s kind a x) where
  pub flip_gives : GivesModulo p s (width kind) (Unary Flip a) (greatest_of (width kind) false -ℤ x)
  flip_gives =
      let t = table_of p.target in
      let c = promoted t (of_kind kind) in
      let i = range_of_sign kind false unsigned_one x given.is_in in
      let e = flipped_reduced t (width kind) c x (promoted_unsigned t table kind unsigned_one) i in
      record {
        kind = Computed c;
        number = flipped (arith_bits t c) (arith_signed c) x;
        gives = unary_gives p s Flip a (Num (of_kind kind) x) given.gives;
        reduced = e ∙ sym (modulo_of_held (width kind) (greatest_of (width kind) false -ℤ x) (flipped_unsigned (width kind) x i));
      }

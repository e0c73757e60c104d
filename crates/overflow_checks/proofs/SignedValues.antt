-- Expressions whose values have types that are signed once they are promoted, and what operators give on them: numbers stay what
-- they are wherever the type has them.
use Rattle.std.proofs.Common.{◌≡◌, ℕ, ◌-◌, ◌^◌, ◌<◌, ◌≤◌, ℤ, pos, negsuc, ◌+ℤ◌, ◌-ℤ◌, ◌*ℤ◌, neg_ℤ, Bool, true, false, IsTrue, Result, Ok, Err, arith, refl, sym, subst, ap, ◌∙◌}
use Rattle.std.specs.Prelude.{if◌then◌else◌, int_div}
use Rattle.std.specs.Ordering.{int_eq}
use Rattle.std.proofs.lemmas.Int.{ints}
use Rattle.std.proofs.lemmas.Nat.{pow_pos}
use Rattle.iv_words.specs.Kinds.{in_range_of, in_range, width, is_signed}
use Rattle.iv_words.specs.declared.IntKind.{IntKind}
use Rattle.run_records.specs.declared.Reason.{Reason}
use Rattle.run_records.specs.declared.Reason.TheVariants.{DivZero}
use Rattle.c_ast.specs.declared.Arith.{Arith}
use Rattle.c_ast.specs.declared.CKind.{CKind}
use Rattle.c_ast.specs.declared.CKind.TheVariants.{Arith as Computed}
use Rattle.c_ast.specs.declared.Suffix.TheVariants.{Plain}
use Rattle.c_ast.specs.declared.CUnary.TheVariants.{Neg}
use Rattle.c_ast.specs.declared.CBinary.{CBinary}
use Rattle.c_ast.specs.declared.CBinary.TheVariants.{Add, Sub, Mul, Div, Rem}
use Rattle.c_ast.specs.Syntax.{Expr, Unary, Binary}
use Rattle.c_ast.specs.Targets.{TargetTable, table_of, arith_bits, arith_signed, promoted, common_type}
use Rattle.c_ast.specs.Conversions.{can_hold, constant_type_in}
use Rattle.c_meaning.specs.Values.{CValue, Num, on_ok}
use Rattle.c_meaning.specs.Operators.{Operator, fitted, sum, difference, product, quotient, remainder, computed, usual, compared, binary}
use Rattle.c_meaning.specs.State.{Program, CState}
use Rattle.c_ast.proofs.Conversions.{held_stays}
use Rattle.iv_words.proofs.Ranges.{powers_grow}
use Rattle.c_ast.proofs.Promotions.{promotion_keeps, signed_common_keeps}
use Rattle.overflow_checks.specs.Parts.{plain, greatest_constant, least_constant, cast_to}
use Rattle.overflow_checks.proofs.Tables.{CTable, promoted_signed}
use Rattle.overflow_checks.proofs.Given.{Gives, of_kind, binary_gives, unary_gives, cast_gives, constant_gives}
use Rattle.overflow_checks.specs.Contract.{IsGiven}
use Rattle.overflow_checks.proofs.Rows.{Tests, GivesNumber}
use Rattle.overflow_checks.proofs.Alike.{fitted_held, AreSigned, common_is_signed, usual_signed, compared_signed}
use Rattle.overflow_checks.proofs.Constants.{IsTyped, plain_typed}
use Rattle.overflow_checks.proofs.SignedTypes.{has_of_int}
use Rattle.overflow_checks.proofs.SignedNumbers.{negative_held}

-- a type that has the greatest number of so many bits has all numbers of so many bits
has_greatest : (m bits : ℕ) (v : ℤ) → IsTrue (in_range_of m true (pos (2 ^ (bits - 1) - 1))) → IsTrue (in_range_of bits true v) → IsTrue (in_range_of m true v)
has_greatest m bits v g h = let p = pow_pos (bits - 1) in let q = pow_pos (m - 1) in grind (arith, ints)

has_greatest_in : (m bits : ℕ) (signed : Bool) (v : ℤ) → signed ≡ true → IsTrue (in_range_of m signed (pos (2 ^ (bits - 1) - 1))) → IsTrue (in_range_of bits true v) → IsTrue (in_range_of m signed v)
has_greatest_in m bits true v is g h = has_greatest m bits v g h
has_greatest_in m bits false v is g h = cc

opposite_of_greatest : (bits : ℕ) → IsTrue (in_range_of bits true (neg_ℤ (pos (2 ^ (bits - 1) - 1))))
opposite_of_greatest bits = let p = pow_pos (bits - 1) in grind (arith, ints)

least_in_range : (bits : ℕ) → IsTrue (in_range_of bits true (neg_ℤ (pos (2 ^ (bits - 1) - 1)) -ℤ pos 1))
least_in_range bits = let p = pow_pos (bits - 1) in grind (arith, ints)

module _ (p : Program) (s : CState) (table : CTable (table_of p.target)) where
  abbrev t : TargetTable
  t = table_of p.target

  -- The number of the expression is one of its type, which is signed once it is promoted and then has all numbers of so many bits.
  pub record IsSigned (bits : ℕ) (e : Expr) (v : ℤ) : Type 0 where
    pub kind : CKind
    pub gives : Gives p s e (Num kind v)
    pub sign : arith_signed (promoted t kind) ≡ true
    pub has : IsTrue (can_hold t kind v)
    pub all : (w : ℤ) → IsTrue (in_range_of bits true w) → IsTrue (can_hold t (Computed (promoted t kind)) w)

  pub number_is : (bits : ℕ) (e : Expr) (v : ℤ) → IsSigned bits e v → GivesNumber p s e v
  number_is bits e v h = record { kind = h.kind; gives = h.gives }

  -- ---- operands, casts and constants

  of_signed_kind : (kind : IntKind) (e : Expr) (v : ℤ) → is_signed kind ≡ true → Gives p s e (Num (of_kind kind) v) → IsTrue (in_range kind v) → IsSigned (width kind) e v
  of_signed_kind kind e v is gives h = record {
    kind = of_kind kind;
    gives = gives;
    sign = promoted_signed t table kind is;
    has = h;
    all = λ w i. promotion_keeps t table.sound (of_kind kind) w (subst (λ signed. IsTrue (in_range_of (width kind) signed w)) (sym is) i);
  }

  pub given_is : (kind : IntKind) (e : Expr) (v : ℤ) → is_signed kind ≡ true → IsGiven p s kind e v → IsSigned (width kind) e v
  given_is kind e v is given = of_signed_kind kind e v is given.gives given.is_in

  -- as an operand of int, with all the numbers of that
  pub of_int : (bits : ℕ) (e : Expr) (v : ℤ) → IsSigned bits e v → IsSigned t.int_bits e v
  of_int bits e v h = record { kind = h.kind; gives = h.gives; sign = h.sign; has = h.has; all = λ w i. has_of_int t table (promoted t h.kind) w h.sign i }

  pub cast_is : (kind : IntKind) (bits : ℕ) (e : Expr) (v : ℤ) → is_signed kind ≡ true → IsSigned bits e v → IsTrue (in_range kind v) → IsSigned (width kind) (cast_to kind e) v
  cast_is kind bits e v is h i = of_signed_kind kind (cast_to kind e) v is (cast_gives p s kind e h.kind v v h.gives (held_stays (width kind) (is_signed kind) v i)) i

  constant_is : (bits n : ℕ) (typed : IsTyped t table true (pos n) (constant_type_in t Plain n))
      → ((w : ℤ) → IsTrue (in_range_of bits true w) → IsTrue (in_range_of (arith_bits t typed.type) (arith_signed typed.type) w)) → IsSigned bits (plain n) (pos n)
  constant_is bits n typed all = record {
    kind = Computed typed.type;
    gives = constant_gives p s n Plain typed.type typed.found_it;
    sign = typed.sign;
    has = typed.holds;
    all = all;
  }

  pub plain_is : (n : ℕ) → n < 2 ^ 63 → IsSigned t.int_bits (plain n) (pos n)
  plain_is n l = let typed = plain_typed t table n l in constant_is t.int_bits n typed (λ w i. has_of_int t table typed.type w typed.sign i)

  pub greatest_is : (bits : ℕ) → bits ≤ 64 → IsSigned bits (greatest_constant bits true) (pos (2 ^ (bits - 1) - 1))
  greatest_is bits le =
      let n = 2 ^ (bits - 1) - 1 in
      let some = pow_pos (bits - 1) in
      let grows = powers_grow (bits - 1) 63 (omega arith) in
      let typed = plain_typed t table n (omega arith) in
      constant_is bits n typed (λ w i. has_greatest_in (arith_bits t typed.type) bits (arith_signed typed.type) w typed.sign typed.holds i)

  -- ---- operators

  pub opposite_is : (bits : ℕ) (a : Expr) (x : ℤ) → IsSigned bits a x → IsTrue (in_range_of bits true (neg_ℤ x)) → IsSigned bits (Unary Neg a) (neg_ℤ x)
  opposite_is bits a x l h =
      let c = promoted t l.kind in
      let v = neg_ℤ x in
      let i : IsTrue (can_hold t (Computed c) v) = l.all v h in
      record {
        kind = Computed c;
        gives = unary_gives p s Neg a (Num l.kind x) l.gives
            ∙ ap (λ signed. computed c (fitted (arith_bits t c) signed v)) l.sign
            ∙ ap (computed c) (fitted_held (arith_bits t c) true v (subst (λ signed. IsTrue (in_range_of (arith_bits t c) signed v)) l.sign i));
        sign = l.sign;
        has = i;
        all = l.all;
      }

  module _ (m n : ℕ) (a b : Expr) (x y : ℤ) (l : IsSigned m a x) (r : IsSigned n b y) where
    both : AreSigned t table l.kind r.kind x y
    both = record { left_signed = l.sign; right_signed = r.sign; left_has = l.has; right_has = r.has }

    abbrev common : Arith
    common = common_type t l.kind r.kind

    common_sign : arith_signed common ≡ true
    common_sign = common_is_signed t table l.kind r.kind x y both

    pub compares : (op : CBinary) (holds : ℤ → ℤ → Bool) → ((u w : CValue) → binary t op u (Ok w) ≡ compared t holds u w) → Tests p s (Binary op a b) (holds x y)
    compares op holds is =
        binary_gives p s op a b (Num l.kind x) (Num r.kind y) l.gives r.gives
        ∙ is (Num l.kind x) (Num r.kind y)
        ∙ compared_signed t table l.kind r.kind x y both holds

    computes : (op : CBinary) (f : Operator) → ((u w : CValue) → binary t op u (Ok w) ≡ usual t f u w) → (v : ℤ) → f (arith_bits t common) true x y ≡ Ok v → Gives p s (Binary op a b) (Num (Computed common) v)
    computes op f is v e =
        binary_gives p s op a b (Num l.kind x) (Num r.kind y) l.gives r.gives
        ∙ is (Num l.kind x) (Num r.kind y)
        ∙ usual_signed t table l.kind r.kind x y both f
        ∙ ap (λ signed. computed common (f (arith_bits t common) signed x y)) common_sign
        ∙ ap (computed common) e

    in_common : (v : ℤ) → IsTrue (in_range_of m true v) → IsTrue (can_hold t (Computed common) v)
    in_common v h = (signed_common_keeps t table.sound (promoted t l.kind) (promoted t r.kind) v common_sign).0 (l.all v h)

    fitted_there : (v : ℤ) → IsTrue (in_range_of m true v) → fitted (arith_bits t common) true v ≡ Ok v
    fitted_there v h = fitted_held (arith_bits t common) true v (subst (λ signed. IsTrue (in_range_of (arith_bits t common) signed v)) common_sign (in_common v h))

    there : (e : Expr) (v : ℤ) → IsTrue (in_range_of m true v) → Gives p s e (Num (Computed common) v) → IsSigned m e v
    there e v h gives = record { kind = Computed common; gives = gives; sign = common_sign; has = in_common v h; all = in_common }

    pub sum_is : IsTrue (in_range_of m true (x +ℤ y)) → IsSigned m (Binary Add a b) (x +ℤ y)
    sum_is h = there (Binary Add a b) (x +ℤ y) h (computes Add sum (λ u w. refl) (x +ℤ y) (fitted_there (x +ℤ y) h))

    pub difference_is : IsTrue (in_range_of m true (x -ℤ y)) → IsSigned m (Binary Sub a b) (x -ℤ y)
    difference_is h = there (Binary Sub a b) (x -ℤ y) h (computes Sub difference (λ u w. refl) (x -ℤ y) (fitted_there (x -ℤ y) h))

    pub product_is : IsTrue (in_range_of m true (x *ℤ y)) → IsSigned m (Binary Mul a b) (x *ℤ y)
    product_is h = there (Binary Mul a b) (x *ℤ y) h (computes Mul product (λ u w. refl) (x *ℤ y) (fitted_there (x *ℤ y) h))

    -- the divisor is not 0, and the quotient fits
    there_quotient : int_eq y (pos 0) ≡ false → IsTrue (in_range_of m true (int_div x y)) → quotient (arith_bits t common) true x y ≡ Ok (int_div x y)
    there_quotient other h =
        ap (λ test. let q : Result ℤ Reason = if test then Err DivZero else fitted (arith_bits t common) true (int_div x y) in q) other ∙ fitted_there (int_div x y) h

    pub quotient_is : int_eq y (pos 0) ≡ false → IsTrue (in_range_of m true (int_div x y)) → IsSigned m (Binary Div a b) (int_div x y)
    quotient_is other h = there (Binary Div a b) (int_div x y) h (computes Div quotient (λ u w. refl) (int_div x y) (there_quotient other h))

    pub remainder_gives : int_eq y (pos 0) ≡ false → IsTrue (in_range_of m true (int_div x y)) → GivesNumber p s (Binary Rem a b) (x -ℤ int_div x y *ℤ y)
    remainder_gives other h =
        let v = x -ℤ int_div x y *ℤ y in
        record {
          kind = Computed common;
          gives = computes Rem remainder (λ u w. refl) v (ap (λ r. let q : Result ℤ Reason = on_ok r (λ q. Ok (x -ℤ q *ℤ y)) in q) (there_quotient other h));
        }

  -- ---- the ends

  pub second_least_is : (bits : ℕ) → bits ≤ 64 → IsSigned bits (Unary Neg (greatest_constant bits true)) (neg_ℤ (pos (2 ^ (bits - 1) - 1)))
  second_least_is bits le = opposite_is bits (greatest_constant bits true) (pos (2 ^ (bits - 1) - 1)) (greatest_is bits le) (opposite_of_greatest bits)

  pub least_is : (bits : ℕ) → bits ≤ 64 → IsSigned bits (least_constant bits) (neg_ℤ (pos (2 ^ (bits - 1) - 1)) -ℤ pos 1)
  least_is bits le =
      difference_is bits t.int_bits (Unary Neg (greatest_constant bits true)) (plain 1) (neg_ℤ (pos (2 ^ (bits - 1) - 1))) (pos 1) (second_least_is bits le) (plain_is 1 (omega arith)) (least_in_range bits)

  pub minus_one_is : IsSigned t.int_bits (Unary Neg (plain 1)) (negsuc 0)
  minus_one_is = opposite_is t.int_bits (plain 1) (pos 1) (plain_is 1 (omega arith)) (negative_held t.int_bits 0 (pow_pos (t.int_bits - 1)))

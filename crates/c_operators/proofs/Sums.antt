-- The operators on whole numbers of a kind are those of C on its numbers.
use Rattle.std.proofs.Common.{◌≡◌, ℕ, ℤ, pos, ◌^◌, ◌*ℤ◌, ◌-ℤ◌, Bool, true, false, IsTrue, Result, Ok, Err, IfOk, if◌then◌else◌, refl, sym, ◌∙◌, ap, subst, arith}
use Rattle.std.specs.Prelude.{int_div, int_lt, ◌+ℤ◌, neg_ℤ}
use Rattle.std.proofs.lemmas.Int.{ints}
use Rattle.std.specs.Ordering.{int_eq}
use Rattle.iv_words.specs.Bits.{modulo, two_to}
use Rattle.iv_words.specs.Kinds.{in_range_of, in_range, width, is_signed}
use Rattle.iv_words.specs.declared.IntKind.{IntKind}
use Rattle.iv_words.proofs.Modular.{modulo_in_range, modulo_product_left, modulo_difference_right}
use Rattle.int_ops.specs.Operators as exactly
use Rattle.int_ops.specs.declared.Op.TheVariants as op
use Rattle.int_ops.specs.declared.Stop.TheVariants as stop
use Rattle.run_records.specs.declared.Reason.{Reason}
use Rattle.run_records.specs.declared.Reason.TheVariants as reason
use Rattle.c_meaning.specs.Values.{on_ok}
use Rattle.c_meaning.specs.Operators.{fitted, sum, difference, product, quotient, remainder, shifted_left}
use Rattle.c_meaning.proofs.OperatorRanges.{quotient_is}
use Rattle.c_operators.specs.Reasons.{or_reason}

fitted_alike : (x : Bool) (v : ℤ) → or_reason (if x then Ok v else Err stop.Overflow) ≡ (if x then Ok v else Err reason.SignedOverflow)
fitted_alike true v = refl
fitted_alike false v = refl

pub sum_signed : (kind : IntKind) (a b : ℤ) → is_signed kind ≡ true → or_reason (exactly.exact op.Add kind a b) ≡ sum (width kind) (is_signed kind) a b
sum_signed kind a b e =
    let same : ℤ = a +ℤ b in
    subst (λ s. or_reason (exactly.exact_at op.Add (width kind) s a b) ≡ sum (width kind) s a b) (sym e) (fitted_alike (in_range_of (width kind) true same) same)

pub sum_unsigned : (kind : IntKind) (a b : ℤ) → is_signed kind ≡ false → or_reason (exactly.exact op.WrapAdd kind a b) ≡ sum (width kind) (is_signed kind) a b
sum_unsigned kind a b e = subst (λ s. or_reason (exactly.exact_at op.WrapAdd (width kind) s a b) ≡ sum (width kind) s a b) (sym e) refl

pub difference_signed : (kind : IntKind) (a b : ℤ) → is_signed kind ≡ true → or_reason (exactly.exact op.Sub kind a b) ≡ difference (width kind) (is_signed kind) a b
difference_signed kind a b e =
    let same : ℤ = a -ℤ b in
    subst (λ s. or_reason (exactly.exact_at op.Sub (width kind) s a b) ≡ difference (width kind) s a b) (sym e) (fitted_alike (in_range_of (width kind) true same) same)

pub difference_unsigned : (kind : IntKind) (a b : ℤ) → is_signed kind ≡ false → or_reason (exactly.exact op.WrapSub kind a b) ≡ difference (width kind) (is_signed kind) a b
difference_unsigned kind a b e = subst (λ s. or_reason (exactly.exact_at op.WrapSub (width kind) s a b) ≡ difference (width kind) s a b) (sym e) refl

pub product_signed : (kind : IntKind) (a b : ℤ) → is_signed kind ≡ true → or_reason (exactly.exact op.Mul kind a b) ≡ product (width kind) (is_signed kind) a b
product_signed kind a b e =
    let same : ℤ = a *ℤ b in
    subst (λ s. or_reason (exactly.exact_at op.Mul (width kind) s a b) ≡ product (width kind) s a b) (sym e) (fitted_alike (in_range_of (width kind) true same) same)

pub product_unsigned : (kind : IntKind) (a b : ℤ) → is_signed kind ≡ false → or_reason (exactly.exact op.WrapMul kind a b) ≡ product (width kind) (is_signed kind) a b
product_unsigned kind a b e = subst (λ s. or_reason (exactly.exact_at op.WrapMul (width kind) s a b) ≡ product (width kind) s a b) (sym e) refl

-- ---- quotients

module _ (bits : ℕ) (a b : ℤ) where
  -- an unsigned quotient is a number of its type
  within : (signed : Bool) → signed ≡ false → IsTrue (in_range_of bits signed a) → IsTrue (in_range_of bits signed b) → int_eq b (pos 0) ≡ false
      → (modulo bits (int_div a b) ≡ int_div a b) × (in_range_of bits false (int_div a b) ≡ true)
  within signed e h k no_zero =
      let h' : IsTrue (in_range_of bits false a) = subst (λ s. IsTrue (in_range_of bits s a)) e h in
      let k' : IsTrue (in_range_of bits false b) = subst (λ s. IsTrue (in_range_of bits s b)) e k in
      let q : modulo bits (int_div a b) ≡ int_div a b = subst (λ z. IfOk (if z then Err reason.DivZero else fitted bits false (int_div a b)) (λ v. v ≡ int_div a b)) no_zero (quotient_is bits false a b h' k') in
      (q, subst (λ v. in_range_of bits false v ≡ true) q (modulo_in_range bits (int_div a b)))

  quotient_at : (signed zero : Bool) → int_eq b (pos 0) ≡ zero → IsTrue (in_range_of bits signed a) → IsTrue (in_range_of bits signed b)
      → or_reason (if zero then Err stop.DivZero else exactly.fitted bits signed (int_div a b)) ≡ (if zero then Err reason.DivZero else fitted bits signed (int_div a b))
  quotient_at signed true e h k = refl
  quotient_at true false e h k = fitted_alike (in_range_of bits true (int_div a b)) (int_div a b)
  quotient_at false false e h k =
      let w = within false refl h k e in
      ap (λ x. or_reason (if x then Ok (int_div a b) else Err stop.Overflow)) w.1 ∙ ap Ok (sym w.0)

  remainder_alike : (x : Bool) → or_reason (if x then Ok (a -ℤ int_div a b *ℤ b) else Err stop.Overflow) ≡ on_ok (let r : Result ℤ Reason = if x then Ok (int_div a b) else Err reason.SignedOverflow in r) (λ q. Ok (a -ℤ q *ℤ b))
  remainder_alike true = refl
  remainder_alike false = refl

  remainder_at : (signed zero : Bool) → int_eq b (pos 0) ≡ zero → IsTrue (in_range_of bits signed a) → IsTrue (in_range_of bits signed b)
      → or_reason (if zero then Err stop.DivZero else (if in_range_of bits signed (int_div a b) then Ok (a -ℤ int_div a b *ℤ b) else Err stop.Overflow))
      ≡ on_ok (let r : Result ℤ Reason = if zero then Err reason.DivZero else fitted bits signed (int_div a b) in r) (λ q. Ok (a -ℤ q *ℤ b))
  remainder_at signed true e h k = refl
  remainder_at true false e h k = remainder_alike (in_range_of bits true (int_div a b))
  remainder_at false false e h k =
      let w = within false refl h k e in
      ap (λ x. or_reason (if x then Ok (a -ℤ int_div a b *ℤ b) else Err stop.Overflow)) w.1 ∙ ap (λ q. Ok (a -ℤ q *ℤ b)) (sym w.0)

pub quotient_alike : (kind : IntKind) (a b : ℤ) → IsTrue (in_range kind a) → IsTrue (in_range kind b) → or_reason (exactly.exact op.Div kind a b) ≡ quotient (width kind) (is_signed kind) a b
quotient_alike kind a b h k = quotient_at (width kind) a b (is_signed kind) (int_eq b (pos 0)) refl h k

pub remainder_of : (kind : IntKind) (a b : ℤ) → IsTrue (in_range kind a) → IsTrue (in_range kind b) → or_reason (exactly.exact op.Rem kind a b) ≡ remainder (width kind) (is_signed kind) a b
remainder_of kind a b h k = remainder_at (width kind) a b (is_signed kind) (int_eq b (pos 0)) refl h k

-- ---- shifts

pub shift_unsigned : (kind : IntKind) (a : ℤ) (b : ℕ) → is_signed kind ≡ false → int_lt (pos b) (pos (width kind)) ≡ true
    → or_reason (exactly.exact op.Shl kind (modulo (width kind) a) (pos b)) ≡ shifted_left (width kind) (is_signed kind) a (pos b)
shift_unsigned kind a b e few =
    ap (λ x. or_reason (if x then Ok (modulo (width kind) (modulo (width kind) a *ℤ two_to (pos b))) else Err stop.Shift)) few
    ∙ ap Ok (modulo_product_left (width kind) a (two_to (pos b)))
    ∙ ap (λ s. shifted_left (width kind) s a (pos b)) (sym e)

pub shift_signed : (kind : IntKind) (a : ℤ) (b : ℕ) (v : ℤ) → is_signed kind ≡ true → int_lt a (pos 0) ≡ false → v ≡ a *ℤ pos (2 ^ b)
    → fitted (width kind) (is_signed kind) v ≡ shifted_left (width kind) (is_signed kind) a (pos b)
shift_signed kind a b v e some is =
    ap (fitted (width kind) (is_signed kind)) is
    ∙ subst (λ s. fitted (width kind) s (a *ℤ pos (2 ^ b)) ≡ shifted_left (width kind) s a (pos b)) (sym e) (sym (ap (λ x. if x then Err reason.SignedOverflow else fitted (width kind) true (a *ℤ two_to (pos b))) some))

pub negated_unsigned : (kind : IntKind) (v w : ℤ) → is_signed kind ≡ false → w ≡ modulo (width kind) (neg_ℤ (modulo (width kind) v)) → Ok w ≡ fitted (width kind) (is_signed kind) (neg_ℤ v)
negated_unsigned kind v w e is =
    let zero_less : (x : ℤ) → neg_ℤ x ≡ pos 0 -ℤ x = λ x. omega (arith, ints) in
    ap Ok (is ∙ ap (modulo (width kind)) (zero_less (modulo (width kind) v)) ∙ modulo_difference_right (width kind) (pos 0) v ∙ ap (modulo (width kind)) (sym (zero_less v)))
    ∙ ap (λ s. fitted (width kind) s (neg_ℤ v)) (sym e)

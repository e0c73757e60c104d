-- What an operator gives on numbers of a type is a number of the type.
use Rattle.std.proofs.Common.{◌≡◌, ℕ, suc, ◌-◌, ◌*◌, ◌^◌, ◌<◌, ◌≤◌, ℤ, pos, negsuc, ◌+ℤ◌, ◌-ℤ◌, ◌*ℤ◌, Bool, true, false, IsTrue, Result, Ok, Err, IfOk, arith, refl, sym, ap, subst, ◌∙◌}
use Rattle.std.specs.Prelude.{if◌then◌else◌, int_div, int_rem, int_lt, nat_lt, bit_and, bit_or, bit_xor, unsigned_abs}
use Rattle.std.specs.Ordering.{int_eq}
use Rattle.std.proofs.lemmas.Int.{ints, quot-rem}
use Rattle.std.proofs.lemmas.Nat.{pow_pos, mod_below, and_le_l, or_lt, xor_lt, shr_le}
use Rattle.std.proofs.Math.Nat.{mod-le, pow-suc}
use Rattle.iv_words.specs.Kinds.{in_range_of}
use Rattle.run_records.specs.declared.Reason.{Reason}
use Rattle.c_meaning.specs.Values.{on_ok}
use Rattle.c_meaning.specs.Operators.{Operator, fitted, sum, difference, product, quotient, remainder, bits_of, number_of_bits, bitwise, shifted_left, shifted_right, flipped}
use Rattle.iv_words.proofs.Modular.{modulo_in_range, modulo_of_held}

-- the number, where there is one, is one of the type
abbrev pub InRange : ℕ → Bool → Result ℤ Reason → Type 0
InRange bits signed r = IfOk r (λ v. IsTrue (in_range_of bits signed v))

-- an operator that keeps to the type
abbrev pub Stays : Operator → Type 0
Stays f = (bits : ℕ) (signed : Bool) (a b : ℤ) → 1 ≤ bits → IsTrue (in_range_of bits signed a) → IsTrue (in_range_of bits signed b) → InRange bits signed (f bits signed a b)

tested : (bits : ℕ) (signed : Bool) (v : ℤ) (why : Reason) (test : Bool) → in_range_of bits signed v ≡ test → InRange bits signed (if test then Ok v else Err why)
tested bits signed v why true e = e
tested bits signed v why false e = tt

unless : (P : ℤ → Type 0) (why : Reason) (r : Result ℤ Reason) (test : Bool) → IfOk r P → IfOk (if test then Err why else r) P
unless P why r true h = tt
unless P why r false h = h

pub fitted_in_range : (bits : ℕ) (signed : Bool) (v : ℤ) → InRange bits signed (fitted bits signed v)
fitted_in_range bits false v = modulo_in_range bits v
fitted_in_range bits true v = tested bits true v _ (in_range_of bits true v) refl

pub sum_stays : Stays sum
sum_stays bits signed a b some h k = fitted_in_range bits signed _

pub difference_stays : Stays difference
difference_stays bits signed a b some h k = fitted_in_range bits signed _

pub product_stays : Stays product
product_stays bits signed a b some h k = fitted_in_range bits signed _

pub quotient_stays : Stays quotient
quotient_stays bits signed a b some h k = unless _ _ _ (int_eq b (pos 0)) (fitted_in_range bits signed _)

-- ---- remainders

-- the remainder is what the quotient leaves
pub left_over : (a b : ℤ) → int_rem a b ≡ a -ℤ int_div a b *ℤ b
left_over a b = let e : int_div a b *ℤ b +ℤ int_rem a b ≡ a = quot-rem a b in omega (arith, ints)

rem_in_range : (bits : ℕ) (signed : Bool) (a b : ℤ) → IsTrue (in_range_of bits signed a) → IsTrue (in_range_of bits signed (int_rem a b))
rem_in_range bits true (pos a) b h = let p = pow_pos (bits - 1) in let l = mod-le a (unsigned_abs b) in grind (arith, ints)
rem_in_range bits true (negsuc a) b h = let p = pow_pos (bits - 1) in let l = mod-le (suc a) (unsigned_abs b) in grind (arith, ints)
rem_in_range bits false (pos a) b h = let p = pow_pos bits in let l = mod-le a (unsigned_abs b) in grind (arith, ints)
rem_in_range bits false (negsuc a) b h = cc

quotient_in_range : (bits : ℕ) (a b : ℤ) → IsTrue (in_range_of bits false a) → IsTrue (in_range_of bits false b) → IsTrue (in_range_of bits false (int_div a b))
quotient_in_range bits (pos a) (pos b) h k = let p = pow_pos bits in grind (arith, ints)
quotient_in_range bits (pos a) (negsuc b) h k = cc
quotient_in_range bits (negsuc a) b h k = cc

is_itself : (v : ℤ) (why : Reason) (test : Bool) → IfOk (if test then Ok v else Err why) (λ q. q ≡ v)
is_itself v why true = refl
is_itself v why false = tt

fitted_quotient : (bits : ℕ) (signed : Bool) (a b : ℤ) → IsTrue (in_range_of bits signed a) → IsTrue (in_range_of bits signed b) → IfOk (fitted bits signed (int_div a b)) (λ q. q ≡ int_div a b)
fitted_quotient bits false a b h k = modulo_of_held bits (int_div a b) (quotient_in_range bits a b h k)
fitted_quotient bits true a b h k = is_itself (int_div a b) _ (in_range_of bits true (int_div a b))

-- the quotient, where there is one, is that of the numbers
pub quotient_is : (bits : ℕ) (signed : Bool) (a b : ℤ) → IsTrue (in_range_of bits signed a) → IsTrue (in_range_of bits signed b) → IfOk (quotient bits signed a b) (λ q. q ≡ int_div a b)
quotient_is bits signed a b h k = unless (λ q. q ≡ int_div a b) _ _ (int_eq b (pos 0)) (fitted_quotient bits signed a b h k)

remainder_of : (bits : ℕ) (signed : Bool) (a b : ℤ) (q : Result ℤ Reason) → IsTrue (in_range_of bits signed a) → IfOk q (λ v. v ≡ int_div a b)
    → InRange bits signed (on_ok q (λ v. Ok (a -ℤ v *ℤ b)))
remainder_of bits signed a b (Ok v) h e = subst (λ v. IsTrue (in_range_of bits signed (a -ℤ v *ℤ b))) (sym e) (subst (λ v. IsTrue (in_range_of bits signed v)) (left_over a b) (rem_in_range bits signed a b h))
remainder_of bits signed a b (Err why) h e = tt

pub remainder_stays : Stays remainder
remainder_stays bits signed a b some h k = remainder_of bits signed a b (quotient bits signed a b) h (quotient_is bits signed a b h k)

-- ---- bits

bits_below : (bits : ℕ) (v : ℤ) → bits_of bits v < 2 ^ bits
bits_below bits (pos n) = mod_below n (2 ^ bits) (pow_pos bits)
bits_below bits (negsuc n) = let p = pow_pos bits in omega arith

signed_bits : (bits n : ℕ) → 1 ≤ bits → n < 2 ^ bits → (test : Bool) → nat_lt n (2 ^ (bits - 1)) ≡ test → IsTrue (in_range_of bits true (if test then pos n else pos n -ℤ pos (2 ^ bits)))
signed_bits bits n some l true e = let p = pow_pos (bits - 1) in grind (arith, ints)
signed_bits bits n some l false e =
    let p = pow_pos (bits - 1) in let twice : 2 ^ bits ≡ 2 ^ (bits - 1) * 2 = ap (λ k. 2 ^ k) (omega arith) ∙ pow-suc 2 (bits - 1) in grind (arith, ints)

number_of_bits_in_range : (bits : ℕ) (signed : Bool) (n : ℕ) → 1 ≤ bits → n < 2 ^ bits → IsTrue (in_range_of bits signed (number_of_bits bits signed n))
number_of_bits_in_range bits false n some l = let p = pow_pos bits in grind (arith, ints)
number_of_bits_in_range bits true n some l = signed_bits bits n some l (nat_lt n (2 ^ (bits - 1))) refl

pub and_stays : Stays (bitwise bit_and)
and_stays bits signed a b some h k =
    let l = bits_below bits a in let m = and_le_l (bits_of bits a) (bits_of bits b) in
    number_of_bits_in_range bits signed (bit_and (bits_of bits a) (bits_of bits b)) some (omega (arith, l, m))

pub or_stays : Stays (bitwise bit_or)
or_stays bits signed a b some h k =
    number_of_bits_in_range bits signed (bit_or (bits_of bits a) (bits_of bits b)) some (or_lt bits (bits_of bits a) (bits_of bits b) (bits_below bits a) (bits_below bits b))

pub xor_stays : Stays (bitwise bit_xor)
xor_stays bits signed a b some h k =
    number_of_bits_in_range bits signed (bit_xor (bits_of bits a) (bits_of bits b)) some (xor_lt bits (bits_of bits a) (bits_of bits b) (bits_below bits a) (bits_below bits b))

pub flipped_in_range : (bits : ℕ) (signed : Bool) (v : ℤ) → IsTrue (in_range_of bits signed v) → IsTrue (in_range_of bits signed (flipped bits signed v))
flipped_in_range bits false v h = let p = pow_pos bits in grind (arith, ints)
flipped_in_range bits true v h = let p = pow_pos (bits - 1) in grind (arith, ints)

-- ---- shifts, whose amount may have another type

pub shifted_left_in_range : (bits : ℕ) (signed : Bool) (a b : ℤ) → InRange bits signed (shifted_left bits signed a b)
shifted_left_in_range bits false a b = fitted_in_range bits false _
shifted_left_in_range bits true a b = unless _ _ _ (int_lt a (pos 0)) (fitted_in_range bits true _)

pub shifted_right_in_range : (bits : ℕ) (signed : Bool) (a b : ℤ) → IsTrue (in_range_of bits signed a) → InRange bits signed (shifted_right bits signed a b)
shifted_right_in_range bits true (pos a) b h = let p = pow_pos (bits - 1) in let l = shr_le a (unsigned_abs b) in grind (arith, ints)
shifted_right_in_range bits false (pos a) b h = let p = pow_pos bits in let l = shr_le a (unsigned_abs b) in grind (arith, ints)
shifted_right_in_range bits signed (negsuc a) b h = tt

-- Numbers of an unsigned kind: where their sums, differences and products lie, and what the guards' tests say of them.
use Rattle.std.proofs.Common.{◌≡◌, ℕ, zero, suc, ◌-◌, ◌+◌, ◌*◌, ◌/◌, ◌%◌, ◌^◌, ◌<◌, ◌≤◌, ◌⊎◌, inl, inr, ℤ, pos, negsuc, ◌+ℤ◌, ◌-ℤ◌, ◌*ℤ◌, Bool, true, false, IsTrue, arith, refl, sym, ap, ◌∙◌}
use Rattle.std.specs.Prelude.{◌||◌, int_le, int_lt, int_div}
use Rattle.std.specs.Ordering.{int_eq}
use Rattle.std.proofs.lemmas.Int.{ints}
use Rattle.std.proofs.lemmas.Nat.{pow_pos, pow-add, mod-mul-add}
use Rattle.std.proofs.lemmas.Bool.{cases_lt}
use Rattle.std.proofs.lemmas.Bool.Decides.{Decides-int_eq}
use Rattle.std.proofs.Math.Nat.{mod-eq_of_lt, mul-le-mul_left, mul-le-mul_right, pow-suc, le-div_iff_mul-le, div-le_self}
use Rattle.iv_words.specs.Kinds.{in_range_of}
use Rattle.iv_words.specs.Bits.{modulo, two_to}
use Rattle.iv_words.proofs.Ranges.{powers_grow}

-- two tests that follow from each other
pub same_test : (a b : Bool) → (IsTrue a → IsTrue b) → (IsTrue b → IsTrue a) → a ≡ b
same_test true b f g = sym (f refl)
same_test false true f g = g refl
same_test false false f g = refl

pub below : (bits n : ℕ) → IsTrue (in_range_of bits false (pos n)) → n < 2 ^ bits
below bits n h = let p = pow_pos bits in grind (arith, ints)

pub natural : (bits n : ℕ) → n < 2 ^ bits → IsTrue (in_range_of bits false (pos n))
natural bits n h = let p = pow_pos bits in grind (arith, ints)

zero_le : (n : ℕ) → IsTrue (int_le (pos 0) (pos n))
zero_le n = grind (arith, ints)

pub from_zero : (bits : ℕ) (v : ℤ) → IsTrue (in_range_of bits false v) → IsTrue (int_le (pos 0) v)
from_zero bits (pos n) h = zero_le n
from_zero bits (negsuc n) h = cc

-- ---- twice as many bits

doubled : (bits : ℕ) → 2 ≤ bits → 2 * 2 ^ bits ≤ 2 ^ (2 * bits - 1)
doubled bits two =
    let grows = powers_grow (suc bits) (2 * bits - 1) (omega arith) in
    let twice : 2 ^ suc bits ≡ 2 ^ bits * 2 = pow-suc 2 bits in omega (arith, grows, twice)

pub sum_in_double : (bits : ℕ) (x y : ℤ) → 2 ≤ bits → IsTrue (in_range_of bits false x) → IsTrue (in_range_of bits false y) → IsTrue (in_range_of (2 * bits) true (x +ℤ y))
sum_in_double bits (pos m) (pos n) two h k = let p = doubled bits two in let a = below bits m h in let b = below bits n k in grind (arith, ints)
sum_in_double bits (pos m) (negsuc n) two h k = cc
sum_in_double bits (negsuc m) y two h k = cc

pub difference_in_double : (bits : ℕ) (x y : ℤ) → 2 ≤ bits → IsTrue (in_range_of bits false x) → IsTrue (in_range_of bits false y) → IsTrue (in_range_of (2 * bits) true (x -ℤ y))
difference_in_double bits (pos m) (pos n) two h k = let p = doubled bits two in let a = below bits m h in let b = below bits n k in grind (arith, ints)
difference_in_double bits (pos m) (negsuc n) two h k = cc
difference_in_double bits (negsuc m) y two h k = cc

product_below : (a b m n : ℕ) → m < a → n < b → m * n < a * b
product_below a b m n h k =
    let p : m * n ≤ m * b = mul-le-mul_left m (omega arith) in
    let q : suc m * b ≤ a * b = mul-le-mul_right b (omega arith) in
    let r : suc m * b ≡ m * b + b = omega arith in omega arith

pub product_in_double : (bits : ℕ) (x y : ℤ) → IsTrue (in_range_of bits false x) → IsTrue (in_range_of bits false y) → IsTrue (in_range_of (2 * bits) false (x *ℤ y))
product_in_double bits (pos m) (pos n) h k =
    let e : 2 ^ (2 * bits) ≡ 2 ^ bits * 2 ^ bits = ap (λ k. 2 ^ k) (omega arith) ∙ pow-add 2 bits bits in
    let l = product_below (2 ^ bits) (2 ^ bits) m n (below bits m h) (below bits n k) in natural (2 * bits) (m * n) (omega (arith, l, e))
product_in_double bits (pos m) (negsuc n) h k = cc
product_in_double bits (negsuc m) y h k = cc

signed_natural : (bits n : ℕ) → n < 2 ^ (bits - 1) → IsTrue (in_range_of bits true (pos n))
signed_natural bits n l = grind (arith, ints)

-- a number that was moved to the left by less than the width
pub shifted_in_double : (bits : ℕ) (x y : ℤ) → IsTrue (in_range_of bits false x) → IsTrue (int_le (pos 0) y) → IsTrue (int_lt y (pos bits)) → IsTrue (in_range_of (2 * bits) true (x *ℤ two_to y))
shifted_in_double bits (pos m) (pos n) h k l =
    let few : n < bits = grind (arith, ints) in
    let e : 2 ^ (2 * bits - 1) ≡ 2 ^ bits * 2 ^ (bits - 1) = ap (λ k. 2 ^ k) (omega arith) ∙ pow-add 2 bits (bits - 1) in
    let grows = powers_grow n (bits - 1) (omega arith) in
    let q : m * 2 ^ n ≤ m * 2 ^ (bits - 1) = mul-le-mul_left m grows in
    let less = below bits m h in
    let some = pow_pos (bits - 1) in
    let r : suc m * 2 ^ (bits - 1) ≤ 2 ^ bits * 2 ^ (bits - 1) = mul-le-mul_right (2 ^ (bits - 1)) (omega arith) in
    let s : suc m * 2 ^ (bits - 1) ≡ m * 2 ^ (bits - 1) + 2 ^ (bits - 1) = omega arith in
    signed_natural (2 * bits) (m * 2 ^ n) (omega (arith, e, q, less, some, r, s))
shifted_in_double bits (pos m) (negsuc n) h k l = cc
shifted_in_double bits (negsuc m) y h k l = cc

-- ---- what the tests say

once_over : (n m : ℕ) → m ≤ n → n < 2 * m → n % m ≡ n - m
once_over n m le l = let e : n ≡ 1 * m + (n - m) = omega arith in ap (λ k. k % m) e ∙ mod-mul-add 1 m (n - m) (omega arith)

-- a sum of two numbers below 2 ^ bits is no less than the first, modulo 2 ^ bits, exactly where it is below too
wrapped_sum : (m n q : ℕ) → m < q → n < q → (m + n < q) ⊎ (q ≤ m + n) → ((m ≤ (m + n) % q) → m + n < q) × (m + n < q → (m + n) % q ≡ m + n)
wrapped_sum m n q h k (inl l) = (λ e. l, λ e. mod-eq_of_lt l)
wrapped_sum m n q h k (inr g) = let e = once_over (m + n) q g (omega arith) in (λ le. absurd (omega (arith, le, e)), λ l. absurd (omega arith))

pub sum_test : (bits : ℕ) (x y : ℤ) → IsTrue (in_range_of bits false x) → IsTrue (in_range_of bits false y) → int_le x (modulo bits (x +ℤ y)) ≡ in_range_of bits false (x +ℤ y)
sum_test bits (pos m) (pos n) h k =
    let both = wrapped_sum m n (2 ^ bits) (below bits m h) (below bits n k) (cases_lt (m + n) (2 ^ bits)) in
    same_test (int_le (pos m) (pos ((m + n) % 2 ^ bits))) (in_range_of bits false (pos (m + n)))
    (λ le. natural bits (m + n) (both.0 (grind (arith, ints))))
    (λ i. let e = both.1 (below bits (m + n) i) in grind (arith, ints))
sum_test bits (pos m) (negsuc n) h k = cc
sum_test bits (negsuc m) y h k = cc

pub difference_test : (bits : ℕ) (x y : ℤ) → IsTrue (in_range_of bits false x) → IsTrue (in_range_of bits false y) → int_le y x ≡ in_range_of bits false (x -ℤ y)
difference_test bits (pos m) (pos n) h k =
    let a = below bits m h in
    same_test (int_le (pos n) (pos m)) (in_range_of bits false (pos m -ℤ pos n)) (λ le. grind (arith, ints)) (λ i. grind (arith, ints))
difference_test bits (pos m) (negsuc n) h k = cc
difference_test bits (negsuc m) y h k = cc

-- a number from 0 is in range exactly where it is at most the greatest
pub most_test : (bits : ℕ) (v : ℤ) → IsTrue (int_le (pos 0) v) → int_le v (pos (2 ^ bits - 1)) ≡ in_range_of bits false v
most_test bits v from = let p = pow_pos bits in same_test (int_le v (pos (2 ^ bits - 1))) (in_range_of bits false v) (λ le. grind (arith, ints)) (λ i. grind (arith, ints))

not_zero : (n : ℕ) → int_eq (pos (suc n)) (pos 0) ≡ false
not_zero n = let d = Decides-int_eq (pos (suc n)) (pos 0) in grind arith

-- a product with a number other than 0 is at most the greatest exactly where the other is at most their quotient
divided : (most m n : ℕ) → (int_eq (pos n) (pos 0) || int_le (pos m) (int_div (pos most) (pos n))) ≡ int_le (pos (m * n)) (pos most)
divided most m zero = let e : m * zero ≡ 0 = omega arith in same_test true (int_le (pos (m * zero)) (pos most)) (λ t. grind (arith, ints)) (λ t. refl)
divided most m (suc n) =
    let iff = le-div_iff_mul-le {k = suc n} {x = m} {y = most} (omega arith) in
    ap (λ test. test || int_le (pos m) (pos (most / suc n))) (not_zero n)
    ∙ same_test (int_le (pos m) (pos (most / suc n))) (int_le (pos (m * suc n)) (pos most))
    (λ le. let q = iff.0 (grind (arith, ints)) in grind (arith, ints))
    (λ le. let q = iff.1 (grind (arith, ints)) in grind (arith, ints))

pub product_test : (bits : ℕ) (x y : ℤ) → IsTrue (in_range_of bits false x) → IsTrue (in_range_of bits false y)
    → (int_eq y (pos 0) || int_le x (int_div (pos (2 ^ bits - 1)) y)) ≡ in_range_of bits false (x *ℤ y)
product_test bits (pos m) (pos n) h k = divided (2 ^ bits - 1) m n ∙ most_test bits (pos (m * n)) (zero_le (m * n))
product_test bits (pos m) (negsuc n) h k = cc
product_test bits (negsuc m) y h k = cc

-- ---- quotients

-- a quotient of two numbers from 0 is in each range that has the dividend
pub quotient_held : (bits : ℕ) (signed : Bool) (x y : ℤ) → IsTrue (int_le (pos 0) x) → IsTrue (int_le (pos 0) y) → IsTrue (in_range_of bits signed x) → IsTrue (in_range_of bits signed (int_div x y))
quotient_held bits true (pos m) (pos n) a b h = let p = pow_pos (bits - 1) in let l = div-le_self m n in grind (arith, ints)
quotient_held bits false (pos m) (pos n) a b h = let l = div-le_self m n in natural bits (m / n) (let k = below bits m h in omega arith)
quotient_held bits signed (pos m) (negsuc n) a b h = cc
quotient_held bits signed (negsuc m) y a b h = cc

pub quotient_from_zero : (x y : ℤ) → IsTrue (int_le (pos 0) x) → IsTrue (int_le (pos 0) y) → IsTrue (int_le (pos 0) (int_div x y))
quotient_from_zero (pos m) (pos n) a b = zero_le (m / n)
quotient_from_zero (pos m) (negsuc n) a b = cc
quotient_from_zero (negsuc m) y a b = cc

-- Numbers of the signed kinds: where their sums, differences and products lie, and what the guards' tests say of them.
use Rattle.std.proofs.Common.{◌≡◌, ℕ, zero, suc, ◌-◌, ◌+◌, ◌*◌, ◌/◌, ◌^◌, ◌<◌, ◌≤◌, ℤ, pos, negsuc, ◌+ℤ◌, ◌-ℤ◌, ◌*ℤ◌, neg_ℤ, true, false, not, IsTrue, arith, sym, subst, ap, ◌∙◌}
use Rattle.std.specs.Prelude.{◌||◌, int_le, int_div}
use Rattle.std.specs.Ordering.{int_eq}
use Rattle.std.proofs.lemmas.Int.{ints}
use Rattle.std.proofs.lemmas.Bool.Decides.{Decides-int_eq}
use Rattle.std.proofs.lemmas.Nat.{pow_pos, pow-add}
use Rattle.std.proofs.Math.Nat.{mul-le-mul_left, mul-le-mul_right, pow-suc, div-le_self, div-add-mod', div-one}
use Rattle.iv_words.specs.Kinds.{in_range_of, least_of, greatest_of}
use Rattle.iv_words.proofs.Ranges.{powers_grow}
use Rattle.overflow_checks.proofs.Numbers.{same_test}

pub from_zero : (n : ℕ) → IsTrue (int_le (pos 0) (pos n))
from_zero n = grind (arith, ints)

-- ---- the ends

pub least_number : (bits : ℕ) → neg_ℤ (pos (2 ^ (bits - 1) - 1)) -ℤ pos 1 ≡ least_of bits true
least_number bits = let p = pow_pos (bits - 1) in omega (arith, ints)

pub greatest_number : (bits : ℕ) → pos (2 ^ (bits - 1) - 1) ≡ greatest_of bits true
greatest_number bits = let p = pow_pos (bits - 1) in omega (arith, ints)

-- ---- where sums, differences and products are

twice : (m n : ℕ) → m < n → 1 ≤ m → 2 ^ (m - 1) * 2 ≤ 2 ^ (n - 1)
twice m n l some =
    let e : 2 ^ m ≡ 2 ^ (m - 1) * 2 = ap (λ k. 2 ^ k) (omega arith) ∙ pow-suc 2 (m - 1) in
    let g = powers_grow m (n - 1) (omega arith) in omega (arith, e, g)

-- numbers between the ends, by their distance from 0
pub natural_below : (bits n : ℕ) → IsTrue (in_range_of bits true (pos n)) → n < 2 ^ (bits - 1)
natural_below bits n h = let p = pow_pos (bits - 1) in grind (arith, ints)

pub negative_below : (bits n : ℕ) → IsTrue (in_range_of bits true (negsuc n)) → n < 2 ^ (bits - 1)
negative_below bits n h = let p = pow_pos (bits - 1) in grind (arith, ints)

pub natural_held : (bits n : ℕ) → n < 2 ^ (bits - 1) → IsTrue (in_range_of bits true (pos n))
natural_held bits n h = let p = pow_pos (bits - 1) in grind (arith, ints)

pub negative_held : (bits n : ℕ) → n < 2 ^ (bits - 1) → IsTrue (in_range_of bits true (negsuc n))
negative_held bits n h = let p = pow_pos (bits - 1) in grind (arith, ints)

pub opposite_held : (bits n : ℕ) → n ≤ 2 ^ (bits - 1) → IsTrue (in_range_of bits true (neg_ℤ (pos n)))
opposite_held bits n h = let p = pow_pos (bits - 1) in grind (arith, ints)

-- the sum of a number from 0 and of one below 0
pub mixed_sum_held : (bits a b : ℕ) → a < 2 ^ (bits - 1) → b < 2 ^ (bits - 1) → IsTrue (in_range_of bits true (pos a +ℤ negsuc b))
mixed_sum_held bits a b l m = let p = pow_pos (bits - 1) in grind (arith, ints)

pub sum_in_wider : (m n : ℕ) (x y : ℤ) → m < n → 1 ≤ m → IsTrue (in_range_of m true x) → IsTrue (in_range_of m true y) → IsTrue (in_range_of n true (x +ℤ y))
sum_in_wider m n (pos a) (pos b) l some h k = let p = twice m n l some in let c = natural_below m a h in let d = natural_below m b k in natural_held n (a + b) (omega arith)
sum_in_wider m n (pos a) (negsuc b) l some h k = let p = twice m n l some in let c = natural_below m a h in let d = negative_below m b k in mixed_sum_held n a b (omega arith) (omega arith)
sum_in_wider m n (negsuc a) (pos b) l some h k =
    let p = twice m n l some in let c = negative_below m a h in let d = natural_below m b k in
    let e : negsuc a +ℤ pos b ≡ pos b +ℤ negsuc a = omega (arith, ints) in
    subst (λ v. IsTrue (in_range_of n true v)) (sym e) (mixed_sum_held n b a (omega arith) (omega arith))
sum_in_wider m n (negsuc a) (negsuc b) l some h k = let p = twice m n l some in let c = negative_below m a h in let d = negative_below m b k in negative_held n (suc (a + b)) (omega arith)

pub difference_in_wider : (m n : ℕ) (x y : ℤ) → m < n → 1 ≤ m → IsTrue (in_range_of m true x) → IsTrue (in_range_of m true y) → IsTrue (in_range_of n true (x -ℤ y))
difference_in_wider m n (pos a) (pos zero) l some h k =
    let p = twice m n l some in let c = natural_below m a h in
    let e : pos a -ℤ pos zero ≡ pos a = omega (arith, ints) in
    subst (λ v. IsTrue (in_range_of n true v)) (sym e) (natural_held n a (omega arith))
difference_in_wider m n (pos a) (pos (suc b)) l some h k =
    let p = twice m n l some in let c = natural_below m a h in let d = natural_below m (suc b) k in mixed_sum_held n a b (omega arith) (omega arith)
difference_in_wider m n (pos a) (negsuc b) l some h k = let p = twice m n l some in let c = natural_below m a h in let d = negative_below m b k in natural_held n (a + suc b) (omega arith)
difference_in_wider m n (negsuc a) (pos b) l some h k =
    let p = twice m n l some in let c = negative_below m a h in let d = natural_below m b k in
    let e : negsuc a -ℤ pos b ≡ negsuc (a + b) = omega (arith, ints) in
    subst (λ v. IsTrue (in_range_of n true v)) (sym e) (negative_held n (a + b) (omega arith))
difference_in_wider m n (negsuc a) (negsuc b) l some h k =
    let p = twice m n l some in let c = negative_below m a h in let d = negative_below m b k in
    let e : negsuc a -ℤ negsuc b ≡ pos (suc b) +ℤ negsuc a = omega (arith, ints) in
    subst (λ v. IsTrue (in_range_of n true v)) (sym e) (mixed_sum_held n (suc b) a (omega arith) (omega arith))

-- the square of the greatest distance
squared : (bits : ℕ) → 1 ≤ bits → 2 ^ (bits - 1) * 2 ^ (bits - 1) * 2 ≡ 2 ^ (2 * bits - 1)
squared bits some =
    let e : 2 ^ ((bits - 1) + (bits - 1)) ≡ 2 ^ (bits - 1) * 2 ^ (bits - 1) = pow-add 2 (bits - 1) (bits - 1) in
    let f : 2 ^ suc ((bits - 1) + (bits - 1)) ≡ 2 ^ ((bits - 1) + (bits - 1)) * 2 = pow-suc 2 ((bits - 1) + (bits - 1)) in
    ap (λ k. k * 2) (sym e) ∙ sym f ∙ ap (λ k. 2 ^ k) (omega arith)

products : (a b m : ℕ) → a ≤ m → b ≤ m → a * b ≤ m * m
products a b m l k = let p : a * b ≤ a * m = mul-le-mul_left a k in let q : a * m ≤ m * m = mul-le-mul_right m l in omega (arith, p, q)

pub product_in_double : (bits : ℕ) (x y : ℤ) → 1 ≤ bits → IsTrue (in_range_of bits true x) → IsTrue (in_range_of bits true y) → IsTrue (in_range_of (2 * bits) true (x *ℤ y))
product_in_double bits (pos a) (pos b) some h k =
    let m = 2 ^ (bits - 1) in let one : 1 ≤ m * m = products 1 1 m (pow_pos (bits - 1)) (pow_pos (bits - 1)) in
    let q = products a b m (let l = natural_below bits a h in omega arith) (let l = natural_below bits b k in omega arith) in
    let e = squared bits some in natural_held (2 * bits) (a * b) (omega (arith, one, q, e))
product_in_double bits (pos a) (negsuc b) some h k =
    let m = 2 ^ (bits - 1) in
    let q = products a (suc b) m (let l = natural_below bits a h in omega arith) (negative_below bits b k) in
    let e = squared bits some in
    let v : pos a *ℤ negsuc b ≡ neg_ℤ (pos (a * suc b)) = omega (arith, ints) in
    subst (λ v. IsTrue (in_range_of (2 * bits) true v)) (sym v) (opposite_held (2 * bits) (a * suc b) (omega (arith, q, e)))
product_in_double bits (negsuc a) (pos b) some h k =
    let m = 2 ^ (bits - 1) in
    let q = products (suc a) b m (negative_below bits a h) (let l = natural_below bits b k in omega arith) in
    let e = squared bits some in
    let v : negsuc a *ℤ pos b ≡ neg_ℤ (pos (suc a * b)) = omega (arith, ints) in
    subst (λ v. IsTrue (in_range_of (2 * bits) true v)) (sym v) (opposite_held (2 * bits) (suc a * b) (omega (arith, q, e)))
product_in_double bits (negsuc a) (negsuc b) some h k =
    let m = 2 ^ (bits - 1) in let one : 1 ≤ m * m = products 1 1 m (pow_pos (bits - 1)) (pow_pos (bits - 1)) in
    let q = products (suc a) (suc b) m (negative_below bits a h) (negative_below bits b k) in
    let e = squared bits some in natural_held (2 * bits) (suc a * suc b) (omega (arith, one, q, e))

-- ---- opposites

pub opposite_test : (bits : ℕ) (x : ℤ) → IsTrue (in_range_of bits true x) → int_le (neg_ℤ (pos (2 ^ (bits - 1) - 1))) x ≡ in_range_of bits true (neg_ℤ x)
opposite_test bits x h =
    let p = pow_pos (bits - 1) in
    same_test (int_le (neg_ℤ (pos (2 ^ (bits - 1) - 1))) x) (in_range_of bits true (neg_ℤ x)) (λ le. grind (arith, ints)) (λ i. grind (arith, ints))

-- ---- quotients

-- toward zero, by 2 at least
halved : (n d : ℕ) → 1 ≤ n → n / suc (suc d) < n
halved n d some = let q = n / suc (suc d) in let e = div-add-mod' n (suc (suc d)) in let f : q * suc (suc d) ≡ q * d + q * 2 = omega arith in omega (arith, e, f)

by_minus_one : (x : ℤ) → int_div x (negsuc 0) ≡ neg_ℤ x
by_minus_one (pos a) = ap (λ n. neg_ℤ (pos n)) (div-one a)
by_minus_one (negsuc a) = ap pos (div-one (suc a))

not_minus_one : (b : ℕ) → not (int_eq (negsuc (suc b)) (negsuc zero)) ≡ true
not_minus_one b = let d = Decides-int_eq (negsuc (suc b)) (negsuc zero) in grind (arith, ints)

-- only the opposite of the least number is a quotient that does not fit
pub quotient_test : (bits : ℕ) (x y : ℤ) → int_eq y (pos 0) ≡ false → IsTrue (in_range_of bits true x) → (not (int_eq y (negsuc 0)) || in_range_of bits true (neg_ℤ x)) ≡ in_range_of bits true (int_div x y)
quotient_test bits (pos a) (pos b) other h = let l = div-le_self a b in let m = natural_below bits a h in sym (natural_held bits (a / b) (omega arith))
quotient_test bits (negsuc a) (pos b) other h = let l = div-le_self (suc a) b in let m = negative_below bits a h in sym (opposite_held bits (suc a / b) (omega arith))
quotient_test bits x (negsuc zero) other h = ap (in_range_of bits true) (sym (by_minus_one x))
quotient_test bits (pos a) (negsuc (suc b)) other h =
    let l = div-le_self a (suc (suc b)) in let m = natural_below bits a h in
    ap (λ test. test || in_range_of bits true (neg_ℤ (pos a))) (not_minus_one b) ∙ sym (opposite_held bits (a / suc (suc b)) (omega arith))
quotient_test bits (negsuc a) (negsuc (suc b)) other h =
    let l = halved (suc a) b (omega arith) in let m = negative_below bits a h in
    ap (λ test. test || in_range_of bits true (neg_ℤ (negsuc a))) (not_minus_one b) ∙ sym (natural_held bits (suc a / suc (suc b)) (omega arith))

-- Products of two numbers of a signed kind by their distances from 0: how far a product may be from 0 to fit.
use Rattle.std.proofs.Common.{◌≡◌, ℕ, zero, suc, ◌-◌, ◌+◌, ◌*◌, ◌/◌, ◌%◌, ◌^◌, ◌<◌, ◌≤◌, ℤ, pos, negsuc, ◌-ℤ◌, ◌*ℤ◌, neg_ℤ, Bool, true, false, IsTrue, arith, refl, sym, ap, ◌∙◌}
use Rattle.std.specs.Prelude.{◌||◌, ◌&&◌, int_le, int_lt, unsigned_abs}
use Rattle.std.specs.Int.{bit_at}
use Rattle.std.specs.Ordering.{int_eq}
use Rattle.std.proofs.lemmas.Int.{ints}
use Rattle.std.proofs.lemmas.Bool.Decides.{Decides-int_eq}
use Rattle.std.proofs.lemmas.Nat.{pow_pos}
use Rattle.std.proofs.Math.Nat.{mod-eq_of_lt, div-lt_iff_lt-mul}
use Rattle.iv_words.specs.Kinds.{in_range_of}
use Rattle.iv_words.proofs.Modular.{modulo_of_held}
use Rattle.iv_words.specs.Bits.{modulo}
use Rattle.overflow_checks.proofs.Numbers.{same_test, natural}
use Rattle.overflow_checks.proofs.SignedNumbers.{natural_below, negative_below, natural_held}
use Rattle.overflow_checks.proofs.SignedBits.{top, double_top, natural_low, negative_high}

-- ---- distances from 0

pub distance_below : (bits : ℕ) (x : ℤ) → 1 ≤ bits → IsTrue (in_range_of bits true x) → unsigned_abs x < 2 ^ bits
distance_below bits (pos n) some h = let l = natural_below bits n h in let e = double_top bits some in omega (arith, l, e)
distance_below bits (negsuc n) some h = let p = pow_pos (bits - 1) in let l = negative_below bits n h in let e = double_top bits some in omega (arith, p, l, e)

-- of a number below 0, and of one from 0, modulo 2 ^ bits
pub opposite_distance : (bits : ℕ) (x : ℤ) → 1 ≤ bits → IsTrue (in_range_of bits true x) → int_lt x (pos 0) ≡ true → modulo bits (pos 0 -ℤ x) ≡ pos (unsigned_abs x)
opposite_distance bits (pos n) some h e = absurd (grind (arith, ints))
opposite_distance bits (negsuc n) some h e =
    let v : pos 0 -ℤ negsuc n ≡ pos (suc n) = omega (arith, ints) in
    ap (modulo bits) v ∙ modulo_of_held bits (pos (suc n)) (natural bits (suc n) (distance_below bits (negsuc n) some h))

pub same_distance : (bits : ℕ) (x : ℤ) → 1 ≤ bits → IsTrue (in_range_of bits true x) → int_lt x (pos 0) ≡ false → modulo bits x ≡ pos (unsigned_abs x)
same_distance bits (pos n) some h e = modulo_of_held bits (pos n) (natural bits n (distance_below bits (pos n) some h))
same_distance bits (negsuc n) some h e = absurd (grind (arith, ints))

not_zero : (n : ℕ) → int_eq (pos (suc n)) (pos 0) ≡ false
not_zero n = let d = Decides-int_eq (pos (suc n)) (pos 0) in grind (arith, ints)

pub distance_not_zero : (y : ℤ) → int_eq y (pos 0) ≡ false → int_eq (pos (unsigned_abs y)) (pos 0) ≡ false
distance_not_zero (pos n) e = e
distance_not_zero (negsuc n) e = not_zero n

-- ---- the limit

-- the highest bit alone
pub shifted_top : (bits n : ℕ) → 1 ≤ bits → n < 2 ^ bits → n / 2 ^ (bits - 1) ≡ bit_at n (bits - 1)
shifted_top bits n some l =
    let e = double_top bits some in
    let q = n / 2 ^ (bits - 1) in
    let iff = div-lt_iff_lt-mul {k = 2 ^ (bits - 1)} {x = n} {y = 2} (pow_pos (bits - 1)) in
    let less : q < 2 = iff.1 (omega (arith, l, e)) in
    sym (mod-eq_of_lt less)

module _ (bits : ℕ) where
  abbrev half : ℕ
  half = 2 ^ (bits - 1)

  within : (n : ℕ) → int_le (pos n) (pos (half - 1 + 0)) ≡ in_range_of bits true (pos n)
  within n = let p = pow_pos (bits - 1) in same_test (int_le (pos n) (pos (half - 1 + 0))) (in_range_of bits true (pos n)) (λ le. grind (arith, ints)) (λ i. grind (arith, ints))

  within_opposite : (n : ℕ) → int_le (pos n) (pos (half - 1 + 1)) ≡ in_range_of bits true (neg_ℤ (pos n))
  within_opposite n = let p = pow_pos (bits - 1) in same_test (int_le (pos n) (pos (half - 1 + 1))) (in_range_of bits true (neg_ℤ (pos n))) (λ le. grind (arith, ints)) (λ i. grind (arith, ints))

  module _ (some : 1 ≤ bits) where
    abbrev pub signs_differ : ℤ → ℤ → ℕ
    signs_differ x y = (top bits x + top bits y) % 2

    signs : (x y : ℤ) (i j : ℕ) → top bits x ≡ i → top bits y ≡ j → signs_differ x y ≡ (i + j) % 2
    signs x y i j ex ey = ap (λ n. (n + top bits y) % 2) ex ∙ ap (λ n. (i + n) % 2) ey

    at_limit : (x y : ℤ) (n d : ℕ) → signs_differ x y ≡ d → int_le (pos n) (pos (half - 1 + signs_differ x y)) ≡ int_le (pos n) (pos (half - 1 + d))
    at_limit x y n d e = ap (λ k. int_le (pos n) (pos (half - 1 + k))) e

    -- a product fits exactly where its distance is at most the limit, which is one more where the signs differ
    limit_test : (x y : ℤ) → IsTrue (in_range_of bits true x) → IsTrue (in_range_of bits true y)
        → int_le (pos (unsigned_abs x * unsigned_abs y)) (pos (half - 1 + signs_differ x y)) ≡ in_range_of bits true (x *ℤ y)
    limit_test (pos a) (pos b) h k =
        at_limit (pos a) (pos b) (a * b) 0 (signs (pos a) (pos b) 0 0 (natural_low bits some a (natural_below bits a h)) (natural_low bits some b (natural_below bits b k))) ∙ within (a * b)
    limit_test (pos a) (negsuc b) h k =
        at_limit (pos a) (negsuc b) (a * suc b) 1 (signs (pos a) (negsuc b) 0 1 (natural_low bits some a (natural_below bits a h)) (negative_high bits some b (negative_below bits b k))) ∙ within_opposite (a * suc b)
    limit_test (negsuc a) (pos b) h k =
        at_limit (negsuc a) (pos b) (suc a * b) 1 (signs (negsuc a) (pos b) 1 0 (negative_high bits some a (negative_below bits a h)) (natural_low bits some b (natural_below bits b k))) ∙ within_opposite (suc a * b)
    limit_test (negsuc a) (negsuc b) h k =
        at_limit (negsuc a) (negsuc b) (suc a * suc b) 0 (signs (negsuc a) (negsuc b) 1 1 (negative_high bits some a (negative_below bits a h)) (negative_high bits some b (negative_below bits b k))) ∙ within (suc a * suc b)

    -- what is at most the limit is a number of so many bits without sign
    absorbed : (r s : Bool) → (IsTrue s → IsTrue r) → (r && s) ≡ s
    absorbed true s f = refl
    absorbed false true f = f refl
    absorbed false false f = refl

    pub limit_below : (n d : ℕ) → d < 2 → n ≤ half - 1 + d → n < 2 ^ bits
    limit_below n d l le = let e = double_top bits some in let p = pow_pos (bits - 1) in omega (arith, l, le, e, p)

    smaller : (n d : ℕ) → d < 2 → (in_range_of bits false (pos n) && int_le (pos n) (pos (half - 1 + d))) ≡ int_le (pos n) (pos (half - 1 + d))
    smaller n d l = absorbed (in_range_of bits false (pos n)) (int_le (pos n) (pos (half - 1 + d))) (λ le. natural bits n (limit_below n d l (grind (arith, ints))))

    pub signs_below : (x y : ℤ) → signs_differ x y < 2
    signs_below x y = omega arith

    product_of_zero : (x y : ℤ) → int_eq y (pos 0) ≡ true → x *ℤ y ≡ pos 0
    product_of_zero (pos a) (pos zero) e = let z : a * 0 ≡ 0 = omega arith in ap pos z
    product_of_zero (negsuc a) (pos zero) e = let z : suc a * 0 ≡ 0 = omega arith in ap (λ n. neg_ℤ (pos n)) z
    product_of_zero x (pos (suc b)) e = let f = not_zero b in let no : ⊥ = cc in absurd no
    product_of_zero x (negsuc b) e = cc

    -- where the right operand is not 0, `fits` says that the distances' product is a number without sign
    pub distance_test : (x y : ℤ) (fits : Bool) → IsTrue (in_range_of bits true x) → IsTrue (in_range_of bits true y)
        → (int_eq y (pos 0) ≡ false → fits ≡ in_range_of bits false (pos (unsigned_abs x * unsigned_abs y))) → (is_zero : Bool) → int_eq y (pos 0) ≡ is_zero
        → (is_zero || (fits && int_le (pos (unsigned_abs x * unsigned_abs y)) (pos (half - 1 + signs_differ x y)))) ≡ in_range_of bits true (x *ℤ y)
    distance_test x y fits h k f true e = sym (ap (in_range_of bits true) (product_of_zero x y e) ∙ natural_held bits 0 (pow_pos (bits - 1)))
    distance_test x y fits h k f false e =
        let n = unsigned_abs x * unsigned_abs y in
        let d = signs_differ x y in
        ap (λ r. r && int_le (pos n) (pos (half - 1 + d))) (f e) ∙ smaller n d (signs_below x y) ∙ limit_test x y h k

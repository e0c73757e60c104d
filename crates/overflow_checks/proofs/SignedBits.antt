-- The highest bits of numbers modulo 2 ^ bits: those of a sum or a difference tell whether it fits.
use Rattle.std.proofs.Common.{◌≡◌, ℕ, zero, suc, ◌-◌, ◌+◌, ◌*◌, ◌%◌, ◌^◌, ◌<◌, ◌≤◌, ◌⊎◌, inl, inr, min, ℤ, pos, negsuc, ◌+ℤ◌, ◌-ℤ◌, Bool, true, false, IsTrue, arith, refl, sym, subst, ap, ◌∙◌}
use Rattle.std.specs.Prelude.{nat_eq, nat_lt, bit_and, bit_xor}
use Rattle.std.specs.Int.{bit_at}
use Rattle.std.proofs.lemmas.Int.{ints}
use Rattle.std.proofs.lemmas.Nat.{pow_pos, and_le_l, xor_lt}
use Rattle.std.proofs.lemmas.Nat.Bits.{bit_at_and, bit_at_xor, bit_at-lt, bit_at_above, bit_at_cat_high, bit_at_lowest}
use Rattle.std.proofs.lemmas.Bool.{cases_lt}
use Rattle.std.proofs.Math.Nat.{pow-suc}
use Rattle.iv_words.specs.Kinds.{in_range_of}
use Rattle.c_meaning.specs.Operators.{bits_of}
use Rattle.c_meaning.proofs.Bits.{bits_of_natural, bits_of_negative}
use Rattle.overflow_checks.proofs.SignedNumbers.{natural_below, negative_below, natural_held, negative_held, mixed_sum_held}

-- the highest of so many bits of a number
abbrev pub top : ℕ → ℤ → ℕ
top bits v = bit_at (bits_of bits v) (bits - 1)

pub double_top : (bits : ℕ) → 1 ≤ bits → 2 ^ bits ≡ 2 ^ (bits - 1) * 2
double_top bits some = ap (λ k. 2 ^ k) (omega arith) ∙ pow-suc 2 (bits - 1)

-- ---- the highest bit of a number from 0

low_bit : (n i : ℕ) → n < 2 ^ i → bit_at n i ≡ 0
low_bit n i l = bit_at_above n i i l (omega arith)

high_bit : (n i : ℕ) → 2 ^ i ≤ n → n < 2 ^ i * 2 → bit_at n i ≡ 1
high_bit n i le l =
    let r = n - 2 ^ i in
    let e : n ≡ 1 * 2 ^ i + r = omega arith in
    let z : i - i ≡ 0 = omega arith in
    ap (λ k. bit_at k i) e ∙ bit_at_cat_high 1 i r i (omega arith) (omega arith) ∙ ap (bit_at 1) z ∙ bit_at_lowest 1

is_low : (n i : ℕ) → (n < 2 ^ i) ⊎ (2 ^ i ≤ n) → n < 2 ^ i * 2 → nat_lt n (2 ^ i) ≡ nat_eq (bit_at n i) 0
is_low n i (inl l) h = let e = low_bit n i l in let f : nat_lt n (2 ^ i) ≡ true = grind arith in f ∙ sym (ap (λ k. nat_eq k 0) e)
is_low n i (inr g) h = let e = high_bit n i g h in let f : nat_lt n (2 ^ i) ≡ false = grind arith in f ∙ sym (ap (λ k. nat_eq k 0) e)

-- a number is below the half of 2 ^ bits exactly where its highest bit is not set
pub low_test : (bits n : ℕ) → 1 ≤ bits → n < 2 ^ bits → nat_lt n (2 ^ (bits - 1)) ≡ nat_eq (bit_at n (bits - 1)) 0
low_test bits n some l = let e = double_top bits some in is_low n (bits - 1) (cases_lt n (2 ^ (bits - 1))) (omega (arith, l, e))

-- ---- of the bits of numbers

module _ (bits : ℕ) (some : 1 ≤ bits) where
  abbrev half : ℕ
  half = 2 ^ (bits - 1)

  pub natural_low : (n : ℕ) → n < half → top bits (pos n) ≡ 0
  natural_low n l = let e = double_top bits some in ap (λ k. bit_at k (bits - 1)) (bits_of_natural bits n (omega (arith, l, e))) ∙ low_bit n (bits - 1) l

  natural_high : (n : ℕ) → half ≤ n → n < half * 2 → top bits (pos n) ≡ 1
  natural_high n g l = let e = double_top bits some in ap (λ k. bit_at k (bits - 1)) (bits_of_natural bits n (omega (arith, l, e))) ∙ high_bit n (bits - 1) g l

  pub negative_high : (n : ℕ) → n < half → top bits (negsuc n) ≡ 1
  negative_high n l =
      let e = double_top bits some in
      ap (λ k. bit_at k (bits - 1)) (bits_of_negative bits n (omega (arith, l, e))) ∙ high_bit (2 ^ bits - suc n) (bits - 1) (omega (arith, l, e)) (omega (arith, l, e))

  negative_low : (n : ℕ) → half ≤ n → n < half * 2 → top bits (negsuc n) ≡ 0
  negative_low n g l =
      let e = double_top bits some in
      ap (λ k. bit_at k (bits - 1)) (bits_of_negative bits n (omega (arith, l, e))) ∙ low_bit (2 ^ bits - suc n) (bits - 1) (omega (arith, g, l, e))

  bit_is : (k : ℕ) → k < 2 → (k ≡ 0) ⊎ (k ≡ 1)
  bit_is zero l = inl refl
  bit_is (suc zero) l = inr refl
  bit_is (suc (suc k)) l = absurd (omega arith)

  pub top_is : (v : ℤ) → (top bits v ≡ 0) ⊎ (top bits v ≡ 1)
  top_is v = bit_is (top bits v) (bit_at-lt (bits_of bits v) (bits - 1))

  -- ---- what the tests say

  -- the highest bit differs between the first and the third, and between the second and the third
  abbrev pub both_differ : (x y r : ℕ) → ℕ
  both_differ x y r = min ((x + r) % 2) ((y + r) % 2)

  -- between the first and the second, and between the first and the third
  abbrev pub left_differs : (x y r : ℕ) → ℕ
  left_differs x y r = min ((x + y) % 2) ((x + r) % 2)

  with_tops : (f : ℕ → ℕ → ℕ → ℕ) (x y r : ℤ) (i j k : ℕ) → top bits x ≡ i → top bits y ≡ j → top bits r ≡ k → nat_eq (f (top bits x) (top bits y) (top bits r)) 0 ≡ nat_eq (f i j k) 0
  with_tops f x y r i j k ex ey er =
      ap (λ n. nat_eq (f n (top bits y) (top bits r)) 0) ex ∙ ap (λ n. nat_eq (f i n (top bits r)) 0) ey ∙ ap (λ n. nat_eq (f i j n) 0) er

  -- whichever the third is
  with_any : (f : ℕ → ℕ → ℕ → ℕ) (x y r : ℤ) (i j : ℕ) (test : Bool) → top bits x ≡ i → top bits y ≡ j → nat_eq (f i j 0) 0 ≡ test → nat_eq (f i j 1) 0 ≡ test
      → (top bits r ≡ 0) ⊎ (top bits r ≡ 1) → nat_eq (f (top bits x) (top bits y) (top bits r)) 0 ≡ test
  with_any f x y r i j test ex ey e0 e1 (inl er) = with_tops f x y r i j 0 ex ey er ∙ e0
  with_any f x y r i j test ex ey e0 e1 (inr er) = with_tops f x y r i j 1 ex ey er ∙ e1

  past_natural : (n : ℕ) → half ≤ n → in_range_of bits true (pos n) ≡ false
  past_natural n g = let p = pow_pos (bits - 1) in grind (arith, ints)

  past_negative : (n : ℕ) → half ≤ n → in_range_of bits true (negsuc n) ≡ false
  past_negative n g = let p = pow_pos (bits - 1) in grind (arith, ints)

  -- two numbers of the same sign
  natural_sum : (a b : ℕ) → a < half → b < half → (a + b < half) ⊎ (half ≤ a + b) → nat_eq (both_differ (top bits (pos a)) (top bits (pos b)) (top bits (pos (a + b)))) 0 ≡ in_range_of bits true (pos (a + b))
  natural_sum a b l m (inl q) = with_tops both_differ (pos a) (pos b) (pos (a + b)) 0 0 0 (natural_low a l) (natural_low b m) (natural_low (a + b) q) ∙ sym (natural_held bits (a + b) q)
  natural_sum a b l m (inr q) = with_tops both_differ (pos a) (pos b) (pos (a + b)) 0 0 1 (natural_low a l) (natural_low b m) (natural_high (a + b) q (omega arith)) ∙ sym (past_natural (a + b) q)

  negative_sum : (a b : ℕ) → a < half → b < half → (suc (a + b) < half) ⊎ (half ≤ suc (a + b))
      → nat_eq (both_differ (top bits (negsuc a)) (top bits (negsuc b)) (top bits (negsuc (suc (a + b))))) 0 ≡ in_range_of bits true (negsuc (suc (a + b)))
  negative_sum a b l m (inl q) = with_tops both_differ (negsuc a) (negsuc b) (negsuc (suc (a + b))) 1 1 1 (negative_high a l) (negative_high b m) (negative_high (suc (a + b)) q) ∙ sym (negative_held bits (suc (a + b)) q)
  negative_sum a b l m (inr q) = with_tops both_differ (negsuc a) (negsuc b) (negsuc (suc (a + b))) 1 1 0 (negative_high a l) (negative_high b m) (negative_low (suc (a + b)) q (omega arith)) ∙ sym (past_negative (suc (a + b)) q)

  turned_sum : (a b : ℕ) → negsuc a +ℤ pos b ≡ pos b +ℤ negsuc a
  turned_sum a b = omega (arith, ints)

  pub sum_test : (x y : ℤ) → IsTrue (in_range_of bits true x) → IsTrue (in_range_of bits true y) → nat_eq (both_differ (top bits x) (top bits y) (top bits (x +ℤ y))) 0 ≡ in_range_of bits true (x +ℤ y)
  sum_test (pos a) (pos b) h k = natural_sum a b (natural_below bits a h) (natural_below bits b k) (cases_lt (a + b) half)
  sum_test (negsuc a) (negsuc b) h k = negative_sum a b (negative_below bits a h) (negative_below bits b k) (cases_lt (suc (a + b)) half)
  sum_test (pos a) (negsuc b) h k =
      let v = pos a +ℤ negsuc b in let l = natural_below bits a h in let m = negative_below bits b k in
      with_any both_differ (pos a) (negsuc b) v 0 1 true (natural_low a l) (negative_high b m) refl refl (top_is v) ∙ sym (mixed_sum_held bits a b l m)
  sum_test (negsuc a) (pos b) h k =
      let v = negsuc a +ℤ pos b in let l = negative_below bits a h in let m = natural_below bits b k in
      with_any both_differ (negsuc a) (pos b) v 1 0 true (negative_high a l) (natural_low b m) refl refl (top_is v)
      ∙ sym (mixed_sum_held bits b a m l) ∙ ap (in_range_of bits true) (sym (turned_sum a b))

  -- two numbers of two signs
  past_difference : (a b : ℕ) → a < half → b < half → (a + suc b < half) ⊎ (half ≤ a + suc b) → nat_eq (left_differs (top bits (pos a)) (top bits (negsuc b)) (top bits (pos (a + suc b)))) 0 ≡ in_range_of bits true (pos (a + suc b))
  past_difference a b l m (inl q) = with_tops left_differs (pos a) (negsuc b) (pos (a + suc b)) 0 1 0 (natural_low a l) (negative_high b m) (natural_low (a + suc b) q) ∙ sym (natural_held bits (a + suc b) q)
  past_difference a b l m (inr q) = with_tops left_differs (pos a) (negsuc b) (pos (a + suc b)) 0 1 1 (natural_low a l) (negative_high b m) (natural_high (a + suc b) q (omega arith)) ∙ sym (past_natural (a + suc b) q)

  below_difference : (a b : ℕ) → a < half → b < half → (a + b < half) ⊎ (half ≤ a + b) → nat_eq (left_differs (top bits (negsuc a)) (top bits (pos b)) (top bits (negsuc (a + b)))) 0 ≡ in_range_of bits true (negsuc (a + b))
  below_difference a b l m (inl q) = with_tops left_differs (negsuc a) (pos b) (negsuc (a + b)) 1 0 1 (negative_high a l) (natural_low b m) (negative_high (a + b) q) ∙ sym (negative_held bits (a + b) q)
  below_difference a b l m (inr q) = with_tops left_differs (negsuc a) (pos b) (negsuc (a + b)) 1 0 0 (negative_high a l) (natural_low b m) (negative_low (a + b) q (omega arith)) ∙ sym (past_negative (a + b) q)

  natural_difference_held : (a b : ℕ) → a < half → b < half → IsTrue (in_range_of bits true (pos a -ℤ pos b))
  natural_difference_held a zero l m = let e : pos a -ℤ pos zero ≡ pos a = omega (arith, ints) in subst (λ v. IsTrue (in_range_of bits true v)) (sym e) (natural_held bits a l)
  natural_difference_held a (suc b) l m = mixed_sum_held bits a b l (omega arith)

  negative_difference_held : (a b : ℕ) → a < half → b < half → IsTrue (in_range_of bits true (negsuc a -ℤ negsuc b))
  negative_difference_held a b l m = let e : negsuc a -ℤ negsuc b ≡ pos b -ℤ pos a = omega (arith, ints) in subst (λ v. IsTrue (in_range_of bits true v)) (sym e) (natural_difference_held b a m l)

  pub difference_test : (x y : ℤ) → IsTrue (in_range_of bits true x) → IsTrue (in_range_of bits true y) → nat_eq (left_differs (top bits x) (top bits y) (top bits (x -ℤ y))) 0 ≡ in_range_of bits true (x -ℤ y)
  difference_test (pos a) (pos b) h k =
      let v = pos a -ℤ pos b in let l = natural_below bits a h in let m = natural_below bits b k in
      with_any left_differs (pos a) (pos b) v 0 0 true (natural_low a l) (natural_low b m) refl refl (top_is v) ∙ sym (natural_difference_held a b l m)
  difference_test (negsuc a) (negsuc b) h k =
      let v = negsuc a -ℤ negsuc b in let l = negative_below bits a h in let m = negative_below bits b k in
      with_any left_differs (negsuc a) (negsuc b) v 1 1 true (negative_high a l) (negative_high b m) refl refl (top_is v) ∙ sym (negative_difference_held a b l m)
  difference_test (pos a) (negsuc b) h k = past_difference a b (natural_below bits a h) (negative_below bits b k) (cases_lt (a + suc b) half)
  difference_test (negsuc a) (pos b) h k =
      let e : negsuc a -ℤ pos b ≡ negsuc (a + b) = omega (arith, ints) in
      subst (λ v. nat_eq (left_differs (top bits (negsuc a)) (top bits (pos b)) (top bits v)) 0 ≡ in_range_of bits true v) (sym e)
      (below_difference a b (negative_below bits a h) (natural_below bits b k) (cases_lt (a + b) half))

  -- ---- bit by bit

  pub top_of_differing : (m n : ℕ) → m < 2 ^ bits → n < 2 ^ bits → top bits (pos (bit_xor m n)) ≡ (bit_at m (bits - 1) + bit_at n (bits - 1)) % 2
  top_of_differing m n l k = ap (λ k. bit_at k (bits - 1)) (bits_of_natural bits (bit_xor m n) (xor_lt bits m n l k)) ∙ bit_at_xor m n (bits - 1)

  -- the bits that are set in both are below the half exactly where one of the highest is not set
  pub clear_test : (m n : ℕ) → m < 2 ^ bits → n < 2 ^ bits → nat_lt (bit_and m n) half ≡ nat_eq (min (bit_at m (bits - 1)) (bit_at n (bits - 1))) 0
  clear_test m n l k = let le = and_le_l m n in low_test bits (bit_and m n) some (omega (arith, l, le)) ∙ ap (λ k. nat_eq k 0) (bit_at_and m n (bits - 1))

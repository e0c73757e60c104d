-- The number that digits write, read from the first digit on.
use Rattle.std.proofs.Common.{◌≡◌, ℕ, zero, suc, ◌+◌, ◌*◌, ◌^◌, ◌≤◌, ◌<◌, Bool, true, false, List, [], ◌∷◌, length, drop, get_or, nat_lt, Some, None, cond, refl, sym, ap, ◌∙◌, arith, lt-ltb}
use Rattle.std.proofs.lemmas.Bool.{ltb-false, le-ltb}
use Rattle.std.proofs.Math.Nat.{le-mul_of_pos_right}
use Rattle.std.specs.Char.{digit_value}
use Rattle.std.specs.Str.Parse.{digits_value_after}
use Rattle.ivory_lexer.specs.Table.{in_range}

value_le : (radix n : ℕ) (bs : List ℕ) → 0 < radix → n ≤ digits_value_after radix n bs
value_le radix n [] h = omega arith
value_le radix n (b ∷ bs) h = through (digit_value b) (value_le radix (n * radix + digit_value b) bs h) (le-mul_of_pos_right n h)
  where
    through : (d : ℕ) {v : ℕ} → n * radix + d ≤ v → n ≤ n * radix → n ≤ v
    through d {v} le more = omega arith

pub below : (n : ℕ) → n < 2 ^ 64 → Some n ≡ in_range n
below n h = ap (λ t. cond t (Some n) None) (sym (lt-ltb n (2 ^ 64) h))

above : (n : ℕ) → 2 ^ 64 ≤ n → None ≡ in_range n
above n h = ap (λ t. cond t (Some n) None) (sym (le-ltb n (2 ^ 64) h))

none_above : (n : ℕ) (t : Bool) → nat_lt n (2 ^ 64) ≡ t → cond t (Some n) None ≡ None → 2 ^ 64 ≤ n
none_above n true e h = absurd cc
none_above n false e h = ltb-false n (2 ^ 64) e

pub over : (n m : ℕ) → in_range n ≡ None → n ≤ m → None ≡ in_range m
over n m h le = above m (omega (arith, none_above n (nat_lt n (2 ^ 64)) refl h))

value_drop : (radix n i : ℕ) (bs : List ℕ) → i < length bs → digits_value_after radix n (drop i bs) ≡ digits_value_after radix (n * radix + digit_value (get_or bs i 0)) (drop (suc i) bs)
value_drop radix n zero [] h = absurd (omega arith)
value_drop radix n (suc i) [] h = absurd (omega arith)
value_drop radix n zero (b ∷ bs) h = refl
value_drop radix n (suc i) (b ∷ bs) h = value_drop radix n i bs (omega arith)

-- one more digit makes it too large, and so is the whole
pub too_large : (radix n i v : ℕ) (bs : List ℕ) → 0 < radix → i < length bs → digits_value_after radix n (drop i bs) ≡ v → in_range (n * radix + digit_value (get_or bs i 0)) ≡ None → None ≡ in_range v
too_large radix n i v bs r h e none = over _ v none (omega (arith, e, value_drop radix n i bs h, value_le radix (n * radix + digit_value (get_or bs i 0)) (drop (suc i) bs) r))

pub one_more : (radix n i v m : ℕ) (bs : List ℕ) → i < length bs → digits_value_after radix n (drop i bs) ≡ v → Some m ≡ in_range (n * radix + digit_value (get_or bs i 0)) → digits_value_after radix m (drop (suc i) bs) ≡ v
one_more radix n i v m bs h e some = at (nat_lt (n * radix + digit_value (get_or bs i 0)) (2 ^ 64)) some
  where
    at : (t : Bool) → Some m ≡ cond t (Some (n * radix + digit_value (get_or bs i 0))) None → digits_value_after radix m (drop (suc i) bs) ≡ v
    at true s = let same : m ≡ n * radix + digit_value (get_or bs i 0) = cc in ap (λ k. digits_value_after radix k (drop (suc i) bs)) same ∙ sym (value_drop radix n i bs h) ∙ e
    at false s = absurd cc

pub at_end : (radix n i v : ℕ) (bs : List ℕ) → length bs ≤ i → digits_value_after radix n (drop i bs) ≡ v → n < 2 ^ 64 → Some n ≡ in_range v
at_end radix n i v bs h e small = below n small ∙ ap in_range (sym (ap (digits_value_after radix n) (nothing i bs h)) ∙ e)
  where
    nothing : (i : ℕ) (bs : List ℕ) → length bs ≤ i → drop i bs ≡ []
    nothing zero [] h = refl
    nothing (suc i) [] h = refl
    nothing zero (b ∷ bs) h = absurd (omega arith)
    nothing (suc i) (b ∷ bs) h = nothing i bs (omega arith)

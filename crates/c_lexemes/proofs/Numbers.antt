-- The number that digits write, read from the first digit on.
use Rattle.std.proofs.Common.{◌≡◌, ℕ, zero, suc, ◌+◌, ◌-◌, ◌*◌, ◌^◌, ◌≤◌, ◌<◌, Bool, true, false, List, [], ◌∷◌, length, drop, take, get_or, nat_lt, Some, None, cond, refl, sym, ap, ◌∙◌, arith, lt-ltb, if◌then◌else◌, Option}
use Rattle.std.specs.Prelude.{◌&&◌, nat_le}
use Rattle.std.specs.List.{list_all, prefix_len}
use Rattle.std.proofs.lemmas.Bool.{ltb-false, ltb-true, le-ltb, and_parts, leb-true}
use Rattle.c_ast.specs.declared.expr.Suffix.{Suffix}
use Rattle.c_text.specs.Identifiers.{is_digit}
use Rattle.c_grammar.specs.Kinds.{value_behind, digits, behind_digits, is_plain, suffix_of, with_suffix, word_number}
use Rattle.c_lexemes.specs.Numbers.{below_limit}

value_le : (n : ℕ) (bs : List ℕ) → n ≤ value_behind n bs
value_le n [] = omega arith
value_le n (b ∷ bs) = through (b - 48) (value_le (n * 10 + (b - 48)) bs)
  where
    through : (d : ℕ) {v : ℕ} → n * 10 + d ≤ v → n ≤ v
    through d {v} le = omega arith

pub below : (n : ℕ) → n < 2 ^ 64 → Some n ≡ below_limit n
below n h = ap (λ t. cond t (Some n) None) (sym (lt-ltb n (2 ^ 64) h))

above : (n : ℕ) → 2 ^ 64 ≤ n → None ≡ below_limit n
above n h = ap (λ t. cond t (Some n) None) (sym (le-ltb n (2 ^ 64) h))

none_above : (n : ℕ) (t : Bool) → nat_lt n (2 ^ 64) ≡ t → cond t (Some n) None ≡ None → 2 ^ 64 ≤ n
none_above n true e h = absurd cc
none_above n false e h = ltb-false n (2 ^ 64) e

over : (n m : ℕ) → below_limit n ≡ None → n ≤ m → None ≡ below_limit m
over n m h le = above m (omega (arith, none_above n (nat_lt n (2 ^ 64)) refl h))

value_drop : (n i : ℕ) (bs : List ℕ) → i < length bs → value_behind n (drop i bs) ≡ value_behind (n * 10 + (get_or bs i 0 - 48)) (drop (suc i) bs)
value_drop n zero [] h = absurd (omega arith)
value_drop n (suc i) [] h = absurd (omega arith)
value_drop n zero (b ∷ bs) h = refl
value_drop n (suc i) (b ∷ bs) h = value_drop n i bs (omega arith)

-- one more digit makes it too large, and so is the whole
pub too_large : (n i v : ℕ) (bs : List ℕ) → i < length bs → value_behind n (drop i bs) ≡ v → below_limit (n * 10 + (get_or bs i 0 - 48)) ≡ None → None ≡ below_limit v
too_large n i v bs h e none = over _ v none (omega (arith, e, value_drop n i bs h, value_le (n * 10 + (get_or bs i 0 - 48)) (drop (suc i) bs)))

pub one_more : (n i v m : ℕ) (bs : List ℕ) → i < length bs → value_behind n (drop i bs) ≡ v → Some m ≡ below_limit (n * 10 + (get_or bs i 0 - 48)) → value_behind m (drop (suc i) bs) ≡ v
one_more n i v m bs h e some = at (nat_lt (n * 10 + (get_or bs i 0 - 48)) (2 ^ 64)) some
  where
    at : (t : Bool) → Some m ≡ cond t (Some (n * 10 + (get_or bs i 0 - 48))) None → value_behind m (drop (suc i) bs) ≡ v
    at true s = let same : m ≡ n * 10 + (get_or bs i 0 - 48) = cc in ap (λ k. value_behind k (drop (suc i) bs)) same ∙ sym (value_drop n i bs h) ∙ e
    at false s = absurd cc

pub at_end : (n i v : ℕ) (bs : List ℕ) → length bs ≤ i → value_behind n (drop i bs) ≡ v → n < 2 ^ 64 → Some n ≡ below_limit v
at_end n i v bs h e small = below n small ∙ ap below_limit (sym (ap (value_behind n) (nothing i bs h)) ∙ e)
  where
    nothing : (i : ℕ) (bs : List ℕ) → length bs ≤ i → drop i bs ≡ []
    nothing zero [] h = refl
    nothing (suc i) [] h = refl
    nothing zero (b ∷ bs) h = absurd (omega arith)
    nothing (suc i) (b ∷ bs) h = nothing i bs (omega arith)

-- each is a digit
pub digit_at : (bs : List ℕ) (i : ℕ) → list_all is_digit bs ≡ true → i < length bs → 48 ≤ get_or bs i 0
digit_at [] i all h = absurd (omega arith)
digit_at (b ∷ bs) zero all h = let parts = and_parts (is_digit b) (list_all is_digit bs) all in leb-true 48 b (and_parts (nat_le 48 b) (nat_le b 57) parts.0).0
digit_at (b ∷ bs) (suc i) all h = digit_at bs i (and_parts (is_digit b) (list_all is_digit bs) all).1 (omega arith)

-- ---- the digits of a word

one_more_digit : (n : ℕ) → 1 + n ≡ suc n
one_more_digit n = omega arith

pub digits_are : (w : List ℕ) → digits w ≡ take (prefix_len is_digit w) w
digits_are [] = refl
digits_are (b ∷ bs) = at (is_digit b) (digits_are bs)
  where
    at : (t : Bool) → digits bs ≡ take (prefix_len is_digit bs) bs → (if t then b ∷ digits bs else []) ≡ take (cond t (1 + prefix_len is_digit bs) 0) (b ∷ bs)
    at true ih = ap (λ ds. b ∷ ds) ih ∙ ap (λ n. take n (b ∷ bs)) (sym (one_more_digit (prefix_len is_digit bs)))
    at false ih = refl

pub behind_are : (w : List ℕ) → behind_digits w ≡ drop (prefix_len is_digit w) w
behind_are [] = refl
behind_are (b ∷ bs) = at (is_digit b) (behind_are bs)
  where
    at : (t : Bool) → behind_digits bs ≡ drop (prefix_len is_digit bs) bs → (if t then behind_digits bs else b ∷ bs) ≡ drop (cond t (1 + prefix_len is_digit bs) 0) (b ∷ bs)
    at true ih = ih ∙ ap (λ n. drop n (b ∷ bs)) (sym (one_more_digit (prefix_len is_digit bs)))
    at false ih = refl

-- ---- the parts of a number

abbrev of_parts : List ℕ → List ℕ → Option (ℕ × Suffix)
of_parts ds rest = if is_plain ds && nat_lt (value_behind 0 ds) (2 ^ 64) then with_suffix (value_behind 0 ds) (suffix_of rest) else None

parts_of : (w ds rest : List ℕ) → digits w ≡ ds → behind_digits w ≡ rest → word_number w ≡ of_parts ds rest
parts_of w ds rest d b = ap (λ x. of_parts x (behind_digits w)) d ∙ ap (of_parts ds) b

not_plain : (ds rest : List ℕ) → is_plain ds ≡ false → None ≡ of_parts ds rest
not_plain ds rest e = rw e refl

too_long : (ds rest : List ℕ) (t : Bool) → None ≡ below_limit (value_behind 0 ds) → None ≡ (if t && nat_lt (value_behind 0 ds) (2 ^ 64) then with_suffix (value_behind 0 ds) (suffix_of rest) else None)
too_long ds rest false e = refl
too_long ds rest true e = at (nat_lt (value_behind 0 ds) (2 ^ 64)) e
  where
    at : (t : Bool) → None ≡ (if t then Some (value_behind 0 ds) else None) → None ≡ (if t then with_suffix (value_behind 0 ds) (suffix_of rest) else None)
    at true e = absurd cc
    at false e = refl

no_suffix : (ds rest : List ℕ) (t : Bool) → None ≡ suffix_of rest → None ≡ (if t then with_suffix (value_behind 0 ds) (suffix_of rest) else None)
no_suffix ds rest true e = rw (← e) refl
no_suffix ds rest false e = refl

all_parts : (ds rest : List ℕ) (n : ℕ) (s : Suffix) → is_plain ds ≡ true → Some n ≡ below_limit (value_behind 0 ds) → Some s ≡ suffix_of rest → with_suffix n (Some s) ≡ of_parts ds rest
all_parts ds rest n s plain value suffix = rw (plain, ← suffix) (at (nat_lt (value_behind 0 ds) (2 ^ 64)) value)
  where
    at : (t : Bool) → Some n ≡ (if t then Some (value_behind 0 ds) else None) → with_suffix n (Some s) ≡ (if t then with_suffix (value_behind 0 ds) (Some s) else None)
    at true e = let same : n ≡ value_behind 0 ds = cc in ap (λ k. with_suffix k (Some s)) same
    at false e = absurd cc

-- of a word that is cut behind its digits

pub record CutBehindDigits (w ds rest : List ℕ) : Type 0 where
  pub front : digits w ≡ ds
  pub back : behind_digits w ≡ rest

pub cut_digits : (w ds rest : List ℕ) (n : ℕ) → n ≡ prefix_len is_digit w → ds ≡ take n w → rest ≡ drop n w → CutBehindDigits w ds rest
cut_digits w ds rest n e d b = record { front = digits_are w ∙ ap (λ k. take k w) (sym e) ∙ sym d; back = behind_are w ∙ ap (λ k. drop k w) (sym e) ∙ sym b }

pub number_not_plain : (w ds rest : List ℕ) → CutBehindDigits w ds rest → is_plain ds ≡ false → None ≡ word_number w
number_not_plain w ds rest c e = not_plain ds rest e ∙ sym (parts_of w ds rest c.front c.back)

pub number_too_large : (w ds rest : List ℕ) → CutBehindDigits w ds rest → None ≡ below_limit (value_behind 0 ds) → None ≡ word_number w
number_too_large w ds rest c e = too_long ds rest (is_plain ds) e ∙ sym (parts_of w ds rest c.front c.back)

pub number_no_suffix : (w ds rest : List ℕ) → CutBehindDigits w ds rest → None ≡ suffix_of rest → None ≡ word_number w
number_no_suffix w ds rest c e = no_suffix ds rest (is_plain ds && nat_lt (value_behind 0 ds) (2 ^ 64)) e ∙ sym (parts_of w ds rest c.front c.back)

pub number_is : (w ds rest : List ℕ) (n : ℕ) (s : Suffix) → CutBehindDigits w ds rest → is_plain ds ≡ true → Some n ≡ below_limit (value_behind 0 ds) → Some s ≡ suffix_of rest → with_suffix n (Some s) ≡ word_number w
number_is w ds rest n s c plain value suffix = all_parts ds rest n s plain value suffix ∙ sym (parts_of w ds rest c.front c.back)

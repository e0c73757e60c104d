-- Runs of bytes that pass a test.
use Rattle.std.proofs.Common.{◌≡◌, ℕ, suc, ◌+◌, ◌<◌, ◌&&◌, Bool, true, false, List, [], ◌∷◌, ◌++◌, length, take, cond, refl, sym, ap, ◌∙◌, arith}
use Rattle.std.specs.List.{prefix_len, list_all}
use Rattle.std.specs.Char.{is_ascii_digit, is_ascii_hexdigit}
use Rattle.std.proofs.lemmas.Bool.Decides.{nat_tests}

pub run_passes : (p : ℕ → Bool) (bs : List ℕ) → list_all p (take (prefix_len p bs) bs) ≡ true
run_passes p [] = refl
run_passes p (b ∷ bs) = at (p b) refl (run_passes p bs)
  where
    at : (t : Bool) → p b ≡ t → list_all p (take (prefix_len p bs) bs) ≡ true → list_all p (take (cond t (1 + prefix_len p bs) 0) (b ∷ bs)) ≡ true
    at true e ih = let one : 1 + prefix_len p bs ≡ suc (prefix_len p bs) = omega arith in ap (λ n. list_all p (take n (b ∷ bs))) one ∙ ap (λ t. t && list_all p (take (prefix_len p bs) bs)) e ∙ ih
    at false e ih = refl

pub run_most : (p : ℕ → Bool) (bs f r : List ℕ) → bs ≡ f ++ r → prefix_len p bs < length f → list_all p f ≡ false
run_most p bs [] r e h = absurd (omega arith)
run_most p [] (x ∷ f) r e h = absurd cc
run_most p (b ∷ bs) (x ∷ f) r e h =
    let same : b ≡ x = cc in
    let back : bs ≡ f ++ r = cc in
    at (p b) (ap p (sym same)) h (run_most p bs f r back)
  where
    at : (t : Bool) → p x ≡ t → cond t (1 + prefix_len p bs) 0 < suc (length f) → (prefix_len p bs < length f → list_all p f ≡ false) → list_all p (x ∷ f) ≡ false
    at true e h ih = ap (λ t. t && list_all p f) e ∙ ih (omega arith)
    at false e h ih = ap (λ t. t && list_all p f) e

pub all_weaker : (p q : ℕ → Bool) (bs : List ℕ) → ((b : ℕ) → p b ≡ true → q b ≡ true) → list_all p bs ≡ true → list_all q bs ≡ true
all_weaker p q [] w h = refl
all_weaker p q (b ∷ bs) w h = at (p b) refl h (λ g. all_weaker p q bs w g)
  where
    at : (t : Bool) → p b ≡ t → (t && list_all p bs) ≡ true → (list_all p bs ≡ true → list_all q bs ≡ true) → list_all q (b ∷ bs) ≡ true
    at true e h ih = ap (λ t. t && list_all q bs) (w b e) ∙ ih h
    at false e h ih = absurd cc

pub hex_digits_pass : (bs : List ℕ) → list_all is_ascii_hexdigit (take (prefix_len is_ascii_hexdigit bs) bs) ≡ true
hex_digits_pass bs = run_passes is_ascii_hexdigit bs

-- a decimal digit is a hexadecimal one
pub decimal_digits_pass : (bs : List ℕ) → list_all is_ascii_hexdigit (take (prefix_len is_ascii_digit bs) bs) ≡ true
decimal_digits_pass bs = all_weaker is_ascii_digit is_ascii_hexdigit (take (prefix_len is_ascii_digit bs) bs) wider (run_passes is_ascii_digit bs)
  where
    wider : (b : ℕ) → is_ascii_digit b ≡ true → is_ascii_hexdigit b ≡ true
    wider b h = grind (arith, nat_tests)

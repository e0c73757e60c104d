-- A reserved word is sought among those of its length.
use Rattle.std.proofs.Common.{◌≡◌, ℕ, Bool, true, false, List, [], ◌∷◌, ◌++◌, length, refl, sym, ap, ◌∙◌, if◌then◌else◌}
use Rattle.std.specs.Prelude.{nat_eq, ◌||◌}
use Rattle.std.specs.List.{list_any, list_all}
use Rattle.std.proofs.lemmas.Bool.{eqb-true, eq-eqb, ne_eqb, and_parts}
use Rattle.iv_words.specs.Words.{same_word}
use Rattle.c_text.specs.Identifiers.{keywords, defined_names, is_reserved}
use Rattle.c_grammar.proofs.Says.{same_word_is}
use Rattle.c_lexemes.specs.Words.{of_length, of_two, of_three, of_four, of_five, of_six, of_seven, of_eight, of_ten}

other_length : (v w : List ℕ) → nat_eq (length v) (length w) ≡ false → same_word v w ≡ false
other_length v w differ = at (same_word v w) refl
  where
    at : (t : Bool) → same_word v w ≡ t → t ≡ false
    at false e = refl
    at true e = let same : nat_eq (length v) (length w) ≡ true = eq-eqb (length v) (length w) (ap length (same_word_is v w e)) in cc

with_first : (v w : List ℕ) (ws : List (List ℕ)) (t : Bool) → nat_eq (length v) (length w) ≡ t → list_any (same_word v) ws ≡ list_any (same_word v) (of_length (length v) ws)
    → (same_word v w || list_any (same_word v) ws) ≡ list_any (same_word v) (if t then w ∷ of_length (length v) ws else of_length (length v) ws)
with_first v w ws true e more = ap (λ b. same_word v w || b) more
with_first v w ws false e more = rw (other_length v w e) more

among_its_length : (v : List ℕ) (ws : List (List ℕ)) → list_any (same_word v) ws ≡ list_any (same_word v) (of_length (length v) ws)
among_its_length v [] = refl
among_its_length v (w ∷ ws) = with_first v w ws (nat_eq (length v) (length w)) refl (among_its_length v ws)

joined : (v : List ℕ) (ws more : List (List ℕ)) → (list_any (same_word v) ws || list_any (same_word v) more) ≡ list_any (same_word v) (ws ++ more)
joined v [] more = refl
joined v (w ∷ ws) more = at (same_word v w) (joined v ws more)
  where
    at : (t : Bool) → (list_any (same_word v) ws || list_any (same_word v) more) ≡ list_any (same_word v) (ws ++ more)
        → ((t || list_any (same_word v) ws) || list_any (same_word v) more) ≡ (t || list_any (same_word v) (ws ++ more))
    at true e = refl
    at false e = e

of_this_length : (v : List ℕ) (n : ℕ) → length v ≡ n → is_reserved v ≡ list_any (same_word v) (of_length n (keywords ++ defined_names))
of_this_length v n e = joined v keywords defined_names ∙ among_its_length v (keywords ++ defined_names) ∙ ap (λ k. list_any (same_word v) (of_length k (keywords ++ defined_names))) e

pub two : (v : List ℕ) → length v ≡ 2 → is_reserved v ≡ list_any (same_word v) of_two
two v e = of_this_length v 2 e

pub three : (v : List ℕ) → length v ≡ 3 → is_reserved v ≡ list_any (same_word v) of_three
three v e = of_this_length v 3 e

pub four : (v : List ℕ) → length v ≡ 4 → is_reserved v ≡ list_any (same_word v) of_four
four v e = of_this_length v 4 e

pub five : (v : List ℕ) → length v ≡ 5 → is_reserved v ≡ list_any (same_word v) of_five
five v e = of_this_length v 5 e

pub six : (v : List ℕ) → length v ≡ 6 → is_reserved v ≡ list_any (same_word v) of_six
six v e = of_this_length v 6 e

pub seven : (v : List ℕ) → length v ≡ 7 → is_reserved v ≡ list_any (same_word v) of_seven
seven v e = of_this_length v 7 e

pub eight : (v : List ℕ) → length v ≡ 8 → is_reserved v ≡ list_any (same_word v) of_eight
eight v e = of_this_length v 8 e

pub ten : (v : List ℕ) → length v ≡ 10 → is_reserved v ≡ list_any (same_word v) of_ten
ten v e = of_this_length v 10 e

-- the lengths that there are
abbrev lengths : List ℕ
lengths = 2 ∷ 3 ∷ 4 ∷ 5 ∷ 6 ∷ 7 ∷ 8 ∷ 10 ∷ []

abbrev is_length : ℕ → Bool
is_length n = list_any (nat_eq n) lengths

no_length : (n : ℕ) → nat_eq n 2 ≡ false → nat_eq n 3 ≡ false → nat_eq n 4 ≡ false → nat_eq n 5 ≡ false → nat_eq n 6 ≡ false → nat_eq n 7 ≡ false → nat_eq n 8 ≡ false → nat_eq n 10 ≡ false
    → is_length n ≡ false
no_length n a b c d e f g h = rw (a, b, c, d, e, f, g, h) refl

without : (n : ℕ) (w : List ℕ) (ws : List (List ℕ)) (t : Bool) → nat_eq n (length w) ≡ t → is_length n ≡ false → is_length (length w) ≡ true → of_length n ws ≡ []
    → (if t then w ∷ of_length n ws else of_length n ws) ≡ []
without n w ws true e out is more = let here : is_length n ≡ true = ap is_length (eqb-true n (length w) e) ∙ is in cc
without n w ws false e out is more = more

none_so_long : (n : ℕ) (ws : List (List ℕ)) → is_length n ≡ false → list_all (λ w. is_length (length w)) ws ≡ true → of_length n ws ≡ []
none_so_long n [] out all = refl
none_so_long n (w ∷ ws) out all =
    let parts = and_parts (is_length (length w)) (list_all (λ x. is_length (length x)) ws) all in
    without n w ws (nat_eq n (length w)) refl out parts.0 (none_so_long n ws out parts.1)

pub other : (v : List ℕ) → (length v ≡ 2 → ⊥) → (length v ≡ 3 → ⊥) → (length v ≡ 4 → ⊥) → (length v ≡ 5 → ⊥) → (length v ≡ 6 → ⊥) → (length v ≡ 7 → ⊥) → (length v ≡ 8 → ⊥) → (length v ≡ 10 → ⊥)
    → is_reserved v ≡ false
other v a b c d e f g h =
    let n = length v in
    let none : of_length n (keywords ++ defined_names) ≡ [] = none_so_long n (keywords ++ defined_names)
    (no_length n (ne_eqb n 2 a) (ne_eqb n 3 b) (ne_eqb n 4 c) (ne_eqb n 5 d) (ne_eqb n 6 e) (ne_eqb n 7 f) (ne_eqb n 8 g) (ne_eqb n 10 h)) refl in
    of_this_length v n refl ∙ ap (list_any (same_word v)) none

pub ruleset by_length = (two, three, four, five, six, seven, eight, ten, other)

-- Two words are the same exactly when they have equal bytes.
use Rattle.std.proofs.Common.{◌≡◌, ◌≢◌, ℕ, Bool, true, false, List, [], ◌∷◌, refl, sym, ◌∙◌, ap}
use Rattle.std.specs.Prelude.{nat_eq, ◌&&◌}
use Rattle.std.proofs.lemmas.Bool.{and_parts, eqb-true, eq-eqb}
use Rattle.iv_words.specs.Words.{same_word}

pub same_self : (a : List ℕ) → same_word a a ≡ true
same_self [] = refl
same_self (x ∷ xs) = ap (λ b. b && same_word xs xs) (eq-eqb x x refl) ∙ same_self xs

pub same_equal : (a b : List ℕ) → same_word a b ≡ true → a ≡ b
same_equal [] [] h = refl
same_equal [] (y ∷ ys) h = cc
same_equal (x ∷ xs) [] h = cc
same_equal (x ∷ xs) (y ∷ ys) h =
    let p = and_parts (nat_eq x y) (same_word xs ys) h in
    let e : x ≡ y = eqb-true x y p.0 in
    let f : xs ≡ ys = same_equal xs ys p.1 in
    ap (λ z. z ∷ xs) e ∙ ap (λ zs. y ∷ zs) f

not_true : (b : Bool) → b ≢ true → b ≡ false
not_true true h = absurd (h refl)
not_true false h = refl

pub same_not : (a b : List ℕ) → a ≢ b → same_word a b ≡ false
same_not a b h = not_true (same_word a b) (λ e. h (same_equal a b e))

pub same_turned : (a b : List ℕ) → same_word a b ≡ same_word b a
same_turned a b = go (same_word a b) (same_word b a) refl refl where
  back : (v w : List ℕ) → same_word v w ≡ true → same_word w v ≡ true
  back v w h = ap (same_word w) (same_equal v w h) ∙ same_self w

  go : (x y : Bool) → same_word a b ≡ x → same_word b a ≡ y → x ≡ y
  go true true h g = refl
  go false false h g = refl
  go true false h g = sym (back a b h) ∙ g
  go false true h g = sym h ∙ back b a g

-- Texts without brackets: names, numbers, spaces and words that are written out.
use Rattle.std.proofs.Common.{◌≡◌, refl, ◌∙◌, ap, ℕ, zero, suc, ◌+◌, ◌-◌, ◌%◌, ◌^◌, ◌<◌, ◌≤◌, Bool, true, false, List, [], ◌∷◌, ◌++◌, take, arith}
use Rattle.std.specs.Prelude.{not, ◌||◌, ◌&&◌, if◌then◌else◌, decimal, replicate, IsTrue}
use Rattle.std.specs.List.{list_all}
use Rattle.std.proofs.lemmas.Bool.{and_parts}
use Rattle.std.proofs.lemmas.Bool.Decides.{nat_tests}
use Rattle.std.proofs.lemmas.Fmt.{decimal_by_steps}
use Rattle.std.proofs.lemmas.List.Folds.{list_all-append}
use Rattle.c_text.specs.Identifiers.{is_identifier_byte}
use Rattle.c_text.specs.ReadsBack.{is_opening, is_closing, open_after, open_brackets}
use Rattle.c_text.proofs.Nesting.{Nests}

abbrev pub is_plain : ℕ → Bool
is_plain b = not (is_opening b || is_closing b)

-- the text has no bracket; for words that are written out it computes
pub record IsPlain (text : List ℕ) : Type 0 where
  pub all : list_all is_plain text ≡ true

neither : (opening closing : Bool) (count : ℕ) → not (opening || closing) ≡ true → (if opening then count + 1 else (if closing then count - 1 else count)) ≡ count
neither true closing count plain = cc
neither false true count plain = cc
neither false false count plain = refl

plain_byte : (count b : ℕ) → is_plain b ≡ true → open_after count b ≡ count
plain_byte count b plain = neither (is_opening b) (is_closing b) count plain

plain_closes : (text : List ℕ) → list_all is_plain text ≡ true → (count : ℕ) → open_brackets count text ≡ count
plain_closes [] plain count = refl
plain_closes (b ∷ text) plain count = let parts = and_parts (is_plain b) (list_all is_plain text) plain in rw (plain_byte count b parts.0) (plain_closes text parts.1 count)

plain_within : (depth : ℕ) (text : List ℕ) → list_all is_plain text ≡ true → (count n : ℕ) → open_brackets count (take n text) ≤ count + depth
plain_within depth [] plain count zero = omega arith
plain_within depth [] plain count (suc n) = omega arith
plain_within depth (b ∷ text) plain count zero = omega arith
plain_within depth (b ∷ text) plain count (suc n) = let parts = and_parts (is_plain b) (list_all is_plain text) plain in
    let same : open_brackets (open_after count b) (take n text) ≡ open_brackets count (take n text) = ap (λ m. open_brackets m (take n text)) (plain_byte count b parts.0) in
    let bound : open_brackets count (take n text) ≤ count + depth = plain_within depth text parts.1 count n in
    omega arith

pub plain_nests : (depth : ℕ) (text : List ℕ) → IsPlain text → Nests depth text
plain_nests depth text plain = record { within = plain_within depth text plain.all; closes = plain_closes text plain.all }

pub plain_joined : (a b : List ℕ) → IsPlain a → IsPlain b → IsPlain (a ++ b)
plain_joined a b first second = record { all = list_all-append is_plain a b ∙ ap (λ x. x && list_all is_plain b) first.all ∙ second.all }

plain_letter : (b : ℕ) → is_identifier_byte b ≡ true → is_plain b ≡ true
plain_letter b letter = grind (arith, nat_tests)

plain_letters : (word : List ℕ) → list_all is_identifier_byte word ≡ true → list_all is_plain word ≡ true
plain_letters [] letters = refl
plain_letters (b ∷ word) letters =
    let parts = and_parts (is_identifier_byte b) (list_all is_identifier_byte word) letters in
    rw (plain_letter b parts.0) (plain_letters word parts.1)

pub plain_word : (word : List ℕ) → IsTrue (list_all is_identifier_byte word) → IsPlain word
plain_word word letters = record { all = plain_letters word letters }

plain_digit : (d : ℕ) → d < 10 → is_plain (48 + d) ≡ true
plain_digit d small = grind (arith, nat_tests)

digit_alone : (n : ℕ) → n < 10 → IsPlain ((48 + n) ∷ [])
digit_alone n small = record { all = rw (plain_digit n small) refl }

pub plain_decimal : (n : ℕ) → n < 2 ^ 64 → IsPlain (decimal n)
plain_decimal = decimal_by_steps (λ n ds. IsPlain ds) digit_alone (λ n ds large front. plain_joined ds ((48 + n % 10) ∷ []) front (digit_alone (n % 10) (omega arith)))

pub plain_spaces : (n : ℕ) → IsPlain (replicate n 32)
plain_spaces zero = record { all = refl }
plain_spaces (suc n) = record { all = (plain_spaces n).all }

-- Names, numbers and types as pieces: of which kind they are, and what they give.
use Rattle.std.proofs.Common.{◌≡◌, ℕ, zero, suc, ◌^◌, ◌<◌, Bool, true, false, cond, not, List, [], ◌∷◌, ◌++◌, length, get_or, refl, sym, ap, ◌∙◌, subst, arith, if◌then◌else◌, Some, None, decimal}
use Rattle.std.specs.Prelude.{nat_eq, nat_lt, nat_le, ◌==◌, ◌||◌, is_some}
use Rattle.std.specs.List.{list_all}
use Rattle.std.proofs.lemmas.Bool.{and_from, and_parts, not_from_false, le-leb, leb-true, lt-ltb, lt-leb, ne_eqb}
use Rattle.std.proofs.lemmas.Fmt.{digits_decimal, digits_value-decimal, decimal_nonempty, first_decimal, decimal_digit}
use Rattle.std.proofs.lemmas.Str.Parse.{IsNumeralModel, IsDigitsTest, numerals_by_fold}
use Rattle.std.proofs.lemmas.List.Folds.{list_all-append}
use Rattle.c_ast.specs.declared.types.CScalar.{CScalar}
use Rattle.c_ast.specs.declared.types.CScalar.TheVariants.{Truth, Int}
use Rattle.iv_words.specs.declared.kind.IntKind.TheVariants.{U8, U16, U32, U64, I8, I16, I32, I64}
use Rattle.c_ast.specs.declared.expr.Suffix.{Suffix}
use Rattle.c_ast.specs.declared.expr.Suffix.TheVariants.{Plain, U, Ll, Ull}
use Rattle.c_text.specs.Identifiers.{is_digit, is_letter, is_identifier_byte, begins_as_identifier, is_reserved, IsIdentifier}
use Rattle.c_text.specs.TypeText.{scalar_text}
use Rattle.c_text.specs.ExpressionText.{suffix_text}
use Rattle.reading.proofs.Rows.{append_nil}
use Rattle.grammars.specs.Grammar.{of_kind}
use Rattle.c_grammar.specs.Pieces.{Word}
use Rattle.c_grammar.specs.Kinds.{lexicon, is_name, name_of, digits, behind_digits, value_behind, is_plain, suffix_of, word_number, number_of, length_of, scalar_of, is_whole, name_word, number_word, scalar_word, word_scalar, place_in, keywords_used, other}

-- ---- names

pub name_piece : (d : ℕ) (w : List ℕ) → IsIdentifier w → of_kind lexicon d name_word name_of (Word w) ≡ Some w
name_piece d [] h = let no : false ≡ true = h.begins in cc
name_piece d (b ∷ w) h =
    let short : nat_le (length (b ∷ w)) 31 ≡ true = le-leb (length (b ∷ w)) 31 h.short in
    let free : not (is_reserved (b ∷ w)) ≡ true = not_from_false (is_reserved (b ∷ w)) h.free in
    let named : is_name (b ∷ w) ≡ true =
    and_from (begins_as_identifier (b ∷ w)) _ h.begins (and_from (list_all is_identifier_byte (b ∷ w)) _ h.spelled (and_from (nat_le (length (b ∷ w)) 31) (not (is_reserved (b ∷ w))) short free)) in
    by_name d (b ∷ w) (list_all is_identifier_byte (b ∷ w)) (begins_as_identifier (b ∷ w)) (is_name (b ∷ w)) (if is_some (word_scalar (b ∷ w)) then scalar_word else place_in 1 keywords_used (b ∷ w)) (if is_some (word_number (b ∷ w)) then number_word else other) h.spelled h.begins named
  where
    by_name : (d : ℕ) (w : List ℕ) (whole begins named : Bool) (j k : ℕ) → whole ≡ true → begins ≡ true → named ≡ true
        → cond (nat_eq name_word (if whole then (if begins then (if named then name_word else j) else k) else other)) (if named then Some w else None) None ≡ Some w
    by_name d w whole begins named j k a b c = rw (a, b, c) refl

-- ---- types

pub scalar_piece : (d : ℕ) (s : CScalar) → of_kind lexicon d scalar_word scalar_of (Word (scalar_text s)) ≡ Some s
scalar_piece d Truth = refl
scalar_piece d (Int U8) = refl
scalar_piece d (Int U16) = refl
scalar_piece d (Int U32) = refl
scalar_piece d (Int U64) = refl
scalar_piece d (Int I8) = refl
scalar_piece d (Int I16) = refl
scalar_piece d (Int I32) = refl
scalar_piece d (Int I64) = refl

-- ---- numbers

tells : IsDigitsTest (λ ds. list_all is_digit ds ≡ true)
tells = record {
  empty = refl;
  parts = λ c cs e. let k = and_parts (is_digit c) (list_all is_digit cs) e in let m = and_parts (nat_le 48 c) (nat_le c 57) k.0 in ((leb-true 48 c m.0, leb-true c 57 m.1), k.1);
  more = λ c cs k e. and_from (is_digit c) (list_all is_digit cs) (and_from (nat_le 48 c) (nat_le c 57) (le-leb 48 c k.0) (le-leb c 57 k.1)) e;
}

pub numerals : IsNumeralModel (λ ds. list_all is_digit ds ≡ true) (value_behind 0)
numerals = numerals_by_fold (λ ds. list_all is_digit ds ≡ true) tells value_behind record { empty = λ n. refl; more = λ n c cs k. refl }

digits_end : (s : Suffix) → digits (suffix_text s) ≡ []
digits_end Plain = refl
digits_end U = refl
digits_end Ll = refl
digits_end Ull = refl

behind_end : (s : Suffix) → behind_digits (suffix_text s) ≡ suffix_text s
behind_end Plain = refl
behind_end U = refl
behind_end Ll = refl
behind_end Ull = refl

suffix_known : (s : Suffix) → suffix_of (suffix_text s) ≡ Some s
suffix_known Plain = refl
suffix_known U = refl
suffix_known Ll = refl
suffix_known Ull = refl

suffix_whole : (s : Suffix) → list_all is_identifier_byte (suffix_text s) ≡ true
suffix_whole Plain = refl
suffix_whole U = refl
suffix_whole Ll = refl
suffix_whole Ull = refl

digits_of : (ds t : List ℕ) → list_all is_digit ds ≡ true → digits t ≡ [] → digits (ds ++ t) ≡ ds
digits_of [] t all e = e ∙ refl
digits_of (b ∷ ds) t all e =
    let parts = and_parts (is_digit b) (list_all is_digit ds) all in
    rw (parts.0) (ap (λ x. b ∷ x) (digits_of ds t parts.1 e))

rest_of : (ds t : List ℕ) → list_all is_digit ds ≡ true → behind_digits t ≡ t → behind_digits (ds ++ t) ≡ t
rest_of [] t all e = e
rest_of (b ∷ ds) t all e =
    let parts = and_parts (is_digit b) (list_all is_digit ds) all in
    rw (parts.0) (rest_of ds t parts.1 e)

digit_is_identifier : (b : ℕ) → is_digit b ≡ true → is_identifier_byte b ≡ true
digit_is_identifier b e = or_second (is_letter b) (is_digit b) e
  where
    or_second : (x y : Bool) → y ≡ true → (x || y) ≡ true
    or_second true y e = refl
    or_second false y e = e

digit_no_letter : (b : ℕ) → is_digit b ≡ true → is_letter b ≡ false
digit_no_letter b e =
    let m = and_parts (nat_le 48 b) (nat_le b 57) e in
    let low = leb-true 48 b m.0 in
    let high = leb-true b 57 m.1 in
    let upper : nat_le 65 b ≡ false = lt-leb 65 b (omega (arith, high)) in
    let lower : nat_le 97 b ≡ false = lt-leb 97 b (omega (arith, high)) in
    let under : (b == 95) ≡ false = ne_eqb b 95 (λ e. omega (arith, high)) in
    rw (upper, lower, under) refl

all_identifier : (ds : List ℕ) → list_all is_digit ds ≡ true → list_all is_identifier_byte ds ≡ true
all_identifier [] e = refl
all_identifier (b ∷ ds) e =
    let parts = and_parts (is_digit b) (list_all is_digit ds) e in
    and_from (is_identifier_byte b) (list_all is_identifier_byte ds) (digit_is_identifier b parts.0) (all_identifier ds parts.1)

decimal_plain : (n : ℕ) → n < 2 ^ 64 → is_plain (decimal n) ≡ true
decimal_plain zero small = subst (λ w. is_plain w ≡ true) (sym (decimal_digit 0 (omega arith))) refl
decimal_plain (suc n) small = plain_first (decimal (suc n)) (first_decimal (suc n) (omega arith) small)
  where
    plain_first : (ds : List ℕ) → 48 < get_or ds 0 0 → is_plain ds ≡ true
    plain_first [] lead = absurd (omega arith)
    plain_first (b ∷ []) lead = refl
    plain_first (b ∷ c ∷ ds) lead = not_from_false (b == 48) (ne_eqb b 48 (λ e. omega arith))

word_number_of : (n : ℕ) (s : Suffix) → n < 2 ^ 64 → word_number (decimal n ++ suffix_text s) ≡ Some (n, s)
word_number_of n s small =
    let all : list_all is_digit (decimal n) ≡ true = digits_decimal numerals n small in
    let value : value_behind 0 (decimal n) ≡ n = digits_value-decimal numerals n small in
    let front : digits (decimal n ++ suffix_text s) ≡ decimal n = digits_of (decimal n) (suffix_text s) all (digits_end s) in
    let rest : behind_digits (decimal n ++ suffix_text s) ≡ suffix_text s = rest_of (decimal n) (suffix_text s) all (behind_end s) in
    let low : nat_lt n (2 ^ 64) ≡ true = lt-ltb n (2 ^ 64) small in
    rw (front, rest, value, decimal_plain n small, low, suffix_known s) refl

number_at : (d : ℕ) (w : List ℕ) (n : ℕ) (s : Suffix) → word_number w ≡ Some (n, s) → is_whole (Word w) ≡ true → begins_as_identifier w ≡ false → of_kind lexicon d number_word number_of (Word w) ≡ Some (n, s)
number_at d w n s e whole begins = rw (whole, begins, e) refl

first_digit : (ds t : List ℕ) → list_all is_digit ds ≡ true → 0 < length ds → begins_as_identifier (ds ++ t) ≡ false
first_digit [] t all some = absurd (omega arith)
first_digit (b ∷ ds) t all some = digit_no_letter b (and_parts (is_digit b) (list_all is_digit ds) all).0

whole_digits : (ds t : List ℕ) → list_all is_digit ds ≡ true → 0 < length ds → list_all is_identifier_byte t ≡ true → is_whole (Word (ds ++ t)) ≡ true
whole_digits [] t all some rest = absurd (omega arith)
whole_digits (b ∷ ds) t all some rest = list_all-append is_identifier_byte (b ∷ ds) t ∙ and_from (list_all is_identifier_byte (b ∷ ds)) (list_all is_identifier_byte t) (all_identifier (b ∷ ds) all) rest

pub number_piece : (d n : ℕ) (s : Suffix) → n < 2 ^ 64 → of_kind lexicon d number_word number_of (Word (decimal n ++ suffix_text s)) ≡ Some (n, s)
number_piece d n s small =
    let all : list_all is_digit (decimal n) ≡ true = digits_decimal numerals n small in
    number_at d (decimal n ++ suffix_text s) n s (word_number_of n s small) (whole_digits (decimal n) (suffix_text s) all (decimal_nonempty n small) (suffix_whole s)) (first_digit (decimal n) (suffix_text s) all (decimal_nonempty n small))

pub length_piece : (d n : ℕ) → n < 2 ^ 32 → of_kind lexicon d number_word length_of (Word (decimal n)) ≡ Some n
length_piece d n small =
    let wide : n < 2 ^ 64 = omega arith in
    let all : list_all is_digit (decimal n) ≡ true = digits_decimal numerals n wide in
    let none : decimal n ++ [] ≡ decimal n = append_nil (decimal n) in
    let value : word_number (decimal n) ≡ Some (n, Plain) = subst (λ w. word_number w ≡ Some (n, Plain)) none (word_number_of n Plain wide) in
    let whole : is_whole (Word (decimal n)) ≡ true = subst (λ w. is_whole (Word w) ≡ true) none (whole_digits (decimal n) [] all (decimal_nonempty n wide) refl) in
    let begins : begins_as_identifier (decimal n) ≡ false = subst (λ w. begins_as_identifier w ≡ false) none (first_digit (decimal n) [] all (decimal_nonempty n wide)) in
    rw (whole, begins, value, lt-ltb n (2 ^ 32) small) refl

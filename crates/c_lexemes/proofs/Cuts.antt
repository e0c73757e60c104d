-- The next piece of some bytes, by the first of them.
use Rattle.std.proofs.Common.{◌≡◌, ℕ, zero, suc, ◌+◌, ◌≤◌, Bool, true, false, cond, not, List, [], ◌∷◌, length, take, drop, refl, sym, ap, ◌∙◌, arith, if◌then◌else◌}
use Rattle.std.specs.Prelude.{◌==◌, ◌&&◌, nat_eq}
use Rattle.std.specs.List.{prefix_len, list_all}
use Rattle.std.proofs.lemmas.Bool.{eqb-true, and_parts, and_from, eq-eqb}
use Rattle.c_text.specs.Identifiers.{is_identifier_byte}
use Rattle.c_grammar.specs.Pieces.{Piece, Word, Blanks, Byte, lengthened, widened, pieces}
use Rattle.c_lexemes.specs.Levels.{is_mark}
use Rattle.c_lexemes.specs.Scanned.{is_blank, WordFirst, no_word, BlanksFirst, no_blanks}

-- ---- by what the first byte is

abbrev cut : ℕ → List Piece → Bool → Bool → List Piece
cut b ps word blank = if word then lengthened b ps else (if blank then widened ps else Byte b ∷ ps)

pub mark_cut : (b : ℕ) (bs : List ℕ) → is_mark b ≡ true → pieces (b ∷ bs) ≡ Byte b ∷ pieces bs
mark_cut b bs e = at (is_identifier_byte b) (b == 32) e
  where
    at : (word blank : Bool) → (not word && not blank) ≡ true → cut b (pieces bs) word blank ≡ Byte b ∷ pieces bs
    at true blank e = cc
    at false true e = cc
    at false false e = refl

-- where the first piece is a byte, it is the first byte
byte_in : (b c : ℕ) (ps qs : List Piece) (word blank : Bool) → cut c ps word blank ≡ Byte b ∷ qs → c ≡ b
byte_in b c [] qs true blank e = cc
byte_in b c (Word w ∷ ps) qs true blank e = cc
byte_in b c (Blanks n ∷ ps) qs true blank e = cc
byte_in b c (Byte x ∷ ps) qs true blank e = cc
byte_in b c [] qs false true e = cc
byte_in b c (Word w ∷ ps) qs false true e = cc
byte_in b c (Blanks n ∷ ps) qs false true e = cc
byte_in b c (Byte x ∷ ps) qs false true e = cc
byte_in b c ps qs false false e = cc

pub first_byte : (b c : ℕ) (bs : List ℕ) (qs : List Piece) → pieces (c ∷ bs) ≡ Byte b ∷ qs → c ≡ b
first_byte b c bs qs e = byte_in b c (pieces bs) qs (is_identifier_byte c) (c == 32) e

lengthened_no_word : (b : ℕ) (ps : List Piece) → no_word ps ≡ true → lengthened b ps ≡ Word (b ∷ []) ∷ ps
lengthened_no_word b [] e = refl
lengthened_no_word b (Word w ∷ ps) e = cc
lengthened_no_word b (Blanks n ∷ ps) e = refl
lengthened_no_word b (Byte c ∷ ps) e = refl

widened_no_word : (ps : List Piece) → no_word (widened ps) ≡ true
widened_no_word [] = refl
widened_no_word (Word w ∷ ps) = refl
widened_no_word (Blanks n ∷ ps) = refl
widened_no_word (Byte c ∷ ps) = refl

lengthened_no_blanks : (b : ℕ) (ps : List Piece) → no_blanks (lengthened b ps) ≡ true
lengthened_no_blanks b [] = refl
lengthened_no_blanks b (Word w ∷ ps) = refl
lengthened_no_blanks b (Blanks n ∷ ps) = refl
lengthened_no_blanks b (Byte c ∷ ps) = refl

widened_no_blanks : (ps : List Piece) → no_blanks ps ≡ true → widened ps ≡ Blanks 1 ∷ ps
widened_no_blanks [] e = refl
widened_no_blanks (Word w ∷ ps) e = refl
widened_no_blanks (Blanks n ∷ ps) e = cc
widened_no_blanks (Byte c ∷ ps) e = refl

one_more : (n : ℕ) → 1 + n ≡ suc n
one_more n = omega arith

-- ---- words

no_word_at : (b : ℕ) (bs : List ℕ) (word : Bool) → is_identifier_byte b ≡ word → cond word (1 + prefix_len is_identifier_byte bs) 0 ≡ 0 → no_word (cut b (pieces bs) word (b == 32)) ≡ true
no_word_at b bs true e h = absurd (omega (arith, h))
no_word_at b bs false e h = at (b == 32)
  where
    at : (blank : Bool) → no_word (if blank then widened (pieces bs) else Byte b ∷ pieces bs) ≡ true
    at true = widened_no_word (pieces bs)
    at false = refl

pub no_word_first : (bytes : List ℕ) → prefix_len is_identifier_byte bytes ≡ 0 → no_word (pieces bytes) ≡ true
no_word_first [] h = refl
no_word_first (b ∷ bs) h = no_word_at b bs (is_identifier_byte b) refl h

abbrev IsRun : (ℕ → Bool) → List ℕ → ℕ → Type 0
IsRun p bytes n = list_all p (take n bytes) ≡ true

pub run_passes : (p : ℕ → Bool) (bs : List ℕ) → list_all p (take (prefix_len p bs) bs) ≡ true
run_passes p [] = refl
run_passes p (b ∷ bs) = at (p b) refl (run_passes p bs)
  where
    at : (t : Bool) → p b ≡ t → list_all p (take (prefix_len p bs) bs) ≡ true → list_all p (take (cond t (1 + prefix_len p bs) 0) (b ∷ bs)) ≡ true
    at true e ih = ap (λ n. list_all p (take n (b ∷ bs))) (one_more (prefix_len p bs)) ∙ and_from (p b) (list_all p (take (prefix_len p bs) bs)) e ih
    at false e ih = refl

-- behind the first byte
word_behind : (b : ℕ) (bs : List ℕ) (n : ℕ) → prefix_len is_identifier_byte bs ≡ n → lengthened b (pieces bs) ≡ Word (b ∷ take n bs) ∷ pieces (drop n bs)
word_behind b bs zero e = lengthened_no_word b (pieces bs) (no_word_first bs e)
word_behind b [] (suc n) e = cc
word_behind b (c ∷ cs) (suc n) e = at (is_identifier_byte c) e (λ h. word_behind c cs n h)
  where
    at : (word : Bool) → cond word (1 + prefix_len is_identifier_byte cs) 0 ≡ suc n → (prefix_len is_identifier_byte cs ≡ n → lengthened c (pieces cs) ≡ Word (c ∷ take n cs) ∷ pieces (drop n cs))
        → lengthened b (cut c (pieces cs) word (c == 32)) ≡ Word (b ∷ c ∷ take n cs) ∷ pieces (drop n cs)
    at true h ih = ap (lengthened b) (ih (omega (arith, h)))
    at false h ih = absurd (omega (arith, h))

pub word_first : (bytes : List ℕ) (n : ℕ) → prefix_len is_identifier_byte bytes ≡ n → (n ≡ 0 → ⊥) → WordFirst bytes (take n bytes) (drop n bytes)
word_first bytes zero e h = absurd (h refl)
word_first [] (suc n) e h = cc
word_first (b ∷ bs) (suc n) e h = at (is_identifier_byte b) refl e
  where
    at : (word : Bool) → is_identifier_byte b ≡ word → cond word (1 + prefix_len is_identifier_byte bs) 0 ≡ suc n → WordFirst (b ∷ bs) (b ∷ take n bs) (drop n bs)
    at true i h =
        let rest : prefix_len is_identifier_byte bs ≡ n = omega (arith, h) in
        record {
          cut = ap (λ w. cut b (pieces bs) w (b == 32)) i ∙ word_behind b bs n rest;
          spelled = and_from (is_identifier_byte b) (list_all is_identifier_byte (take n bs)) i (ap (λ k. list_all is_identifier_byte (take k bs)) (sym rest) ∙ run_passes is_identifier_byte bs);
          some = λ e. cc;
        }
    at false i h = absurd (omega (arith, h))

-- ---- blanks

no_blanks_at : (b : ℕ) (bs : List ℕ) (blank : Bool) → (b == 32) ≡ blank → cond blank (1 + prefix_len is_blank bs) 0 ≡ 0 → no_blanks (cut b (pieces bs) (is_identifier_byte b) blank) ≡ true
no_blanks_at b bs true e h = absurd (omega (arith, h))
no_blanks_at b bs false e h = at (is_identifier_byte b)
  where
    at : (word : Bool) → no_blanks (if word then lengthened b (pieces bs) else Byte b ∷ pieces bs) ≡ true
    at true = lengthened_no_blanks b (pieces bs)
    at false = refl

pub no_blanks_first : (bytes : List ℕ) → prefix_len is_blank bytes ≡ 0 → no_blanks (pieces bytes) ≡ true
no_blanks_first [] h = refl
no_blanks_first (b ∷ bs) h = no_blanks_at b bs (b == 32) refl h

blank_cut : (b : ℕ) (ps : List Piece) → (b == 32) ≡ true → cut b ps (is_identifier_byte b) (b == 32) ≡ widened ps
blank_cut b ps e =
    let same : b ≡ 32 = eqb-true b 32 e in
    ap (λ x. cut x ps (is_identifier_byte x) (x == 32)) same

blanks_behind : (bs : List ℕ) (n : ℕ) → prefix_len is_blank bs ≡ n → widened (pieces bs) ≡ Blanks (suc n) ∷ pieces (drop n bs)
blanks_behind bs zero e = widened_no_blanks (pieces bs) (no_blanks_first bs e)
blanks_behind [] (suc n) e = cc
blanks_behind (c ∷ cs) (suc n) e = at (c == 32) refl e (λ h. blanks_behind cs n h)
  where
    at : (blank : Bool) → (c == 32) ≡ blank → cond blank (1 + prefix_len is_blank cs) 0 ≡ suc n → (prefix_len is_blank cs ≡ n → widened (pieces cs) ≡ Blanks (suc n) ∷ pieces (drop n cs))
        → widened (pieces (c ∷ cs)) ≡ Blanks (suc (suc n)) ∷ pieces (drop n cs)
    at true i h ih = ap widened (blank_cut c (pieces cs) i ∙ ih (omega (arith, h)))
    at false i h ih = absurd (omega (arith, h))

pub blanks_first : (bytes : List ℕ) (n : ℕ) → prefix_len is_blank bytes ≡ n → (n ≡ 0 → ⊥) → BlanksFirst bytes n (drop n bytes)
blanks_first bytes zero e h = absurd (h refl)
blanks_first [] (suc n) e h = cc
blanks_first (b ∷ bs) (suc n) e h = at (b == 32) refl e
  where
    at : (blank : Bool) → (b == 32) ≡ blank → cond blank (1 + prefix_len is_blank bs) 0 ≡ suc n → BlanksFirst (b ∷ bs) (suc n) (drop n bs)
    at true i h = record { cut = blank_cut b (pieces bs) i ∙ blanks_behind bs n (omega (arith, h)); some = λ e. cc }
    at false i h = absurd (omega (arith, h))

-- ---- there are no more pieces than bytes

lengthened_few : (b : ℕ) (ps : List Piece) → length (lengthened b ps) ≤ suc (length ps)
lengthened_few b [] = omega arith
lengthened_few b (Word w ∷ ps) = omega arith
lengthened_few b (Blanks n ∷ ps) = omega arith
lengthened_few b (Byte c ∷ ps) = omega arith

widened_few : (ps : List Piece) → length (widened ps) ≤ suc (length ps)
widened_few [] = omega arith
widened_few (Word w ∷ ps) = omega arith
widened_few (Blanks n ∷ ps) = omega arith
widened_few (Byte c ∷ ps) = omega arith

pub few_pieces : (bytes : List ℕ) → length (pieces bytes) ≤ length bytes
few_pieces [] = omega arith
few_pieces (b ∷ bs) = at (is_identifier_byte b) (b == 32) (few_pieces bs)
  where
    at : (word blank : Bool) → length (pieces bs) ≤ length bs → length (cut b (pieces bs) word blank) ≤ suc (length bs)
    at true blank ih = let few = lengthened_few b (pieces bs) in omega (arith, few)
    at false true ih = let few = widened_few (pieces bs) in omega (arith, few)
    at false false ih = omega arith

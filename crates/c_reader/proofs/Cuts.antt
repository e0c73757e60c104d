-- The pieces of which the faults of a text speak are those that the grammar reads.
use Rattle.std.proofs.Common.{◌≡◌, ℕ, zero, suc, Bool, true, false, not, List, [], ◌∷◌, ◌++◌, map, length, replicate, refl, sym, ap, ◌∙◌, append_assoc, if◌then◌else◌, arith}
use Rattle.std.specs.Prelude.{◌==◌, ◌&&◌, ◌||◌}
use Rattle.std.specs.List.{list_all}
use Rattle.std.proofs.lemmas.Bool.{eqb-true, and_parts, and_from, not_from_false, not-true}
use Rattle.std.proofs.lemmas.Bool.Decides.{nat_tests}
use Rattle.std.proofs.lemmas.List.{length-replicate}
use Rattle.c_text.specs.Identifiers.{is_identifier_byte}
use Rattle.c_text.specs.TypeText.{texts}
use Rattle.c_text.specs.Faults as text
use Rattle.c_text.specs.Faults.{is_one_piece, before_pieces}
use Rattle.c_grammar.specs.Pieces.{Piece, Word, Blanks, Byte, piece_text, joined, lengthened, widened, pieces}
use Rattle.c_grammar.specs.Kinds.{is_whole}

-- ---- a whole piece is told by its bytes

abbrev pub piece_of : List ℕ → Piece
piece_of [] = Byte 0
piece_of (b ∷ bs) = if is_identifier_byte b then Word (b ∷ bs) else (if b == 32 then Blanks (length (b ∷ bs)) else Byte b)

by_tests : (b : ℕ) (w : List ℕ) (letter blank : Bool) → is_identifier_byte b ≡ letter → (b == 32) ≡ blank → piece_of (b ∷ w) ≡ (if letter then Word (b ∷ w) else (if blank then Blanks (length (b ∷ w)) else Byte b))
by_tests b w letter blank e f =
    ap (λ x. if x then Word (b ∷ w) else (if b == 32 then Blanks (length (b ∷ w)) else Byte b)) e ∙ ap (λ x. if letter then Word (b ∷ w) else (if x then Blanks (length (b ∷ w)) else Byte b)) f

pub piece_again : (p : Piece) → is_whole p ≡ true → piece_of (piece_text p) ≡ p
piece_again (Word []) whole = cc
piece_again (Word (b ∷ w)) whole = by_tests b w true (b == 32) (and_parts (is_identifier_byte b) (list_all is_identifier_byte w) whole).0 refl
piece_again (Blanks zero) whole = cc
piece_again (Blanks (suc n)) whole = ap (λ k. Blanks (suc k)) (length-replicate n 32)
piece_again (Byte b) whole =
    let parts = and_parts (not (is_identifier_byte b)) (not (b == 32)) whole in
    by_tests b [] false false (not-true (is_identifier_byte b) parts.0) (not-true (b == 32) parts.1)

pub whole_has_bytes : (p : Piece) → is_whole p ≡ true → (b : ℕ) × (bs : List ℕ) × (piece_text p ≡ b ∷ bs)
whole_has_bytes (Word []) whole = cc
whole_has_bytes (Word (b ∷ w)) whole = (b, w, refl)
whole_has_bytes (Blanks zero) whole = cc
whole_has_bytes (Blanks (suc n)) whole = (32, replicate n 32, refl)
whole_has_bytes (Byte b) whole = (b, [], refl)

-- ---- all pieces of a text are whole

abbrev pub AllWhole : List Piece → Type 0
AllWhole [] = Unit {0}
AllWhole (p ∷ ps) = (is_whole p ≡ true) × AllWhole ps

byte_whole : (b : ℕ) → is_identifier_byte b ≡ false → (b == 32) ≡ false → is_whole (Byte b) ≡ true
byte_whole b letter blank = and_from (not (is_identifier_byte b)) (not (b == 32)) (not_from_false (is_identifier_byte b) letter) (not_from_false (b == 32) blank)

letter_whole : (b : ℕ) → is_identifier_byte b ≡ true → is_whole (Word (b ∷ [])) ≡ true
letter_whole b letter = and_from (is_identifier_byte b) true letter refl

longer_whole : (b : ℕ) (w : List ℕ) → is_identifier_byte b ≡ true → is_whole (Word w) ≡ true → is_whole (Word (b ∷ w)) ≡ true
longer_whole b [] letter whole = cc
longer_whole b (c ∷ w) letter whole = and_from (is_identifier_byte b) (list_all is_identifier_byte (c ∷ w)) letter whole

lengthened_whole : (b : ℕ) (ps : List Piece) → is_identifier_byte b ≡ true → AllWhole ps → AllWhole (lengthened b ps)
lengthened_whole b [] letter all = (letter_whole b letter, tt)
lengthened_whole b (Word w ∷ ps) letter all = (longer_whole b w letter all.0, all.1)
lengthened_whole b (Blanks n ∷ ps) letter all = (letter_whole b letter, all)
lengthened_whole b (Byte c ∷ ps) letter all = (letter_whole b letter, all)

widened_whole : (ps : List Piece) → AllWhole ps → AllWhole (widened ps)
widened_whole [] all = (refl, tt)
widened_whole (Word w ∷ ps) all = (refl, all)
widened_whole (Blanks n ∷ ps) all = (refl, all.1)
widened_whole (Byte c ∷ ps) all = (refl, all)

one_more_whole : (b : ℕ) (ps : List Piece) (letter blank : Bool) → is_identifier_byte b ≡ letter → (b == 32) ≡ blank → AllWhole ps → AllWhole (if letter then lengthened b ps else (if blank then widened ps else Byte b ∷ ps))
one_more_whole b ps true blank e f all = lengthened_whole b ps e all
one_more_whole b ps false true e f all = widened_whole ps all
one_more_whole b ps false false e f all = (byte_whole b e f, all)

pub pieces_whole : (bytes : List ℕ) → AllWhole (pieces bytes)
pieces_whole [] = tt
pieces_whole (b ∷ bs) = one_more_whole b (pieces bs) (is_identifier_byte b) (b == 32) refl refl (pieces_whole bs)

pub whole_front : (ps qs : List Piece) → AllWhole (ps ++ qs) → AllWhole ps
whole_front [] qs all = tt
whole_front (p ∷ ps) qs all = (all.0, whole_front ps qs all.1)

pub whole_back : (ps qs : List Piece) → AllWhole (ps ++ qs) → AllWhole qs
whole_back [] qs all = all
whole_back (p ∷ ps) qs all = whole_back ps qs all.1

pub all_again : (ps : List Piece) → AllWhole ps → map piece_of (map piece_text ps) ≡ ps
all_again [] all = refl
all_again (p ∷ ps) all = ap (λ q. q ∷ map piece_of (map piece_text ps)) (piece_again p all.0) ∙ ap (λ qs. p ∷ qs) (all_again ps all.1)

-- ---- both cuts are one

one_by : (b c : ℕ) (i j k l : Bool) → is_identifier_byte b ≡ i → is_identifier_byte c ≡ j → (b == 32) ≡ k → (c == 32) ≡ l → is_one_piece b c ≡ ((i && j) || (k && l))
one_by b c i j k l e f g h =
    ap (λ x. (x && is_identifier_byte c) || ((b == 32) && (c == 32))) e ∙ ap (λ x. (i && x) || ((b == 32) && (c == 32))) f ∙ ap (λ x. (i && j) || (x && (c == 32))) g ∙ ap (λ x. (i && j) || (k && x)) h

no_blank : (b : ℕ) → is_identifier_byte b ≡ true → (b == 32) ≡ false
no_blank b letter = grind (arith, nat_tests)

behind : ℕ → ℕ → List ℕ → List (List ℕ) → Bool → List (List ℕ)
behind b c bs ps one = if one then (b ∷ c ∷ bs) ∷ ps else (b ∷ []) ∷ (c ∷ bs) ∷ ps

-- a byte before a word, before blanks, and before another byte
before_word : (b c : ℕ) (w : List ℕ) (ps : List (List ℕ)) (letter : Bool) → is_identifier_byte b ≡ letter → is_identifier_byte c ≡ true
    → before_pieces b ((c ∷ w) ∷ ps) ≡ (if letter then (b ∷ c ∷ w) ∷ ps else (b ∷ []) ∷ (c ∷ w) ∷ ps)
unfolding behind
before_word b c w ps true e f = ap (behind b c w ps) (one_by b c true true false false e f (no_blank b e) (no_blank c f))
before_word b c w ps false e f = ap (behind b c w ps) (one_by b c false true (b == 32) false e f refl (no_blank c f) ∙ never (b == 32))
  where
    never : (x : Bool) → (x && false) ≡ false
    never true = refl
    never false = refl

before_blanks : (b : ℕ) (w : List ℕ) (ps : List (List ℕ)) (letter blank : Bool) → is_identifier_byte b ≡ letter → (b == 32) ≡ blank
    → before_pieces b ((32 ∷ w) ∷ ps) ≡ (if letter then (b ∷ []) ∷ (32 ∷ w) ∷ ps else (if blank then (b ∷ 32 ∷ w) ∷ ps else (b ∷ []) ∷ (32 ∷ w) ∷ ps))
unfolding behind
before_blanks b w ps true blank e f = ap (behind b 32 w ps) (one_by b 32 true false false true e refl (no_blank b e) refl)
before_blanks b w ps false true e f = ap (behind b 32 w ps) (one_by b 32 false false true true e refl f refl)
before_blanks b w ps false false e f = ap (behind b 32 w ps) (one_by b 32 false false false true e refl f refl)

before_byte : (b c : ℕ) (w : List ℕ) (ps : List (List ℕ)) → is_identifier_byte c ≡ false → (c == 32) ≡ false → before_pieces b ((c ∷ w) ∷ ps) ≡ (b ∷ []) ∷ (c ∷ w) ∷ ps
unfolding behind
before_byte b c w ps e f = ap (behind b c w ps) (one_by b c (is_identifier_byte b) false (b == 32) false refl e refl f ∙ never (is_identifier_byte b) (b == 32))
  where
    never : (x y : Bool) → ((x && false) || (y && false)) ≡ false
    never true true = refl
    never true false = refl
    never false true = refl
    never false false = refl

abbrev grown : ℕ → List Piece → Bool → Bool → List Piece
grown b ps letter blank = if letter then lengthened b ps else (if blank then widened ps else Byte b ∷ ps)

blank_is : (b : ℕ) → (b == 32) ≡ true → 32 ≡ b
blank_is b e = sym (eqb-true b 32 e)

one_more : (b : ℕ) (ps : List Piece) (letter blank : Bool) → is_identifier_byte b ≡ letter → (b == 32) ≡ blank → AllWhole ps → map piece_text (grown b ps letter blank) ≡ before_pieces b (map piece_text ps)
one_more b [] true blank e f all = refl
one_more b [] false true e f all = ap (λ x. (x ∷ []) ∷ []) (blank_is b f)
one_more b [] false false e f all = refl
one_more b (Word [] ∷ ps) letter blank e f all = cc (all.0)
one_more b (Word (c ∷ w) ∷ ps) true blank e f all = sym (before_word b c w (map piece_text ps) true e (and_parts (is_identifier_byte c) (list_all is_identifier_byte w) all.0).0)
one_more b (Word (c ∷ w) ∷ ps) false true e f all =
    ap (λ x. (x ∷ []) ∷ (c ∷ w) ∷ map piece_text ps) (blank_is b f) ∙ sym (before_word b c w (map piece_text ps) false e (and_parts (is_identifier_byte c) (list_all is_identifier_byte w) all.0).0)
one_more b (Word (c ∷ w) ∷ ps) false false e f all = sym (before_word b c w (map piece_text ps) false e (and_parts (is_identifier_byte c) (list_all is_identifier_byte w) all.0).0)
one_more b (Blanks zero ∷ ps) letter blank e f all = cc (all.0)
one_more b (Blanks (suc n) ∷ ps) true blank e f all = sym (before_blanks b (replicate n 32) (map piece_text ps) true blank e f)
one_more b (Blanks (suc n) ∷ ps) false true e f all = ap (λ x. (x ∷ 32 ∷ replicate n 32) ∷ map piece_text ps) (blank_is b f) ∙ sym (before_blanks b (replicate n 32) (map piece_text ps) false true e f)
one_more b (Blanks (suc n) ∷ ps) false false e f all = sym (before_blanks b (replicate n 32) (map piece_text ps) false false e f)
one_more b (Byte c ∷ ps) letter blank e f all =
    let parts = and_parts (not (is_identifier_byte c)) (not (c == 32)) all.0 in
    first letter blank f ∙ sym (before_byte b c [] (map piece_text ps) (not-true (is_identifier_byte c) parts.0) (not-true (c == 32) parts.1))
  where
    first : (letter blank : Bool) → (b == 32) ≡ blank → map piece_text (grown b (Byte c ∷ ps) letter blank) ≡ (b ∷ []) ∷ (c ∷ []) ∷ map piece_text ps
    first true blank f = refl
    first false true f = ap (λ x. (x ∷ []) ∷ (c ∷ []) ∷ map piece_text ps) (blank_is b f)
    first false false f = refl

-- the pieces of the faults are the texts of those of the grammar
pub cuts_are : (bytes : List ℕ) → map piece_text (pieces bytes) ≡ text.pieces bytes
cuts_are [] = refl
cuts_are (b ∷ bs) = one_more b (pieces bs) (is_identifier_byte b) (b == 32) refl refl (pieces_whole bs) ∙ ap (before_pieces b) (cuts_are bs)

-- and these are made of them again
pub pieces_are : (bytes : List ℕ) → pieces bytes ≡ map piece_of (text.pieces bytes)
pieces_are bytes = sym (all_again (pieces bytes) (pieces_whole bytes)) ∙ ap (map piece_of) (cuts_are bytes)

pub joined_texts : (ps : List Piece) → joined ps ≡ texts (map piece_text ps)
joined_texts [] = refl
joined_texts (p ∷ ps) = ap (λ t. piece_text p ++ t) (joined_texts ps)

pub pieces_appended : (ps qs : List Piece) → joined (ps ++ qs) ≡ joined ps ++ joined qs
pieces_appended [] qs = refl
pieces_appended (p ∷ ps) qs = ap (λ t. piece_text p ++ t) (pieces_appended ps qs) ∙ sym (append_assoc (piece_text p) (joined ps) (joined qs))

pub same_front : {A : Type 0} (f : A → A) (xs ys : List A) → map f (xs ++ ys) ≡ xs ++ ys → map f xs ≡ xs
same_front f [] ys e = refl
same_front f (x ∷ xs) ys e =
    let head : f x ≡ x = cc in
    let rest : map f (xs ++ ys) ≡ xs ++ ys = cc in
    ap (λ y. y ∷ map f xs) head ∙ ap (λ zs. x ∷ zs) (same_front f xs ys rest)

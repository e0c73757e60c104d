-- Cutting a text into pieces, and joining them again.
use Rattle.std.proofs.Common.{◌≡◌, ℕ, zero, suc, Bool, true, false, not, List, [], ◌∷◌, ◌++◌, replicate, refl, sym, ap, ◌∙◌, if◌then◌else◌}
use Rattle.std.specs.Prelude.{◌==◌}
use Rattle.std.specs.List.{list_all}
use Rattle.std.proofs.lemmas.Bool.{eqb-true, and_parts}
use Rattle.c_text.specs.Identifiers.{is_identifier_byte}
use Rattle.reading.specs.Row.{Entry, Row, tokens}
use Rattle.grammars.specs.Neighbours.{SideBySide}
use Rattle.c_grammar.specs.Pieces.{Piece, Word, Blanks, Byte, piece_text, joined, lengthened, widened, pieces}
use Rattle.c_grammar.specs.Kinds.{is_whole, runs_on}

lengthened_joined : (b : ℕ) (ps : List Piece) → joined (lengthened b ps) ≡ b ∷ joined ps
lengthened_joined b [] = refl
lengthened_joined b (Word w ∷ ps) = refl
lengthened_joined b (Blanks n ∷ ps) = refl
lengthened_joined b (Byte c ∷ ps) = refl

widened_joined : (ps : List Piece) → joined (widened ps) ≡ 32 ∷ joined ps
widened_joined [] = refl
widened_joined (Word w ∷ ps) = refl
widened_joined (Blanks n ∷ ps) = refl
widened_joined (Byte c ∷ ps) = refl

one_more : (b : ℕ) (ps : List Piece) (word blank : Bool) → (b == 32) ≡ blank → joined (if word then lengthened b ps else (if blank then widened ps else Byte b ∷ ps)) ≡ b ∷ joined ps
one_more b ps true blank e = lengthened_joined b ps
one_more b ps false true e = widened_joined ps ∙ ap (λ c. c ∷ joined ps) (sym (eqb-true b 32 e))
one_more b ps false false e = refl

pub pieces_joined : (text : List ℕ) → joined (pieces text) ≡ text
pieces_joined [] = refl
pieces_joined (b ∷ bs) = one_more b (pieces bs) (is_identifier_byte b) (b == 32) refl ∙ ap (λ t. b ∷ t) (pieces_joined bs)

-- ---- back

-- both are whole, and none runs on into the other
pub record Apart (p q : Piece) : Type 0 where
  pub one : is_whole p ≡ true
  pub two : is_whole q ≡ true
  pub stops : runs_on p q ≡ false

-- the first of these, if there is one, is apart from the piece
abbrev Follows : Piece → List Piece → Type 0
Follows p [] = Unit {0}
Follows p (q ∷ ps) = runs_on p q ≡ false

any_word : (v w : List ℕ) (ps : List Piece) → Follows (Word v) ps → Follows (Word w) ps
any_word v w [] f = tt
any_word v w (Word x ∷ ps) f = cc
any_word v w (Blanks n ∷ ps) f = refl
any_word v w (Byte x ∷ ps) f = refl

any_blanks : (m n : ℕ) (ps : List Piece) → Follows (Blanks m) ps → Follows (Blanks n) ps
any_blanks m n [] f = tt
any_blanks m n (Word x ∷ ps) f = refl
any_blanks m n (Blanks k ∷ ps) f = cc
any_blanks m n (Byte x ∷ ps) f = refl

one_byte : (b : ℕ) (ps : List Piece) → Follows (Word (b ∷ [])) ps → lengthened b ps ≡ Word (b ∷ []) ∷ ps
one_byte b [] f = refl
one_byte b (Word w ∷ ps) f = cc
one_byte b (Blanks n ∷ ps) f = refl
one_byte b (Byte c ∷ ps) f = refl

one_blank : (ps : List Piece) → Follows (Blanks 1) ps → widened ps ≡ Blanks 1 ∷ ps
one_blank [] f = refl
one_blank (Word w ∷ ps) f = refl
one_blank (Blanks n ∷ ps) f = cc
one_blank (Byte c ∷ ps) f = refl

word_cut : (b : ℕ) (w : List ℕ) (t : List ℕ) (ps : List Piece) → list_all is_identifier_byte (b ∷ w) ≡ true → pieces t ≡ ps → Follows (Word (b ∷ w)) ps → pieces ((b ∷ w) ++ t) ≡ Word (b ∷ w) ∷ ps
word_cut b [] t ps all e f =
    let here = (and_parts (is_identifier_byte b) true all).0 in
    rw (here, e) (one_byte b ps f)
word_cut b (c ∷ w) t ps all e f =
    let parts = and_parts (is_identifier_byte b) (list_all is_identifier_byte (c ∷ w)) all in
    let behind : pieces ((c ∷ w) ++ t) ≡ Word (c ∷ w) ∷ ps = word_cut c w t ps parts.1 e (any_word (b ∷ c ∷ w) (c ∷ w) ps f) in
    cut_at b (pieces ((c ∷ w) ++ t)) (Word (c ∷ w) ∷ ps) parts.0 behind
  where
    cut_at : (b : ℕ) (qs ps : List Piece) → is_identifier_byte b ≡ true → qs ≡ ps → (if is_identifier_byte b then lengthened b qs else (if b == 32 then widened qs else Byte b ∷ qs)) ≡ lengthened b ps
    cut_at b qs ps is e = rw (is, e) refl

blanks_cut : (n : ℕ) (t : List ℕ) (ps : List Piece) → pieces t ≡ ps → Follows (Blanks (suc n)) ps → pieces (replicate (suc n) 32 ++ t) ≡ Blanks (suc n) ∷ ps
blanks_cut zero t ps e f = ap widened e ∙ one_blank ps f
blanks_cut (suc n) t ps e f = ap widened (blanks_cut n t ps e (any_blanks (suc (suc n)) (suc n) ps f))

byte_cut : (b : ℕ) (qs : List Piece) → is_identifier_byte b ≡ false → (b == 32) ≡ false → (if is_identifier_byte b then lengthened b qs else (if b == 32 then widened qs else Byte b ∷ qs)) ≡ Byte b ∷ qs
byte_cut b qs word blank = rw (word, blank) refl

whole_byte : (b : ℕ) → is_whole (Byte b) ≡ true → (is_identifier_byte b ≡ false) × ((b == 32) ≡ false)
whole_byte b e = let parts = and_parts (not (is_identifier_byte b)) (not (b == 32)) e in (is_not (is_identifier_byte b) parts.0, is_not (b == 32) parts.1)
  where
    is_not : (x : Bool) → not x ≡ true → x ≡ false
    is_not true e = cc
    is_not false e = refl

piece_cut : (p : Piece) (t : List ℕ) (ps : List Piece) → is_whole p ≡ true → pieces t ≡ ps → Follows p ps → pieces (piece_text p ++ t) ≡ p ∷ ps
piece_cut (Word []) t ps whole e f = cc
piece_cut (Word (b ∷ w)) t ps whole e f = word_cut b w t ps whole e f
piece_cut (Blanks zero) t ps whole e f = cc
piece_cut (Blanks (suc n)) t ps whole e f = blanks_cut n t ps e f
piece_cut (Byte b) t ps whole e f = let is = whole_byte b whole in byte_cut b (pieces t) is.0 is.1 ∙ ap (λ x. Byte b ∷ x) e

-- pieces that are apart, of which the first is whole, are cut again as they were
pub cut_from : (m : Entry Piece) (row : Row Piece) → is_whole m.token ≡ true → SideBySide Apart (m ∷ row) → pieces (joined (tokens (m ∷ row))) ≡ tokens (m ∷ row)
cut_from m [] whole s = piece_cut m.token [] [] whole refl tt
cut_from m (n ∷ row) whole (here, s) = piece_cut m.token (joined (tokens (n ∷ row))) (tokens (n ∷ row)) whole (cut_from n row here.two s) here.stops

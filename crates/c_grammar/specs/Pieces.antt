-- A text as pieces: runs of letters, digits and underscores, runs of blanks, and single other bytes.
use Rattle.std.specs.Prelude.{ℕ, suc, ◌==◌, if◌then◌else◌, List, [], ◌∷◌, ◌++◌, replicate}
use Rattle.c_text.specs.Identifiers.{is_identifier_byte}

pub data Piece : Type 0 where
  Word : List ℕ → Piece
  Blanks : (count : ℕ) → Piece
  Byte : ℕ → Piece

abbrev pub piece_text : Piece → List ℕ
piece_text (Word w) = w
piece_text (Blanks n) = replicate n 32
piece_text (Byte b) = b ∷ []

abbrev pub joined : List Piece → List ℕ
joined [] = []
joined (p ∷ ps) = piece_text p ++ joined ps

-- one byte more in front
abbrev pub lengthened : ℕ → List Piece → List Piece
lengthened b (Word w ∷ ps) = Word (b ∷ w) ∷ ps
lengthened b [] = Word (b ∷ []) ∷ []
lengthened b (Blanks n ∷ ps) = Word (b ∷ []) ∷ Blanks n ∷ ps
lengthened b (Byte c ∷ ps) = Word (b ∷ []) ∷ Byte c ∷ ps

abbrev pub widened : List Piece → List Piece
widened (Blanks n ∷ ps) = Blanks (suc n) ∷ ps
widened [] = Blanks 1 ∷ []
widened (Word w ∷ ps) = Blanks 1 ∷ Word w ∷ ps
widened (Byte c ∷ ps) = Blanks 1 ∷ Byte c ∷ ps

abbrev pub pieces : List ℕ → List Piece
pieces [] = []
pieces (b ∷ bs) = if is_identifier_byte b then lengthened b (pieces bs) else (if b == 32 then widened (pieces bs) else Byte b ∷ pieces bs)

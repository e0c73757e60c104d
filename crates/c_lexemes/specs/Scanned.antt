-- What the next piece of some bytes is.
use Rattle.std.specs.Prelude.{◌≡◌, ℕ, ◌==◌, Bool, true, false, List, [], ◌∷◌, Option, Some, None, take, drop}
use Rattle.std.specs.List.{prefix_len, list_all}
use Rattle.std.specs.Borrow.{Bor}
use Rattle.c_text.specs.Identifiers.{is_identifier_byte}
use Rattle.c_grammar.specs.Pieces.{Piece, Word, Blanks, Byte, pieces}

abbrev pub is_blank : ℕ → Bool
is_blank b = b == 32

-- a word, and the bytes behind it
pub record WordFirst (bytes word rest : List ℕ) : Type 0 where
  pub cut : pieces bytes ≡ Word word ∷ pieces rest
  pub spelled : list_all is_identifier_byte word ≡ true
  pub some : word ≡ [] → ⊥

abbrev pub no_word : List Piece → Bool
no_word [] = true
no_word (Word w ∷ ps) = false
no_word (Blanks n ∷ ps) = true
no_word (Byte b ∷ ps) = true

abbrev pub IsWord : List ℕ → Option (Bor (List ℕ) × Bor (List ℕ)) → Type 0
IsWord bytes (Some w) = WordFirst bytes w.0.now w.1.now
IsWord bytes None = no_word (pieces bytes) ≡ true

-- so many blanks, and the bytes behind them
pub record BlanksFirst (bytes : List ℕ) (count : ℕ) (rest : List ℕ) : Type 0 where
  pub cut : pieces bytes ≡ Blanks count ∷ pieces rest
  pub some : count ≡ 0 → ⊥

abbrev pub no_blanks : List Piece → Bool
no_blanks [] = true
no_blanks (Word w ∷ ps) = true
no_blanks (Blanks n ∷ ps) = false
no_blanks (Byte b ∷ ps) = true

abbrev pub AreBlanks : List ℕ → Option (ℕ × Bor (List ℕ)) → Type 0
AreBlanks bytes (Some b) = BlanksFirst bytes b.0 b.1.now
AreBlanks bytes None = no_blanks (pieces bytes) ≡ true

-- The longest piece of a text and its length, found by its first bytes. A tool of the proof: what is promised stands in Texts.
use Rattle.std.specs.Prelude.{◌≡◌, ◌≤◌, ◌++◌, Ok, ℕ, ◌+◌, ◌==◌, ◌&&◌, List, [], ◌∷◌, length, take, Option, Some, None, if◌then◌else◌, unwrap_or, filter}
use Rattle.std.specs.List.{prefix_len}
use Rattle.std.specs.Char.{is_ascii_digit, is_ascii_hexdigit}
use Rattle.std.specs.Str.Parse.{digits_value}
use Rattle.ivory_lexer.specs.Table.{is_white, begins_name, is_in_name, is_in_line, first_close, in_range, look_up}
use Rattle.ivory_lexer.specs.Texts.{Longest, gives, token}
use Rattle.ivory_lexer.specs.Words.{symbols}
use Rattle.ivory_lexer.specs.declared.mark.Mark.{Mark}
use Rattle.ivory_lexer.specs.declared.piece.Piece.{Piece}
use Rattle.ivory_lexer.specs.declared.piece.Piece.TheVariants as piece
use Rattle.ivory_lexer.specs.declared.token.Token.{Token}
use Rattle.ivory_lexer.specs.declared.token.TokenKind.{TokenKind}

-- the rows of a table whose texts have this length
abbrev pub of_length : {A : Type 0} → ℕ → List (List ℕ × A) → List (List ℕ × A)
of_length n rows = filter (λ row. length row.0 == n) rows

abbrev pub number_piece : ℕ → List ℕ → Piece
number_piece radix digits = piece.Number (in_range (digits_value radix digits))

abbrev pub scan_decimal : List ℕ → Piece × ℕ
scan_decimal text = (number_piece 10 (take (prefix_len is_ascii_digit text) text), prefix_len is_ascii_digit text)

-- what so many hexadecimal digits make after a `0x`
abbrev pub hex_digits : List ℕ → ℕ → Option (Piece × ℕ)
hex_digits bs n = if n == 0 then None else Some (number_piece 16 (take n bs), n + 2)

abbrev pub scan_hex : List ℕ → Option (Piece × ℕ)
scan_hex [] = None
scan_hex (b ∷ []) = None
scan_hex (b ∷ c ∷ bs) = if 48 == b && 120 == c then hex_digits bs (prefix_len is_ascii_hexdigit bs) else None

abbrev pub scan_block : List ℕ → Option ℕ → Piece × ℕ
scan_block body (Some n) = (piece.Dropped, n + 2)
scan_block body None = (piece.OpenComment, length body + 2)

abbrev pub scan_comment : List ℕ → Option (Piece × ℕ)
scan_comment [] = None
scan_comment (b ∷ []) = None
scan_comment (b ∷ c ∷ bs) =
    if 45 == b && 45 == c then Some (piece.Dropped, prefix_len is_in_line bs + 2)
    else (if 47 == b && 42 == c then Some (scan_block bs (first_close bs)) else None)

abbrev pub one_symbol : Option Mark → Option (Piece × ℕ)
one_symbol None = None
one_symbol (Some mark) = Some (piece.Mark mark, 1)

abbrev pub two_symbols : Option Mark → Option (Piece × ℕ) → Option (Piece × ℕ)
two_symbols None shorter = shorter
two_symbols (Some mark) shorter = Some (piece.Mark mark, 2)

abbrev pub scan_symbol : List ℕ → Option (Piece × ℕ)
scan_symbol [] = None
scan_symbol (b ∷ []) = one_symbol (look_up (of_length 1 symbols) (b ∷ []))
scan_symbol (b ∷ c ∷ bs) = two_symbols (look_up (of_length 2 symbols) (b ∷ c ∷ [])) (one_symbol (look_up (of_length 1 symbols) (b ∷ [])))

abbrev pub or_else : Option (Piece × ℕ) → Option (Piece × ℕ) → Option (Piece × ℕ)
or_else (Some found) other = Some found
or_else None other = other

abbrev pub scan : List ℕ → Option (Piece × ℕ)
scan [] = None
scan (b ∷ bs) =
    if begins_name b then Some (piece.Name, prefix_len is_in_name bs + 1)
    else (if is_white b then Some (piece.Dropped, prefix_len is_white bs + 1)
    else (if is_ascii_digit b then Some (unwrap_or (scan_hex (b ∷ bs)) (scan_decimal (b ∷ bs)))
    else or_else (scan_comment (b ∷ bs)) (scan_symbol (b ∷ bs))))

-- the token that a piece of so many bytes gives, if any
abbrev pub tokens_of_piece : Option TokenKind → ℕ → ℕ → List Token
tokens_of_piece None at n = []
tokens_of_piece (Some k) at n = token at n k ∷ []

-- the first bytes of a text are its longest piece, and the list grew by the piece's token
pub record IsTaken (at : ℕ) (text : List ℕ) (n : ℕ) (before after : List Token) : Type 0 where
  pub p : Piece
  pub k : Option TokenKind
  pub within : n ≤ length text
  pub longest : Longest text (take n text) p
  pub gives_it : gives at (take n text) p ≡ Ok k
  pub grew : after ≡ before ++ tokens_of_piece k at n

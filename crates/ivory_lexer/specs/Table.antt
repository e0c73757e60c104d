-- What may stand in a text: white space, comments, names, numbers and symbols.
-- `piece_of` says which of them a list of bytes is as a whole, if it is one; bytes are numbers, `b == 95` is `_`.
use Rattle.std.specs.Prelude.{ℕ, suc, ◌^◌, ◌==◌, ◌&&◌, ◌||◌, not, nat_lt, Bool, true, false, List, [], ◌∷◌, length, drop, Option, Some, None, is_none, option_map, if◌then◌else◌, bytes_eq, codes}
use Rattle.std.specs.List.{list_all}
use Rattle.std.specs.Char.{is_ascii_alphabetic, is_ascii_digit, is_ascii_hexdigit}
use Rattle.std.specs.Str.Parse.{digits_value}
use Rattle.ivory_lexer.specs.Words.{symbols}
use Rattle.ivory_lexer.specs.declared.piece.Piece.{Piece}
use Rattle.ivory_lexer.specs.declared.piece.Piece.TheVariants as piece

-- tab, line end, carriage return and space
abbrev pub is_white : ℕ → Bool
is_white b = b == 9 || b == 10 || b == 13 || b == 32

-- a letter or `_`
abbrev pub begins_name : ℕ → Bool
begins_name b = is_ascii_alphabetic b || b == 95

-- a letter, a digit or `_`
abbrev pub is_in_name : ℕ → Bool
is_in_name b = begins_name b || is_ascii_digit b

-- any byte but the line end
abbrev pub is_in_line : ℕ → Bool
is_in_line b = not (b == 10)

-- one byte or more, each of which passes the test
abbrev pub is_run : (ℕ → Bool) → List ℕ → Bool
is_run p [] = false
is_run p (b ∷ bs) = p b && list_all p bs

-- these bytes, and after them bytes that pass the test
abbrev pub is_after : List ℕ → (List ℕ → Bool) → List ℕ → Bool
is_after [] p bs = p bs
is_after (a ∷ first) p [] = false
is_after (a ∷ first) p (b ∷ bs) = a == b && is_after first p bs

abbrev pub anything : List ℕ → Bool
anything bs = true

-- how many bytes there are up to the end of the first `*/`
abbrev pub first_close : List ℕ → Option ℕ
first_close [] = None
first_close (b ∷ bs) = if is_after (codes "*/") anything (b ∷ bs) then Some 2 else option_map suc (first_close bs)

abbrev pub is_at : Option ℕ → ℕ → Bool
is_at None n = false
is_at (Some m) n = m == n

-- the first `*/` is their end
abbrev pub is_closed : List ℕ → Bool
is_closed bs = is_at (first_close bs) (length bs)

-- no `*/` stands in them
abbrev pub is_open : List ℕ → Bool
is_open bs = is_none (first_close bs)

abbrev pub is_name : List ℕ → Bool
is_name [] = false
is_name (b ∷ bs) = begins_name b && list_all is_in_name bs

-- a number's value where it is below 2^64
abbrev pub in_range : ℕ → Option ℕ
in_range n = if nat_lt n (2 ^ 64) then Some n else None

-- what a table has for a text
abbrev pub look_up : {A : Type 0} → List (List ℕ × A) → List ℕ → Option A
look_up [] text = None
look_up (row ∷ rows) text = if bytes_eq text row.0 then Some row.1 else look_up rows text

-- the piece that these bytes are: their first bytes tell which of the rows can fit, so that the order of the rows says nothing
abbrev pub piece_of : List ℕ → Option Piece
piece_of bs =
    if is_name bs then Some piece.Name
    else (if is_run is_white bs then Some piece.Dropped
    else (if is_after (codes "--") (list_all is_in_line) bs then Some piece.Dropped
    else (if is_after (codes "/*") is_closed bs then Some piece.Dropped
    else (if is_after (codes "/*") is_open bs then Some piece.OpenComment
    else (if is_run is_ascii_digit bs then Some (piece.Number (in_range (digits_value 10 bs)))
    else (if is_after (codes "0x") (is_run is_ascii_hexdigit) bs then Some (piece.Number (in_range (digits_value 16 (drop 2 bs))))
    else option_map piece.Mark (look_up symbols bs)))))))

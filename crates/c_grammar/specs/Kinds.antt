-- The kinds of pieces, and the values of those that are not written out in the grammar.
use Rattle.std.specs.Prelude.{ℕ, zero, suc, ◌+◌, ◌*◌, ◌-◌, ◌^◌, ◌&&◌, ◌||◌, ◌==◌, not, nat_le, nat_lt, nat_eq, Bool, true, false, if◌then◌else◌, List, [], ◌∷◌, length, codes, Option, Some, None, is_some}
use Rattle.std.specs.List.{list_all}
use Rattle.iv_words.specs.declared.kind.IntKind.TheVariants.{U8, U16, U32, U64, I8, I16, I32, I64}
use Rattle.iv_words.specs.Words.{same_word}
use Rattle.c_ast.specs.declared.types.CScalar.{CScalar}
use Rattle.c_ast.specs.declared.types.CScalar.TheVariants.{Truth, Int}
use Rattle.c_ast.specs.declared.expr.Suffix.{Suffix}
use Rattle.c_ast.specs.declared.expr.Suffix.TheVariants.{Plain, U, Ll, Ull}
use Rattle.c_ast.specs.Syntax.{Name}
use Rattle.c_text.specs.Identifiers.{is_digit, is_identifier_byte, begins_as_identifier, is_reserved}
use Rattle.grammars.specs.Grammar.{Lexicon}
use Rattle.c_grammar.specs.Pieces.{Piece, Word, Blanks, Byte}

-- ---- names

abbrev pub is_name : List ℕ → Bool
is_name w = begins_as_identifier w && (list_all is_identifier_byte w && (nat_le (length w) 31 && not (is_reserved w)))

abbrev pub name_of : Piece → Option Name
name_of (Word w) = if is_name w then Some w else None
name_of _ = None

-- ---- numbers

abbrev pub suffix_of : List ℕ → Option Suffix
suffix_of w =
    if same_word w [] then Some Plain else
    (if same_word w (codes "u") then Some U else
    (if same_word w (codes "ll") then Some Ll else
    (if same_word w (codes "ull") then Some Ull else None)))

-- the digits with which a word begins, and the rest of it
abbrev pub digits : List ℕ → List ℕ
digits [] = []
digits (b ∷ bs) = if is_digit b then b ∷ digits bs else []

abbrev pub behind_digits : List ℕ → List ℕ
behind_digits [] = []
behind_digits (b ∷ bs) = if is_digit b then behind_digits bs else b ∷ bs

abbrev pub value_behind : ℕ → List ℕ → ℕ
value_behind n [] = n
value_behind n (b ∷ bs) = value_behind (n * 10 + (b - 48)) bs

abbrev pub with_suffix : ℕ → Option Suffix → Option (ℕ × Suffix)
with_suffix n None = None
with_suffix n (Some suffix) = Some (n, suffix)

-- some digits, and no 0 before others
abbrev pub is_plain : List ℕ → Bool
is_plain [] = false
is_plain (b ∷ []) = true
is_plain (b ∷ c ∷ cs) = not (b == 48)

-- below 2^64
abbrev pub word_number : List ℕ → Option (ℕ × Suffix)
word_number w = if is_plain (digits w) && nat_lt (value_behind 0 (digits w)) (2 ^ 64) then with_suffix (value_behind 0 (digits w)) (suffix_of (behind_digits w)) else None

abbrev pub number_of : Piece → Option (ℕ × Suffix)
number_of (Word w) = word_number w
number_of _ = None

-- as the length of an array: no suffix, below 2^32
abbrev pub as_length : Option (ℕ × Suffix) → Option ℕ
as_length (Some (n, Plain)) = if nat_lt n (2 ^ 32) then Some n else None
as_length _ = None

abbrev pub length_of : Piece → Option ℕ
length_of p = as_length (number_of p)

-- ---- types

abbrev pub word_scalar : List ℕ → Option CScalar
word_scalar w =
    if same_word w (codes "bool") then Some Truth else
    (if same_word w (codes "uint8_t") then Some (Int U8) else
    (if same_word w (codes "uint16_t") then Some (Int U16) else
    (if same_word w (codes "uint32_t") then Some (Int U32) else
    (if same_word w (codes "uint64_t") then Some (Int U64) else
    (if same_word w (codes "int8_t") then Some (Int I8) else
    (if same_word w (codes "int16_t") then Some (Int I16) else
    (if same_word w (codes "int32_t") then Some (Int I32) else
    (if same_word w (codes "int64_t") then Some (Int I64) else None))))))))

abbrev pub scalar_of : Piece → Option CScalar
scalar_of (Word w) = word_scalar w
scalar_of _ = None

-- ---- what is written out

abbrev pub same_piece : Piece → Piece → Bool
same_piece (Word v) (Word w) = same_word v w
same_piece (Blanks m) (Blanks n) = nat_eq m n
same_piece (Byte b) (Byte c) = nat_eq b c
same_piece _ _ = false

abbrev pub exactly : Piece → Piece → Option Piece
exactly p q = if same_piece q p then Some q else None

-- ---- kinds: of words below 50, of blanks below 60, of a byte 256 more than itself

abbrev pub keywords_used : List (List ℕ)
keywords_used = codes "if" ∷ codes "else" ∷ codes "for" ∷ codes "break" ∷ codes "return" ∷ codes "static" ∷ codes "extern" ∷ codes "void" ∷ codes "struct" ∷ codes "const" ∷ []

abbrev pub kw_if : ℕ
kw_if = 1

abbrev pub kw_else : ℕ
kw_else = 2

abbrev pub kw_for : ℕ
kw_for = 3

abbrev pub kw_break : ℕ
kw_break = 4

abbrev pub kw_return : ℕ
kw_return = 5

abbrev pub kw_static : ℕ
kw_static = 6

abbrev pub kw_extern : ℕ
kw_extern = 7

abbrev pub kw_void : ℕ
kw_void = 8

abbrev pub kw_struct : ℕ
kw_struct = 9

abbrev pub kw_const : ℕ
kw_const = 10

abbrev pub name_word : ℕ
name_word = 20

abbrev pub number_word : ℕ
number_word = 21

abbrev pub scalar_word : ℕ
scalar_word = 22

abbrev pub one_blank : ℕ
one_blank = 50

abbrev pub indentation : ℕ
indentation = 51

abbrev pub outdentation : ℕ
outdentation = 52

-- of a piece that stands nowhere
abbrev pub other : ℕ
other = 60

abbrev pub place_in : ℕ → List (List ℕ) → List ℕ → ℕ
place_in k [] w = other
place_in k (x ∷ xs) w = if same_word w x then k else place_in (suc k) xs w

abbrev pub word_kind : List ℕ → ℕ
word_kind w =
    if begins_as_identifier w then (if is_name w then name_word else (if is_some (word_scalar w) then scalar_word else place_in 1 keywords_used w)) else
    (if is_some (word_number w) then number_word else other)

-- the blanks before a statement at this depth, and those before the brace that closes a block there; outside of a function stands
-- neither, and nothing before the brace that closes one
abbrev pub line_blanks : ℕ → ℕ
line_blanks zero = 2
line_blanks (suc d) = suc (suc (d + d))

abbrev pub closing_blanks : ℕ → ℕ
closing_blanks zero = 4
closing_blanks (suc zero) = 4
closing_blanks (suc (suc d)) = suc (suc (d + d))

abbrev pub blanks_kind : ℕ → ℕ → ℕ
blanks_kind d n = if nat_eq n 1 then one_blank else (if nat_eq n (line_blanks d) then indentation else (if nat_eq n (closing_blanks d) then outdentation else other))

-- a word has a byte and only such bytes, blanks are one at least, and other bytes are neither
abbrev pub is_whole : Piece → Bool
is_whole (Word []) = false
is_whole (Word (b ∷ w)) = list_all is_identifier_byte (b ∷ w)
is_whole (Blanks zero) = false
is_whole (Blanks (suc n)) = true
is_whole (Byte b) = not (is_identifier_byte b) && not (b == 32)

abbrev pub kind_of : ℕ → Piece → ℕ
kind_of d (Word w) = word_kind w
kind_of d (Blanks n) = blanks_kind d n
kind_of d (Byte b) = 256 + b

abbrev pub kind : ℕ → Piece → ℕ
kind d p = if is_whole p then kind_of d p else other

-- that one piece ends where the other begins cannot be seen: two words, or blanks and blanks
abbrev pub runs_on : Piece → Piece → Bool
runs_on (Word v) (Word w) = true
runs_on (Blanks m) (Blanks n) = true
runs_on _ _ = false

abbrev pub is_wordy : ℕ → Bool
is_wordy k = nat_lt k 50 || k == other

abbrev pub is_blanky : ℕ → Bool
is_blanky k = nat_le 50 k && nat_le k other

-- such kinds do not run on
abbrev pub parted : ℕ → ℕ → Bool
parted j k = not (j == other) && (not (k == other) && (not (is_wordy j && is_wordy k) && not (is_blanky j && is_blanky k)))

abbrev pub word_at : ℕ → List (List ℕ) → List ℕ
word_at k [] = []
word_at zero (x ∷ xs) = x
word_at (suc k) (x ∷ xs) = word_at k xs

abbrev pub name_examples : List Piece
name_examples = Word (codes "ivory_stop") ∷ Word (codes "include") ∷ Word (codes "stdint") ∷ Word (codes "stdbool") ∷ Word (codes "h") ∷ []

abbrev pub word_examples : ℕ → List Piece
word_examples k =
    if nat_eq k name_word then name_examples else
    (if nat_eq k number_word then Word (codes "0") ∷ [] else
    (if nat_eq k scalar_word then Word (codes "uint32_t") ∷ [] else Word (word_at (k - 1) keywords_used) ∷ []))

abbrev pub examples : ℕ → ℕ → List Piece
examples d k =
    if nat_lt k 50 then word_examples k else
    (if nat_eq k one_blank then Blanks 1 ∷ [] else
    (if nat_eq k indentation then Blanks (line_blanks d) ∷ [] else
    (if nat_eq k outdentation then Blanks (closing_blanks d) ∷ [] else Byte (k - 256) ∷ [])))

abbrev pub lexicon : Lexicon Piece
lexicon = record { kind = kind; examples = examples }

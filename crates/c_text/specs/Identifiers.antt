-- Identifiers of the C subset (C99 6.4.2.1, 5.2.4.1): letters, digits and underscores, no digit first, at most 31 bytes,
-- and no keyword of C99 (6.4.1), type name of the subset (7.18.1.1) or truth value (7.16).
use Rattle.std.specs.Prelude.{◌≡◌, ℕ, ◌≤◌, ◌==◌, ◌&&◌, ◌||◌, nat_le, Bool, false, List, [], ◌∷◌, length, codes, IsTrue}
use Rattle.std.specs.List.{list_any, list_all}
use Rattle.iv_words.specs.Words.{same_word}

abbrev pub is_between : ℕ → ℕ → ℕ → Bool
is_between low high b = nat_le low b && nat_le b high

-- 0 to 9
abbrev pub is_digit : ℕ → Bool
is_digit b = is_between 48 57 b

-- A to Z, a to z, and the underscore
abbrev pub is_letter : ℕ → Bool
is_letter b = is_between 65 90 b || is_between 97 122 b || b == 95

abbrev pub is_identifier_byte : ℕ → Bool
is_identifier_byte b = is_letter b || is_digit b

abbrev pub begins_as_identifier : List ℕ → Bool
begins_as_identifier [] = false
begins_as_identifier (b ∷ bs) = is_letter b

-- keywords of C99
abbrev pub keywords : List (List ℕ)
keywords =
    codes "auto" ∷ codes "break" ∷ codes "case" ∷ codes "char" ∷ codes "const" ∷ codes "continue" ∷ codes "default" ∷ codes "do"
    ∷ codes "double" ∷ codes "else" ∷ codes "enum" ∷ codes "extern" ∷ codes "float" ∷ codes "for" ∷ codes "goto" ∷ codes "if"
    ∷ codes "inline" ∷ codes "int" ∷ codes "long" ∷ codes "register" ∷ codes "restrict" ∷ codes "return" ∷ codes "short"
    ∷ codes "signed" ∷ codes "sizeof" ∷ codes "static" ∷ codes "struct" ∷ codes "switch" ∷ codes "typedef" ∷ codes "union"
    ∷ codes "unsigned" ∷ codes "void" ∷ codes "volatile" ∷ codes "while" ∷ codes "_Bool" ∷ codes "_Complex" ∷ codes "_Imaginary" ∷ []

-- the type names of the subset and the truth values, which <stdint.h> and <stdbool.h> define
abbrev pub defined_names : List (List ℕ)
defined_names =
    codes "bool" ∷ codes "true" ∷ codes "false" ∷ codes "uint8_t" ∷ codes "uint16_t" ∷ codes "uint32_t" ∷ codes "uint64_t"
    ∷ codes "int8_t" ∷ codes "int16_t" ∷ codes "int32_t" ∷ codes "int64_t" ∷ []

abbrev pub is_reserved : List ℕ → Bool
is_reserved word = list_any (same_word word) keywords || list_any (same_word word) defined_names

pub record IsIdentifier (word : List ℕ) : Type 0 where
  pub begins : IsTrue (begins_as_identifier word)
  pub spelled : IsTrue (list_all is_identifier_byte word)
  pub short : length word ≤ 31
  pub free : is_reserved word ≡ false

-- The words that are written out in the subset with their kinds, and the reserved words by their lengths.
use Rattle.std.specs.Prelude.{ℕ, List, [], ◌∷◌, codes, length, nat_eq, if◌then◌else◌}
use Rattle.c_grammar.specs.Kinds.{kw_if, kw_else, kw_for, kw_break, kw_return, kw_static, kw_extern, kw_void, kw_struct, kw_const, name_word, scalar_word}
use Rattle.c_lexemes.specs.declared.words.Fixed.{Fixed}
use Rattle.c_lexemes.specs.declared.words.Fixed.TheVariants as fixed

abbrev pub fixed_text : Fixed → List ℕ
fixed_text fixed.If = codes "if"
fixed_text fixed.Else = codes "else"
fixed_text fixed.For = codes "for"
fixed_text fixed.Break = codes "break"
fixed_text fixed.Return = codes "return"
fixed_text fixed.Static = codes "static"
fixed_text fixed.Extern = codes "extern"
fixed_text fixed.Void = codes "void"
fixed_text fixed.Struct = codes "struct"
fixed_text fixed.Const = codes "const"
fixed_text fixed.Include = codes "include"
fixed_text fixed.Stdint = codes "stdint"
fixed_text fixed.Stdbool = codes "stdbool"
fixed_text fixed.H = codes "h"
fixed_text fixed.IvoryStop = codes "ivory_stop"
fixed_text fixed.Uint32 = codes "uint32_t"

abbrev pub fixed_kind : Fixed → ℕ
fixed_kind fixed.If = kw_if
fixed_kind fixed.Else = kw_else
fixed_kind fixed.For = kw_for
fixed_kind fixed.Break = kw_break
fixed_kind fixed.Return = kw_return
fixed_kind fixed.Static = kw_static
fixed_kind fixed.Extern = kw_extern
fixed_kind fixed.Void = kw_void
fixed_kind fixed.Struct = kw_struct
fixed_kind fixed.Const = kw_const
fixed_kind fixed.Include = name_word
fixed_kind fixed.Stdint = name_word
fixed_kind fixed.Stdbool = name_word
fixed_kind fixed.H = name_word
fixed_kind fixed.IvoryStop = name_word
fixed_kind fixed.Uint32 = scalar_word

-- the reserved words by their lengths
abbrev pub of_length : ℕ → List (List ℕ) → List (List ℕ)
of_length n [] = []
of_length n (w ∷ ws) = if nat_eq n (length w) then w ∷ of_length n ws else of_length n ws

abbrev pub of_two : List (List ℕ)
of_two = codes "do" ∷ codes "if" ∷ []

abbrev pub of_three : List (List ℕ)
of_three = codes "for" ∷ codes "int" ∷ []

abbrev pub of_four : List (List ℕ)
of_four = codes "auto" ∷ codes "case" ∷ codes "char" ∷ codes "else" ∷ codes "enum" ∷ codes "goto" ∷ codes "long" ∷ codes "void" ∷ codes "bool" ∷ codes "true" ∷ []

abbrev pub of_five : List (List ℕ)
of_five = codes "break" ∷ codes "const" ∷ codes "float" ∷ codes "short" ∷ codes "union" ∷ codes "while" ∷ codes "_Bool" ∷ codes "false" ∷ []

abbrev pub of_six : List (List ℕ)
of_six = codes "double" ∷ codes "extern" ∷ codes "inline" ∷ codes "return" ∷ codes "signed" ∷ codes "sizeof" ∷ codes "static" ∷ codes "struct" ∷ codes "switch" ∷ codes "int8_t" ∷ []

abbrev pub of_seven : List (List ℕ)
of_seven = codes "default" ∷ codes "typedef" ∷ codes "uint8_t" ∷ codes "int16_t" ∷ codes "int32_t" ∷ codes "int64_t" ∷ []

abbrev pub of_eight : List (List ℕ)
of_eight = codes "continue" ∷ codes "register" ∷ codes "restrict" ∷ codes "unsigned" ∷ codes "volatile" ∷ codes "_Complex" ∷ codes "uint16_t" ∷ codes "uint32_t" ∷ codes "uint64_t" ∷ []

abbrev pub of_ten : List (List ℕ)
of_ten = codes "_Imaginary" ∷ []

-- How types and areas are read, from left to right. The number is that of the levels that are left to nest.
use Rattle.std.specs.Prelude.{ℕ, zero, suc, Bool, true, cond, Option, Some, None, is_some}
use Rattle.std.specs.Option.{option_map}
use Rattle.iv_words.specs.declared.Span.{Span}
use Rattle.ivory_lexer.specs.declared.Token.{Token}
use Rattle.ivory_lexer.specs.declared.Mark.TheVariants as mark
use Rattle.ivory_lexer.specs.declared.Key.TheVariants as key
use Rattle.ivory_tree.specs.declared.TypeText.{TypeText}
use Rattle.ivory_tree.specs.declared.TypeKind.{TypeKind}
use Rattle.ivory_tree.specs.declared.TypeKind.TheVariants as form
use Rattle.ivory_tree.specs.declared.AreaText.{AreaText}
use Rattle.ivory_tree.specs.declared.AreaKind.{AreaKind}
use Rattle.ivory_tree.specs.declared.AreaKind.TheVariants as area_form
use Rattle.reading.specs.Reader.{Reader, ◌>>=◌, ◌<$>◌, accept, after, choose, dispatch, optional, spanned, nested, below}
use Rattle.expression_grammar.specs.Tokens.{symbol, is_mark, is_key, word_of, number_of, int_of, span_of}
use Rattle.expression_grammar.specs.Reader.{mark_reader, key_reader, within}
use Rattle.module_grammar.specs.declared.ValueForm.{ValueForm}
use Rattle.module_grammar.specs.declared.ValueForm.TheVariants as value
use Rattle.module_grammar.specs.Tokens.{region_of}
use Rattle.module_grammar.specs.Forms.{value_form_of}
use Rattle.module_grammar.specs.Trees as tree

-- what is made of the place of its tokens
abbrev pub placed : {A : Type 0} → Reader Token (Span → A) → Reader Token A
placed p = spanned (λ make ts. make (span_of ts)) p

-- ---- stored types

-- a number in parentheses
abbrev pub number_within : ℕ → Reader Token ℕ
number_within k = within (below (λ _. accept number_of) k)

abbrev pub value_form_reader : ℕ → ValueForm → Reader Token TypeKind
value_form_reader k value.Truth = (λ _. form.Bool) <$> key_reader key.KwBool
value_form_reader k value.Whole = form.Int <$> accept int_of
value_form_reader k value.Index = after (key_reader key.KwIx) (form.Ix <$> number_within k)

unfoldable pub value_reader : ℕ → Reader Token TypeKind
value_reader k = dispatch value_form_of (value_form_reader k) (form.Bits <$> accept word_of)

-- ---- areas

-- behind a `[`, all of it one level deeper
abbrev pub array_rest : Reader Token AreaText → Reader Token AreaKind
array_rest element = accept number_of >>= λ n. after (mark_reader mark.CloseBracket) (area_form.Array n <$> element)

abbrev pub array_reader : Option (Reader Token AreaText) → Reader Token AreaText
array_reader inner = placed (tree.area <$> nested (symbol mark.OpenBracket) (option_map (λ element _. array_rest element) inner))

abbrev pub structure_reader : Reader Token AreaText
structure_reader = placed (tree.area <$> after (key_reader key.KwStruct) (area_form.Struct <$> accept word_of))

abbrev pub area_reader : ℕ → Option (Reader Token AreaText) → Reader Token AreaText
area_reader k inner = choose (is_mark mark.OpenBracket) (array_reader inner) (choose (is_key key.KwStruct) structure_reader (placed (tree.stored <$> value_reader k)))

unfoldable pub area : ℕ → Reader Token AreaText
area zero = area_reader zero None
area (suc k) = area_reader (suc k) (Some (area k))

-- ---- types

abbrev pub begins_reference : Token → Bool
begins_reference t = cond (is_key key.KwConst t) true (is_key key.KwRef t)

abbrev pub reference_reader : ℕ → Reader Token TypeKind
reference_reader k = optional (is_key key.KwConst) (key_reader key.KwConst) >>= λ constant.
    after (key_reader key.KwRef) (accept region_of >>= λ r. tree.reference (is_some constant) r <$> area k)

unfoldable pub type_ : ℕ → Reader Token TypeText
type_ k = placed (tree.typed <$> choose begins_reference (reference_reader k) (value_reader k))

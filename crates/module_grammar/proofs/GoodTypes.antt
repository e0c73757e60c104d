-- The readers of types and areas are good.
use Rattle.std.proofs.Common.{◌≡◌, ℕ, zero, suc, ◌+◌, true, false, ◌++◌, refl, arith, Option, Some, None, is_some}
use Rattle.iv_words.specs.declared.Span.{Span}
use Rattle.ivory_lexer.specs.declared.Token.{Token}
use Rattle.ivory_lexer.specs.declared.Mark.TheVariants as mark
use Rattle.ivory_lexer.specs.declared.Key.TheVariants as key
use Rattle.ivory_tree.specs.declared.TypeKind.TheVariants as form
use Rattle.ivory_tree.specs.declared.AreaText.{AreaText}
use Rattle.ivory_tree.specs.declared.AreaKind.{AreaKind}
use Rattle.ivory_tree.specs.declared.AreaKind.TheVariants as areas
use Rattle.reading.specs.Row.{Row}
use Rattle.reading.specs.Language.{Terminal}
use Rattle.reading.specs.Reader.{Reader, accept}
use Rattle.reading.specs.Good.{Good}
use Rattle.reading.proofs.Same.{none, good_as, good_ended, good_map}
use Rattle.reading.proofs.Sequence.{good_after, good_ended_then}
use Rattle.reading.proofs.Starts.{starts_then, starts_mapped, starts_either, either, either_none}
use Rattle.reading.proofs.Choice.{good_choice, good_dispatch}
use Rattle.reading.proofs.Plain.{Plain, plain_mapped}
use Rattle.reading.proofs.Nesting.{Within, barred_within, read_within, good_nested}
use Rattle.expression_grammar.specs.Tokens.{is_mark, is_key, number_of, signs}
use Rattle.expression_grammar.proofs.Primaries.{Parens}
use Rattle.expression_grammar.proofs.Samples.{nowhere}
use Rattle.expression_grammar.proofs.Tokens.{marked, not_mark, not_key}
use Rattle.expression_grammar.proofs.GoodPrimary.{good_symbol, good_keyword, good_number, good_word, good_parens}
use Rattle.expression_grammar.proofs.Plain.{symbol_plain}
use Rattle.module_grammar.specs.declared.ValueForm.{ValueForm}
use Rattle.module_grammar.specs.declared.ValueForm.TheVariants as head
use Rattle.module_grammar.specs.Trees as tree
use Rattle.module_grammar.specs.Types.{Rule}
use Rattle.module_grammar.specs.Types as types
use Rattle.module_grammar.specs.TypeReader.{number_within, value_form_reader, value_reader, array_rest, array_reader, area_reader, area, begins_reference, type_}
use Rattle.module_grammar.proofs.Terminals.{good_int, good_region, good_maybe_key, starts_mark, starts_key, a_mark, a_number, within_below, there_within}
use Rattle.module_grammar.proofs.Placed.{good_placed}
use Rattle.module_grammar.proofs.Edges.{plain_behind}
use Rattle.module_grammar.proofs.TypeRules.{ValueOf, to_value, from_value, ArrayRest, Array, to_area, from_area, to_type, from_type}
use Rattle.module_grammar.proofs.TypeEdges.{value_heads, value_headless, begins_value, starts_value, starts_array, starts_structure, starts_stored, plain_area, some_area, starts_area, starts_reference}

-- ---- stored types

module _ (limit k d : ℕ) (e : d + k ≡ limit) where
  pub good_number_within : Good signs limit none (Parens d (Terminal (suc d) number_of)) (number_within k)
  good_number_within = good_parens (a_number (suc d)) (within_below (λ _. accept number_of) limit k d e (λ j there. good_ended (good_number (omega arith))))

  good_form : (h : ValueForm) → Good signs limit none (ValueOf d h) (value_form_reader k h)
  good_form head.Truth = good_map (λ _. form.Bool) (good_keyword key.KwBool (omega arith))
  good_form head.Whole = good_map form.Int (good_int (omega arith))
  good_form head.Index = good_after (good_keyword key.KwIx (omega arith)) (good_map form.Ix good_number_within)

  pub good_value : Good signs limit none (Rule types.value d) (value_reader k)
  unfolding value_reader
  good_value = good_as (to_value d) (from_value d) (good_dispatch good_form (good_map form.Bits (good_word (omega arith))) (value_heads d) (value_headless d))

-- ---- areas

some_array : (d : ℕ) (at : Span) → (v : AreaKind) × (row : Row Token) × ArrayRest d v row
some_array d at =
    let n = a_number d in
    let c = a_mark d mark.CloseBracket in
    let a = some_area d in
    (areas.Array n.0 a.0, n.1 ++ (c.1 ++ a.1), (n.0, n.1, c.1 ++ a.1, refl, n.2, (c.0, c.1, a.1, refl, c.2, (a.0, a.2, refl))))

plain_array : (d : ℕ) (at : Span) → Plain signs (ArrayRest d)
plain_array d at =
    plain_behind (λ n. plain_behind (λ c. plain_mapped (areas.Array n) (plain_area d)) (λ c. starts_mapped (areas.Array n) (starts_area d))) (λ n. starts_then (starts_mark d mark.CloseBracket))

good_array : {limit d : ℕ} {inner : Option (Reader Token AreaText)} → Within signs limit d none (Rule types.area (suc d)) inner → Good signs limit none (Array d) (array_reader inner)
good_array {limit} {d} inner =
    good_placed (good_map tree.area (good_nested
    (there_within (λ element _. array_rest element) inner (λ p within g at. good_ended_then (good_number within) (λ n. good_after (good_symbol mark.CloseBracket within) (good_map (areas.Array n) g))))
    (some_array (suc d)) (symbol_plain mark.OpenBracket refl) (plain_array (suc d)) nowhere (marked mark.OpenBracket nowhere) refl))

not_struct : (t : Token) → begins_value t ≡ true → is_key key.KwStruct t ≡ false
not_struct = not_key begins_value key.KwStruct (λ s. refl)

not_bracket : (t : Token) → either (is_key key.KwStruct) begins_value t ≡ true → is_mark mark.OpenBracket t ≡ false
not_bracket = not_mark (either (is_key key.KwStruct) begins_value) mark.OpenBracket (λ s. refl)

good_area_with : (limit k d : ℕ) → d + k ≡ limit → (inner : Option (Reader Token AreaText)) → Within signs limit d none (Rule types.area (suc d)) inner
    → Good signs limit none (Rule types.area d) (area_reader k inner)
good_area_with limit k d e inner within =
    good_as (to_area d) (from_area d)
    (good_choice (is_mark mark.OpenBracket) (either (is_key key.KwStruct) begins_value) not_bracket (good_array within) (starts_array d)
    (good_choice (is_key key.KwStruct) begins_value not_struct
    (good_placed (good_map tree.area (good_after (good_keyword key.KwStruct (omega arith)) (good_map areas.Struct (good_word (omega arith)))))) (starts_structure d)
    (good_placed (good_map tree.stored (good_value limit k d e))) (starts_stored d))
    (starts_either (is_key key.KwStruct) begins_value (starts_structure d) (starts_stored d)))

pub good_area : (limit k d : ℕ) → d + k ≡ limit → Good signs limit none (Rule types.area d) (area k)
unfolding area
good_area limit zero d e = good_area_with limit zero d e None (barred_within (omega arith))
good_area limit (suc k) d e = good_area_with limit (suc k) d e (Some (area k)) (read_within (omega arith) (good_area limit k (suc d) (omega arith)))

-- ---- types

not_reference : (t : Token) → begins_value t ≡ true → begins_reference t ≡ false
not_reference t e =
    either_none (is_key key.KwConst) (is_key key.KwRef) t (not_key begins_value key.KwConst (λ s. refl) t e) (not_key begins_value key.KwRef (λ s. refl) t e)

pub good_type : (limit k d : ℕ) → d + k ≡ limit → Good signs limit none (Rule types.type d) (type_ k)
unfolding type_
good_type limit k d e =
    good_as (to_type d) (from_type d)
    (good_placed (good_map tree.typed
    (good_choice begins_reference begins_value not_reference
    (good_maybe_key (omega arith) key.KwConst
    (λ constant. good_after (good_keyword key.KwRef (omega arith)) (good_ended_then (good_region (omega arith)) (λ r. good_map (tree.reference (is_some constant) r) (good_area limit k d e))))
    (is_key key.KwRef) (λ constant. starts_then (starts_key d key.KwRef)) (not_key (is_key key.KwRef) key.KwConst (λ s. refl)))
    (starts_reference d) (good_value limit k d e) (starts_value d))))

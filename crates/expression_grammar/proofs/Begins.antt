-- With which tokens the rules begin; that none of these is empty is told with it.
use Rattle.std.proofs.Common.{◌≡◌, ℕ, zero, suc, Bool, true, false, cond, refl, ap, Some, is_some}
use Rattle.ivory_lexer.specs.declared.Token.{Token}
use Rattle.ivory_lexer.specs.declared.TokenKind.{TokenKind}
use Rattle.ivory_lexer.specs.declared.TokenKind.TheVariants as kind
use Rattle.ivory_lexer.specs.declared.Mark.TheVariants as mark
use Rattle.ivory_lexer.specs.declared.Key.TheVariants as key
use Rattle.reading.specs.Language.{Language}
use Rattle.reading.proofs.Starts.{StartsWith, starts_terminal, starts_then, starts_spanned, starts_either, starts_headed, starts_as, starts_wider, starts_prefixed, either_first, either_second}
use Rattle.expression_grammar.specs.declared.PrimaryForm.{PrimaryForm}
use Rattle.expression_grammar.specs.declared.PrimaryForm.TheVariants as form
use Rattle.expression_grammar.specs.Tokens.{is_mark, is_key, is_name, is_number, truth_of_kind, truth_of, int_of_kind, int_of, signs}
use Rattle.expression_grammar.specs.Operators.{is_operator, is_plain_prefix}
use Rattle.expression_grammar.specs.Forms.{primary_form, form_of}
use Rattle.expression_grammar.specs.Grammar.{Rule}
use Rattle.expression_grammar.specs.Grammar as spelled
use Rattle.expression_grammar.specs.Reader.{begins_step}
use Rattle.expression_grammar.specs.Edges.{begins_postfix, begins_expression}
use Rattle.expression_grammar.proofs.Tokens.{at_mark, at_key, at_name, at_number, symbol_passes, keyword_passes, number_passes, word_passes}
use Rattle.expression_grammar.proofs.Primaries.{Form, Parens, from_primary}
use Rattle.expression_grammar.proofs.Productions.{Field, Element, from_step, from_postfix, PlainPrefixed, NotNegated, from_operand, from_lone, from_link, from_chain, Arms, from_expression}
use Rattle.expression_grammar.proofs.Nodes.{number_node, negative_node, truth_node, outcome_node, variable_node, cast_node, to_index_node, wrap_index_node, make_bits_node, raw_node, set_field_node, element_node, steps_node, negated_node, prefixed_node, links_node, arms_node}

-- ---- primaries

abbrev pub is_truth : Token → Bool
is_truth t = is_some (truth_of t)

abbrev pub is_int : Token → Bool
is_int t = is_some (int_of t)

-- the test of a form's first token
abbrev pub form_test : PrimaryForm → Token → Bool
form_test form.Number = is_number
form_test form.Negative = is_mark mark.Minus
form_test form.Truth = is_truth
form_test form.Outcome = is_key key.KwResult
form_test form.Variable = is_name
form_test form.Cast = is_int
form_test form.ToIndex = is_key key.KwToix
form_test form.WrapIndex = is_key key.KwWrapix
form_test form.MakeBits = is_key key.KwBits
form_test form.Raw = is_key key.KwRaw
form_test form.SetField = is_key key.KwSet

truth_form : (k : TokenKind) → is_some (truth_of_kind k) ≡ true → primary_form k ≡ Some form.Truth
truth_form (kind.Key key.KwTrue) e = refl
truth_form (kind.Key key.KwFalse) e = refl
truth_form _ e = cc

int_form : (k : TokenKind) → is_some (int_of_kind k) ≡ true → primary_form k ≡ Some form.Cast
int_form (kind.Key key.KwUint8t) e = refl
int_form (kind.Key key.KwUint16t) e = refl
int_form (kind.Key key.KwUint32t) e = refl
int_form (kind.Key key.KwUint64t) e = refl
int_form (kind.Key key.KwInt8t) e = refl
int_form (kind.Key key.KwInt16t) e = refl
int_form (kind.Key key.KwInt32t) e = refl
int_form (kind.Key key.KwInt64t) e = refl
int_form _ e = cc

-- it tells the form
pub form_told : (h : PrimaryForm) (t : Token) → form_test h t ≡ true → form_of t ≡ Some h
form_told form.Number t e = at_number form_of (Some form.Number) (λ n s. refl) t e
form_told form.Negative t e = at_mark form_of (Some form.Negative) mark.Minus (λ s. refl) t e
form_told form.Truth t e = truth_form t.kind e
form_told form.Outcome t e = at_key form_of (Some form.Outcome) key.KwResult (λ s. refl) t e
form_told form.Variable t e = at_name form_of (Some form.Variable) (λ w s. refl) t e
form_told form.Cast t e = int_form t.kind e
form_told form.ToIndex t e = at_key form_of (Some form.ToIndex) key.KwToix (λ s. refl) t e
form_told form.WrapIndex t e = at_key form_of (Some form.WrapIndex) key.KwWrapix (λ s. refl) t e
form_told form.MakeBits t e = at_key form_of (Some form.MakeBits) key.KwBits (λ s. refl) t e
form_told form.Raw t e = at_key form_of (Some form.Raw) key.KwRaw (λ s. refl) t e
form_told form.SetField t e = at_key form_of (Some form.SetField) key.KwSet (λ s. refl) t e

pub starts_parens : {A : Type 0} (d : ℕ) (R : Language Token A) → StartsWith (is_mark mark.OpenParen) (Parens d R)
starts_parens d R = starts_then (starts_terminal (is_mark mark.OpenParen) (symbol_passes mark.OpenParen))

pub starts_form : (d : ℕ) (h : PrimaryForm) → StartsWith (form_test h) (Form d h)
starts_form d form.Number = starts_spanned number_node (starts_terminal is_number number_passes)
starts_form d form.Negative = starts_spanned negative_node (starts_then (starts_terminal (is_mark mark.Minus) (symbol_passes mark.Minus)))
starts_form d form.Truth = starts_spanned truth_node (starts_terminal is_truth (λ t b e. ap is_some e))
starts_form d form.Outcome = starts_spanned outcome_node (starts_terminal (is_key key.KwResult) (keyword_passes key.KwResult))
starts_form d form.Variable = starts_spanned variable_node (starts_terminal is_name word_passes)
starts_form d form.Cast = starts_spanned cast_node (starts_then (starts_terminal is_int (λ t k e. ap is_some e)))
starts_form d form.ToIndex = starts_spanned to_index_node (starts_then (starts_terminal (is_key key.KwToix) (keyword_passes key.KwToix)))
starts_form d form.WrapIndex = starts_spanned wrap_index_node (starts_then (starts_terminal (is_key key.KwWrapix) (keyword_passes key.KwWrapix)))
starts_form d form.MakeBits = starts_spanned make_bits_node (starts_then (starts_terminal (is_key key.KwBits) (keyword_passes key.KwBits)))
starts_form d form.Raw = starts_spanned raw_node (starts_then (starts_terminal (is_key key.KwRaw) (keyword_passes key.KwRaw)))
starts_form d form.SetField = starts_spanned set_field_node (starts_then (starts_terminal (is_key key.KwSet) (keyword_passes key.KwSet)))

form_begins : (h : PrimaryForm) (t : Token) → form_test h t ≡ true → begins_postfix t ≡ true
form_begins h t e = either_first (λ u. is_some (form_of u)) (is_mark mark.OpenParen) t (ap is_some (form_told h t e))

pub starts_primary : (d : ℕ) → StartsWith begins_postfix (Rule spelled.primary d)
starts_primary d = starts_as (from_primary d) (starts_headed (λ h. starts_wider (form_begins h) (starts_form d h))
    (starts_wider (either_second (λ u. is_some (form_of u)) (is_mark mark.OpenParen)) (starts_parens d (Rule spelled.expression (suc d)))))

-- ---- fields and elements

pub starts_field : (d : ℕ) → StartsWith (is_mark mark.Dot) (Field d)
starts_field d = starts_then (starts_terminal (is_mark mark.Dot) (symbol_passes mark.Dot))

pub starts_element : (d : ℕ) → StartsWith (is_mark mark.OpenBracket) (Element d)
starts_element d = starts_spanned element_node (starts_then (starts_terminal (is_mark mark.OpenBracket) (symbol_passes mark.OpenBracket)))

pub starts_step : (d : ℕ) → StartsWith begins_step (Rule spelled.a_step d)
starts_step d = starts_as (from_step d) (starts_either (is_mark mark.Dot) (is_mark mark.OpenBracket) (starts_field d) (starts_element d))

pub starts_postfix : (d : ℕ) → StartsWith begins_postfix (Rule spelled.postfix d)
starts_postfix d = starts_as (from_postfix d) (starts_spanned steps_node (starts_then (starts_primary d)))

-- ---- operators

pub starts_plain_prefixed : (d : ℕ) → StartsWith is_plain_prefix (PlainPrefixed d)
starts_plain_prefixed d = starts_spanned prefixed_node (starts_then (starts_terminal is_plain_prefix (λ t o e. ap is_some e)))

sign_begins : (t : Token) → is_mark mark.Minus t ≡ true → begins_expression t ≡ true
sign_begins = at_mark begins_expression true mark.Minus (λ s. refl)

pub starts_not_negated : (d : ℕ) → StartsWith begins_expression (NotNegated d)
starts_not_negated d = starts_either is_plain_prefix begins_postfix (starts_plain_prefixed d) (starts_postfix d)

pub starts_operand : (d : ℕ) → StartsWith begins_expression (Rule spelled.operand d)
starts_operand d = starts_as (from_operand d) (starts_wider widened (starts_either signs.sign begins_expression (starts_prefixed signs d negated_node (Rule spelled.operand (suc d))) (starts_not_negated d)))
  where
    joined : (b c : Bool) → (b ≡ true → c ≡ true) → cond b true c ≡ true → c ≡ true
    joined true c h e = h refl
    joined false c h e = e

    widened : (t : Token) → cond (is_mark mark.Minus t) true (begins_expression t) ≡ true → begins_expression t ≡ true
    widened t e = joined (is_mark mark.Minus t) (begins_expression t) (sign_begins t) e

pub starts_link : (n d : ℕ) → StartsWith (is_operator n) (Rule (spelled.a_link n) d)
starts_link n d = starts_as (from_link n d) (starts_then (starts_terminal (is_operator n) (λ t o e. ap is_some e)))

pub starts_chain : (n d : ℕ) → StartsWith begins_expression (Rule (spelled.chain n) d)
starts_chain zero d = starts_as (from_lone d) (starts_operand d)
starts_chain (suc n) d = starts_as (from_chain n d) (starts_spanned links_node (starts_then (starts_chain n d)))

pub starts_arms : (d : ℕ) → StartsWith (is_mark mark.Question) (Arms d)
starts_arms d = starts_then (starts_terminal (is_mark mark.Question) (symbol_passes mark.Question))

pub starts_expression : (d : ℕ) → StartsWith begins_expression (Rule spelled.expression d)
starts_expression d = starts_as (from_expression d) (starts_spanned arms_node (starts_then (starts_chain spelled.operator_levels d)))

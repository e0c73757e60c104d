-- The readers of primaries and of what stands behind them, fields and elements, read what the grammar spells.
use Rattle.std.proofs.Common.{◌≡◌, ℕ, suc, ◌≤◌, Bool, true, false, List, [], ◌∷◌, ◌++◌, inl, inr, refl, sym, ◌∙◌, subst, Option, Some, None}
use Rattle.std.specs.Option.{option_map}
use Rattle.iv_words.specs.declared.Span.{Span}
use Rattle.iv_words.specs.declared.Name.{Name}
use Rattle.iv_words.specs.declared.IntKind.TheVariants as int
use Rattle.ivory_lexer.specs.declared.Token.{Token}
use Rattle.ivory_lexer.specs.declared.TokenKind.TheVariants as kind
use Rattle.ivory_lexer.specs.declared.Mark.{Mark}
use Rattle.ivory_lexer.specs.declared.Mark.TheVariants as mark
use Rattle.ivory_lexer.specs.declared.Key.{Key}
use Rattle.ivory_lexer.specs.declared.Key.TheVariants as key
use Rattle.ivory_tree.specs.declared.Expr.{Expr}
use Rattle.ivory_tree.specs.declared.Step.{Step}
use Rattle.reading.specs.Row.{Row}
use Rattle.reading.specs.Row as rows
use Rattle.reading.specs.Language.{Language, Terminal, Mapped, After}
use Rattle.reading.specs.Reader.{Reader, accept}
use Rattle.reading.specs.Good.{Good}
use Rattle.reading.proofs.Same.{none, good_as, good_map}
use Rattle.reading.proofs.Tokens.{good_accept}
use Rattle.reading.proofs.Sequence.{good_then, good_ended_then, good_after}
use Rattle.reading.proofs.Spans.{good_spanned}
use Rattle.reading.proofs.Starts.{StartsWith, starts_then, starts_terminal}
use Rattle.reading.proofs.Choice.{good_choice, Heads, Headless, good_dispatch}
use Rattle.reading.proofs.Nesting.{Within, barred_within, read_within, Brackets, good_enclosed}
use Rattle.reading.proofs.Repeat.{good_many}
use Rattle.reading.proofs.SignChoice.{Others}
use Rattle.reading.proofs.Literals.{others_literal, others_as, others_spanned, others_then}
use Rattle.expression_grammar.specs.declared.PrimaryForm.{PrimaryForm}
use Rattle.expression_grammar.specs.declared.PrimaryForm.TheVariants as form
use Rattle.ivory_lexer.specs.Same.{same_mark}
use Rattle.expression_grammar.specs.Tokens.{is_mark, symbol, keyword, word_of, name_of, number_of, truth_of, int_of, signs}
use Rattle.expression_grammar.specs.Trees as tree
use Rattle.expression_grammar.specs.Forms.{form_of}
use Rattle.expression_grammar.specs.Grammar.{Rule}
use Rattle.expression_grammar.specs.Grammar as spelled
use Rattle.expression_grammar.specs.Reader.{beside, change, within, form_reader, primary_reader, field_reader, element_reader, begins_step, step_reader, postfix_reader}
use Rattle.expression_grammar.specs.Edges.{goes_on}
use Rattle.ivory_lexer.proofs.Same.{same_mark_self, same_key_self}
use Rattle.expression_grammar.proofs.Nodes.{number_node, negative_node, truth_node, outcome_node, variable_node, cast_node, to_index_node, wrap_index_node, make_bits_node, raw_node, set_field_node, element_node, steps_node}
use Rattle.expression_grammar.proofs.Tokens.{token, marked, keyed, at_mark, mark_or, symbol_passes, symbol_some, keyword_some, number_passes}
use Rattle.expression_grammar.proofs.Primaries.{Form, Negative, Parens, Beside, NewValue, Change, to_primary, from_primary}
use Rattle.expression_grammar.proofs.Productions.{Field, Element, to_step, from_step, to_postfix, from_postfix}
use Rattle.expression_grammar.proofs.Begins.{form_told, starts_form, starts_parens, starts_field, starts_element, starts_step}
use Rattle.expression_grammar.proofs.Samples.{nowhere, some_expression}
use Rattle.expression_grammar.proofs.Plain.{symbol_plain}
use Rattle.expression_grammar.proofs.Following.{symbol_stops}

-- ---- single tokens

pub good_symbol : {limit d : ℕ} (a : Mark) → d ≤ limit → Good signs limit none (Terminal d (symbol a)) (accept (symbol a))
good_symbol a low = good_accept (symbol a) low nowhere (marked a nowhere) (symbol_some a (marked a nowhere) (same_mark_self a))

pub good_keyword : {limit d : ℕ} (a : Key) → d ≤ limit → Good signs limit none (Terminal d (keyword a)) (accept (keyword a))
good_keyword a low = good_accept (keyword a) low nowhere (keyed a nowhere) (keyword_some a (keyed a nowhere) (same_key_self a))

pub good_number : {limit d : ℕ} → d ≤ limit → Good signs limit none (Terminal d number_of) (accept number_of)
good_number low = good_accept number_of low 0 (token (kind.Number 0) nowhere) refl

pub good_word : {limit d : ℕ} → d ≤ limit → Good signs limit none (Terminal d word_of) (accept word_of)
good_word low = good_accept word_of low [] (token (kind.Name []) nowhere) refl

pub good_name : {limit d : ℕ} → d ≤ limit → Good signs limit none (Terminal d name_of) (accept name_of)
good_name low = good_accept name_of low (record { text = []; span = nowhere }) (token (kind.Name []) nowhere) refl

-- ---- what stands one level deeper

-- a rule that is put together over the rule there
pub within_map : {A B : Type 0} {limit d : ℕ} {c : Token → Bool} {R : Language Token A} {S : Language Token B} {inner : Option (Reader Token A)} (f : Reader Token A → Reader Token B)
    → ((p : Reader Token A) → suc d ≤ limit → Good signs limit c R p → Good signs limit c S (f p)) → Within signs limit d c R inner → Within signs limit d c S (option_map f inner)
within_map f h (barred_within deeper) = barred_within deeper
within_map f h (read_within {p} low good) = read_within low (h p low good)

-- two marks around what goes on as an expression does
pub brackets : (opens closes : Mark) → same_mark mark.Minus opens ≡ false → same_mark mark.Minus closes ≡ false → ((s : Span) → goes_on (marked closes s) ≡ false)
    → Brackets signs goes_on (symbol opens) (symbol closes)
brackets opens closes opens_other closes_other stops = record {
  opening = (nowhere, marked opens nowhere, symbol_some opens (marked opens nowhere) (same_mark_self opens));
  closing = (nowhere, marked closes nowhere, symbol_some closes (marked closes nowhere) (same_mark_self closes));
  opens_plain = symbol_plain opens opens_other;
  closes_plain = symbol_plain closes closes_other;
  closes_stops = symbol_stops closes stops;
}

pub starts_after : {A : Type 0} (a : Mark) (d : ℕ) (R : Language Token A) → StartsWith (is_mark a) (After (Terminal d (symbol a)) R)
starts_after a d R = starts_then (starts_terminal (is_mark a) (symbol_passes a))

-- ---- in parentheses

pub good_parens : {A : Type 0} {limit d : ℕ} {R : Language Token A} {inner : Option (Reader Token A)} → (x : A) × (row : Row Token) × R x row → Within signs limit d goes_on R inner
    → Good signs limit none (Parens d R) (within inner)
good_parens example there = good_enclosed (λ x _. x) (brackets mark.OpenParen mark.CloseParen refl refl (λ s. refl)) example there

module _ {limit e : ℕ} (low : e ≤ limit) (expr : Reader Token Expr) (good : Good signs limit goes_on (Rule spelled.expression e) expr) where
  good_beside : {A : Type 0} {First : Language Token A} {first : Reader Token A} → Good signs limit none First first → Good signs limit goes_on (Beside e First) (beside first expr)
  good_beside g = good_ended_then g (λ a. good_after (good_symbol mark.Comma low) (good_map (λ x. (a, x)) good))

  starts_new : (x : Expr) → StartsWith (is_mark mark.Comma) (NewValue e x)
  starts_new x = starts_after mark.Comma e (Mapped (λ (p : Name × Expr). (x, p)) (Beside e (Terminal e name_of)))

  good_change : Good signs limit goes_on (Change e) (change expr)
  good_change =
      good_then good (λ x. good_after (good_symbol mark.Comma low) (good_map (λ (p : Name × Expr). (x, p)) (good_beside (good_name low))))
      (λ x b m g r. at_mark goes_on false mark.Comma (λ s. refl) m.token ((starts_new x).first b m g r))
      (λ x b r. absurd ((starts_new x).nonempty b r))

comma_at : (d : ℕ) → (s : Span) × (row : Row Token) × Terminal d (symbol mark.Comma) s row
comma_at d = let m : rows.Entry Token = record { token = marked mark.Comma nowhere; depth = d } in (nowhere, m ∷ [], (m, refl, refl, refl))

number_at : (d : ℕ) → (n : ℕ) × (row : Row Token) × Terminal d number_of n row
number_at d = let m : rows.Entry Token = record { token = token (kind.Number 0) nowhere; depth = d } in (0, m ∷ [], (m, refl, refl, refl))

word_at : (d : ℕ) → (w : List ℕ) × (row : Row Token) × Terminal d word_of w row
word_at d = let m : rows.Entry Token = record { token = token (kind.Name []) nowhere; depth = d } in ([], m ∷ [], (m, refl, refl, refl))

name_at : (d : ℕ) → (x : Name) × (row : Row Token) × Terminal d name_of x row
name_at d = let m : rows.Entry Token = record { token = token (kind.Name []) nowhere; depth = d } in (record { text = []; span = nowhere }, m ∷ [], (m, refl, refl, refl))

some_beside : {A : Type 0} (d : ℕ) (First : Language Token A) → (a : A) × (row : Row Token) × First a row → (p : A × Expr) × (row : Row Token) × Beside d First p row
some_beside d First (a, f, first) =
    let c = comma_at d in
    let x = some_expression d in
    ((a, x.0), f ++ (c.1 ++ x.1), (a, f, c.1 ++ x.1, refl, first, (c.0, c.1, x.1, refl, c.2, (x.0, x.2, refl))))

some_change : (d : ℕ) → (p : Expr × (Name × Expr)) × (row : Row Token) × Change d p row
some_change d =
    let x = some_expression d in
    let c = comma_at d in
    let b = some_beside d (Terminal d name_of) (name_at d) in
    ((x.0, b.0), x.1 ++ (c.1 ++ b.1), (x.0, x.1, c.1 ++ b.1, refl, x.2, (c.0, c.1, b.1, refl, c.2, (b.0, b.2, refl))))

-- ---- the rules

module _ (limit d : ℕ) (low : d ≤ limit) (inner : Option (Reader Token Expr)) (there : Within signs limit d goes_on (Rule spelled.expression (suc d)) inner) where
  good_form : (h : PrimaryForm) → Good signs limit none (Form d h) (form_reader inner h)
  good_form form.Number = good_spanned number_node (good_number low)
  good_form form.Negative = good_spanned negative_node (good_after (good_symbol mark.Minus low) (good_number low))
  good_form form.Truth = good_spanned truth_node (good_accept truth_of low true (keyed key.KwTrue nowhere) refl)
  good_form form.Outcome = good_spanned outcome_node (good_keyword key.KwResult low)
  good_form form.Variable = good_spanned variable_node (good_word low)
  good_form form.Cast = good_spanned cast_node (good_ended_then (good_accept int_of low int.U8 (keyed key.KwUint8t nowhere) refl) (λ k. good_map (λ x. (k, x)) (good_parens (some_expression (suc d)) there)))
  good_form form.ToIndex = good_spanned to_index_node (good_after (good_keyword key.KwToix low)
      (good_parens (some_beside (suc d) (Terminal (suc d) number_of) (number_at (suc d))) (within_map (beside (accept number_of)) (λ p deep good. good_beside deep p good (good_number deep)) there)))
  good_form form.WrapIndex = good_spanned wrap_index_node (good_after (good_keyword key.KwWrapix low)
      (good_parens (some_beside (suc d) (Terminal (suc d) number_of) (number_at (suc d))) (within_map (beside (accept number_of)) (λ p deep good. good_beside deep p good (good_number deep)) there)))
  good_form form.MakeBits = good_spanned make_bits_node (good_after (good_keyword key.KwBits low)
      (good_parens (some_beside (suc d) (Terminal (suc d) word_of) (word_at (suc d))) (within_map (beside (accept word_of)) (λ p deep good. good_beside deep p good (good_word deep)) there)))
  good_form form.Raw = good_spanned raw_node (good_after (good_keyword key.KwRaw low) (good_parens (some_expression (suc d)) there))
  good_form form.SetField = good_spanned set_field_node (good_after (good_keyword key.KwSet low)
      (good_parens (some_change (suc d)) (within_map change (λ p deep good. good_change deep p good) there)))

  heads : Heads form_of (Form d)
  heads = record {
    first = λ h a m row r. form_told h m.token ((starts_form d h).first a m row r);
    nonempty = λ h a r. (starts_form d h).nonempty a r;
  }

  headless : Headless none form_of (Parens d (Rule spelled.expression (suc d)))
  headless = record {
    first = λ a m row r. at_mark form_of None mark.OpenParen (λ s. refl) m.token ((starts_parens d (Rule spelled.expression (suc d))).first a m row r);
    empty = λ a r t h e. absurd ((starts_parens d (Rule spelled.expression (suc d))).nonempty a r);
  }

  pub good_primary : Good signs limit none (Rule spelled.primary d) (primary_reader inner)
  unfolding primary_reader
  good_primary = good_as (to_primary d) (from_primary d) (good_dispatch good_form (good_parens (some_expression (suc d)) there) heads headless)

  good_field : Good signs limit none (Field d) field_reader
  good_field = good_after (good_symbol mark.Dot low) (good_map tree.field (good_name low))

  good_element : Good signs limit none (Element d) (element_reader inner)
  good_element = good_spanned element_node (good_enclosed (λ x _. x) (brackets mark.OpenBracket mark.CloseBracket refl refl (λ s. refl)) (some_expression (suc d)) there)

  good_step : Good signs limit none (Rule spelled.a_step d) (step_reader inner)
  good_step = good_as (to_step d) (from_step d) (good_choice (is_mark mark.Dot) (is_mark mark.OpenBracket) (mark_or mark.OpenBracket mark.Dot) good_field (starts_field d) good_element (starts_element d))

  pub good_postfix_with : Good signs limit begins_step (Rule spelled.postfix d) (postfix_reader inner)
  unfolding postfix_reader
  good_postfix_with =
      good_as (to_postfix d) (from_postfix d)
      (good_spanned steps_node (good_ended_then good_primary (λ x. good_map (λ (steps : List Step). (x, steps)) (good_many good_step (starts_step d) (λ t e. refl) (λ t e. e) (λ t e. cc)))))

  -- ---- a sign that stands first is a number's

  sign_form : (h : PrimaryForm) (t : Token) → form_of t ≡ Some h → is_mark mark.Minus t ≡ true → h ≡ form.Negative
  sign_form h t e is = let both : Some h ≡ Some form.Negative = sym e ∙ at_mark form_of (Some form.Negative) mark.Minus (λ s. refl) t is in cc

  others_negative : Others signs limit (Negative d)
  others_negative = others_spanned negative_node (others_literal (symbol mark.Minus) number_of low number_passes (λ t is. (t.span, symbol_some mark.Minus t is)) (0, token (kind.Number 0) nowhere, refl))

  others_primary : Others signs limit (Rule spelled.primary d)
  others_primary = others_as (to_primary d) (from_primary d) (record {
    shape = λ a m row r is. elim r [
      | inl (h, w) ↦ others_negative.shape a m row (subst (λ x. Form d x a (m ∷ row)) (sign_form h m.token (heads.first h a m row w) is) w) is
      | inr w ↦ absurd (let no : is_mark mark.Minus m.token ≡ false = mark_or mark.OpenParen mark.Minus m.token ((starts_parens d (Rule spelled.expression (suc d))).first a m row w) in cc)
    ];
    nonempty = λ a r. elim r [ inl (h, w) ↦ heads.nonempty h a w | inr w ↦ (starts_parens d (Rule spelled.expression (suc d))).nonempty a w ];
    sign = λ t is. let w = others_negative.sign t is in (w.0, w.1, w.2, inl (form.Negative, w.3), w.4);
  })

  pub others_postfix : Others signs limit (Rule spelled.postfix d)
  others_postfix = others_as (to_postfix d) (from_postfix d) (others_spanned steps_node (others_then others_primary (λ x. ((x, []), [], ([], refl, refl)))))

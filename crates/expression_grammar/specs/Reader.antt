-- How expressions are read, from left to right. What nests is read by the readers of one level deeper, if there is one.
use Rattle.std.specs.Prelude.{ℕ, zero, suc, pos, neg_ℤ, Bool, true, List, cond, Option, Some, None}
use Rattle.std.specs.Option.{option_map}
use Rattle.iv_words.specs.declared.Span.{Span}
use Rattle.iv_words.specs.declared.Name.{Name}
use Rattle.iv_words.specs.declared.IntKind.{IntKind}
use Rattle.ivory_lexer.specs.declared.Token.{Token}
use Rattle.ivory_lexer.specs.declared.Mark.{Mark}
use Rattle.ivory_lexer.specs.declared.Mark.TheVariants as mark
use Rattle.ivory_lexer.specs.declared.Key.{Key}
use Rattle.ivory_lexer.specs.declared.Key.TheVariants as key
use Rattle.ivory_tree.specs.Syntax.{Word}
use Rattle.ivory_tree.specs.declared.PrefixOp.{PrefixOp}
use Rattle.ivory_tree.specs.declared.PrefixOp.TheVariants as op
use Rattle.ivory_tree.specs.declared.Expr.{Expr}
use Rattle.ivory_tree.specs.declared.Link.{Link}
use Rattle.ivory_tree.specs.declared.Step.{Step}
use Rattle.reading.specs.Reader.{Reader, ◌>>=◌, ◌<$>◌, accept, after, choose, dispatch, optional, many, spanned, nested, enclosed, prefixed, choose_sign}
use Rattle.expression_grammar.specs.declared.PrimaryForm.{PrimaryForm}
use Rattle.expression_grammar.specs.declared.PrimaryForm.TheVariants as form
use Rattle.expression_grammar.specs.Tokens.{symbol, keyword, is_mark, word_of, name_of, number_of, truth_of, int_of, signs, span_of}
use Rattle.expression_grammar.specs.Operators.{operator, is_operator, plain_prefix, is_plain_prefix}
use Rattle.expression_grammar.specs.Forms.{form_of}
use Rattle.expression_grammar.specs.Trees as tree
use Rattle.expression_grammar.specs.Grammar.{operator_levels}

abbrev pub mark_reader : Mark → Reader Token Span
mark_reader m = accept (symbol m)

abbrev pub key_reader : Key → Reader Token Span
key_reader k = accept (keyword k)

-- ---- primaries

abbrev pub number_reader : Reader Token Expr
number_reader = spanned (λ n ts. tree.literal (pos n) (span_of ts)) (accept number_of)

abbrev pub negative_reader : Reader Token Expr
negative_reader = spanned (λ n ts. tree.literal (neg_ℤ (pos n)) (span_of ts)) (after (mark_reader mark.Minus) (accept number_of))

abbrev pub truth_reader : Reader Token Expr
truth_reader = spanned (λ b ts. tree.truth b (span_of ts)) (accept truth_of)

abbrev pub outcome_reader : Reader Token Expr
outcome_reader = spanned (λ (at : Span) ts. tree.outcome (span_of ts)) (key_reader key.KwResult)

abbrev pub variable_reader : Reader Token Expr
variable_reader = spanned (λ w ts. tree.variable w (span_of ts)) (accept word_of)

-- what stands between parentheses
abbrev pub within : {A : Type 0} → Option (Reader Token A) → Reader Token A
within inner = enclosed (symbol mark.OpenParen) (symbol mark.CloseParen) (λ x _. x) inner

-- a first part, a comma, and an expression
abbrev pub beside : {A : Type 0} → Reader Token A → Reader Token Expr → Reader Token (A × Expr)
beside first expr = first >>= λ a. after (mark_reader mark.Comma) ((λ x. (a, x)) <$> expr)

-- an expression, a field, and the new value
abbrev pub change : Reader Token Expr → Reader Token (Expr × (Name × Expr))
change expr = expr >>= λ x. after (mark_reader mark.Comma) ((λ (p : Name × Expr). (x, p)) <$> beside (accept name_of) expr)

abbrev pub cast_reader : Option (Reader Token Expr) → Reader Token Expr
cast_reader inner = spanned (λ (p : IntKind × Expr) ts. tree.cast p.0 p.1 (span_of ts)) (accept int_of >>= λ k. (λ x. (k, x)) <$> within inner)

abbrev pub to_index_reader : Option (Reader Token Expr) → Reader Token Expr
to_index_reader inner = spanned (λ (p : ℕ × Expr) ts. tree.to_index p.0 p.1 (span_of ts)) (after (key_reader key.KwToix) (within (option_map (beside (accept number_of)) inner)))

abbrev pub wrap_index_reader : Option (Reader Token Expr) → Reader Token Expr
wrap_index_reader inner = spanned (λ (p : ℕ × Expr) ts. tree.wrap_index p.0 p.1 (span_of ts)) (after (key_reader key.KwWrapix) (within (option_map (beside (accept number_of)) inner)))

abbrev pub make_bits_reader : Option (Reader Token Expr) → Reader Token Expr
make_bits_reader inner = spanned (λ (p : Word × Expr) ts. tree.make_bits p.0 p.1 (span_of ts)) (after (key_reader key.KwBits) (within (option_map (beside (accept word_of)) inner)))

abbrev pub raw_reader : Option (Reader Token Expr) → Reader Token Expr
raw_reader inner = spanned (λ x ts. tree.raw x (span_of ts)) (after (key_reader key.KwRaw) (within inner))

abbrev pub set_field_reader : Option (Reader Token Expr) → Reader Token Expr
set_field_reader inner = spanned (λ (p : Expr × (Name × Expr)) ts. tree.set_field p.0 p.1.0 p.1.1 (span_of ts)) (after (key_reader key.KwSet) (within (option_map change inner)))

abbrev pub form_reader : Option (Reader Token Expr) → PrimaryForm → Reader Token Expr
form_reader inner form.Number = number_reader
form_reader inner form.Negative = negative_reader
form_reader inner form.Truth = truth_reader
form_reader inner form.Outcome = outcome_reader
form_reader inner form.Variable = variable_reader
form_reader inner form.Cast = cast_reader inner
form_reader inner form.ToIndex = to_index_reader inner
form_reader inner form.WrapIndex = wrap_index_reader inner
form_reader inner form.MakeBits = make_bits_reader inner
form_reader inner form.Raw = raw_reader inner
form_reader inner form.SetField = set_field_reader inner

unfoldable pub primary_reader : Option (Reader Token Expr) → Reader Token Expr
primary_reader inner = dispatch form_of (form_reader inner) (within inner)

-- ---- fields and elements

abbrev pub field_reader : Reader Token Step
field_reader = after (mark_reader mark.Dot) (tree.field <$> accept name_of)

abbrev pub element_reader : Option (Reader Token Expr) → Reader Token Step
element_reader inner = spanned (λ x ts. tree.index x (span_of ts)) (enclosed (symbol mark.OpenBracket) (symbol mark.CloseBracket) (λ x _. x) inner)

abbrev pub step_reader : Option (Reader Token Expr) → Reader Token Step
step_reader inner = choose (is_mark mark.Dot) field_reader (element_reader inner)

abbrev pub begins_step : Token → Bool
begins_step t = cond (is_mark mark.Dot t) true (is_mark mark.OpenBracket t)

unfoldable pub postfix_reader : Option (Reader Token Expr) → Reader Token Expr
postfix_reader inner = spanned (λ (p : Expr × List Step) ts. tree.with_steps p.0 p.1 (span_of ts))
    (primary_reader inner >>= λ x. (λ steps. (x, steps)) <$> many begins_step (step_reader inner))

-- ---- operators

-- `deeper` reads an operand one level deeper
abbrev pub plain_prefixed_reader : Option (Reader Token Expr) → Reader Token Expr
plain_prefixed_reader deeper = spanned (λ (p : PrefixOp × Expr) ts. tree.prefixed_by p.0 p.1 (span_of ts)) (nested plain_prefix (option_map (λ operand o. (λ x. (o, x)) <$> operand) deeper))

unfoldable pub operand_reader : Option (Reader Token Expr) → Option (Reader Token Expr) → Reader Token Expr
operand_reader inner deeper = choose_sign signs (prefixed (symbol mark.Minus) (λ x ts. tree.prefixed_by op.Neg x (span_of ts)) deeper)
    (choose is_plain_prefix (plain_prefixed_reader deeper) (postfix_reader inner))

abbrev pub link_reader : ℕ → Reader Token Expr → Reader Token Link
link_reader n right = accept (operator n) >>= λ o. tree.link o <$> right

unfoldable pub chain_reader : ℕ → Reader Token Expr → Reader Token Expr
chain_reader zero operand = operand
chain_reader (suc n) operand = spanned (λ (p : Expr × List Link) ts. tree.with_links p.0 p.1 (span_of ts))
    (chain_reader n operand >>= λ x. (λ links. (x, links)) <$> many (is_operator n) (link_reader n (chain_reader n operand)))

abbrev pub both_arms : Reader Token Expr → Reader Token (Expr × Expr)
both_arms expr = expr >>= λ a. after (mark_reader mark.Colon) ((λ b. (a, b)) <$> expr)

abbrev pub arms_of : Reader Token Expr → Span → Reader Token (Expr × Expr)
arms_of expr at = both_arms expr

abbrev pub arms_reader : Option (Reader Token Expr) → Reader Token (Expr × Expr)
arms_reader inner = nested (symbol mark.Question) (option_map arms_of inner)

unfoldable pub expression_reader : Option (Reader Token Expr) → Reader Token Expr → Reader Token Expr
expression_reader inner operand = spanned (λ (p : Expr × Option (Expr × Expr)) ts. tree.with_arms p.0 p.1 (span_of ts))
    (chain_reader operator_levels operand >>= λ x. (λ arms. (x, arms)) <$> optional (is_mark mark.Question) (arms_reader inner))

-- ---- by the number of levels that are left to nest

pub record Readers : Type 0 where
  pub expression : Reader Token Expr
  pub operand : Reader Token Expr

abbrev pub with_deeper : Option (Reader Token Expr) → Option (Reader Token Expr) → Readers
with_deeper inner deeper = record { expression = expression_reader inner (operand_reader inner deeper); operand = operand_reader inner deeper }

unfoldable pub readers : ℕ → Readers
readers zero = with_deeper None None
readers (suc k) = with_deeper (Some (readers k).expression) (Some (readers k).operand)

abbrev pub expression : ℕ → Reader Token Expr
expression k = (readers k).expression

abbrev pub operand : ℕ → Reader Token Expr
operand k = (readers k).operand

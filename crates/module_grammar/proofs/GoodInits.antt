-- The readers of initializers are good.
use Rattle.std.proofs.Common.{◌≡◌, ℕ, zero, suc, ◌+◌, Bool, refl, arith, Option, Some, None}
use Rattle.ivory_lexer.specs.declared.Token.{Token}
use Rattle.ivory_lexer.specs.declared.Mark.TheVariants as mark
use Rattle.ivory_tree.specs.declared.InitText.{InitText}
use Rattle.ivory_tree.specs.declared.InitText.TheVariants as form
use Rattle.reading.specs.Reader.{Reader}
use Rattle.reading.specs.Good.{Good}
use Rattle.reading.proofs.Same.{none, good_as, good_ended, good_map}
use Rattle.reading.proofs.Sequence.{good_after}
use Rattle.reading.proofs.Starts.{StartsWith, starts_then, starts_mapped, starts_either, starts_as, either, either_first, either_second}
use Rattle.reading.proofs.Choice.{good_choice}
use Rattle.reading.proofs.Lists.{good_optional}
use Rattle.reading.proofs.Nesting.{Within, barred_within, read_within, good_nested}
use Rattle.expression_grammar.specs.Tokens.{is_mark, signs}
use Rattle.expression_grammar.specs.Edges.{begins_expression, goes_on}
use Rattle.expression_grammar.proofs.Samples.{nowhere}
use Rattle.expression_grammar.proofs.Tokens.{marked, not_mark}
use Rattle.expression_grammar.proofs.GoodPrimary.{good_symbol}
use Rattle.expression_grammar.proofs.Expressions.{good_expression}
use Rattle.expression_grammar.proofs.Plain.{symbol_plain}
use Rattle.expression_grammar.proofs.Begins.{starts_expression}
use Rattle.module_grammar.specs.Pieces.{FirstValue}
use Rattle.module_grammar.specs.Inits.{Rule}
use Rattle.module_grammar.specs.Inits as inits
use Rattle.module_grammar.specs.InitReader.{up_to_brace, braced_reader, init_reader, init, first_value}
use Rattle.module_grammar.proofs.Terminals.{starts_mark, there_within, good_listed, plain_listed, an_empty_list}
use Rattle.module_grammar.proofs.Placed.{good_placed, starts_placed}
use Rattle.module_grammar.proofs.InitRules.{in_braces, Braced, to_init, from_init}

abbrev pub begins_init : Token → Bool
begins_init = either (is_mark mark.OpenBrace) begins_expression

starts_braced : (d : ℕ) → StartsWith (is_mark mark.OpenBrace) (Braced d)
starts_braced d = starts_placed (starts_mapped in_braces (starts_then (starts_mark (suc d) mark.OpenBrace)))

pub starts_init : (d : ℕ) → StartsWith begins_init (Rule inits.init d)
starts_init d = starts_as (from_init d) (starts_either (is_mark mark.OpenBrace) begins_expression (starts_braced d) (starts_mapped form.One (starts_expression d)))

good_braced : {limit d : ℕ} {inner : Option (Reader Token InitText)} → Within signs limit d goes_on (Rule inits.init (suc d)) inner → Good signs limit none (Braced d) (braced_reader inner)
good_braced {limit} {d} inner =
    good_placed (good_map in_braces (good_nested
    (there_within (λ p _. up_to_brace p) inner
    (λ p within g at. good_listed within mark.CloseBrace refl g (starts_init (suc d)) (λ s. refl) (λ s. refl) (not_mark begins_init mark.CloseBrace (λ s. refl))))
    (λ at. an_empty_list (suc d) mark.CloseBrace (Rule inits.init (suc d))) (symbol_plain mark.OpenBrace refl) (λ at. plain_listed (suc d) mark.CloseBrace refl (Rule inits.init (suc d)))
    nowhere (marked mark.OpenBrace nowhere) refl))

-- with what may follow an area that may have a first value
abbrev pub goes_on_first : Token → Bool
goes_on_first = either (is_mark mark.Assign) goes_on

good_init_with : (limit k d : ℕ) → d + k ≡ limit → (inner : Option (Reader Token InitText)) → Within signs limit d goes_on (Rule inits.init (suc d)) inner
    → Good signs limit goes_on (Rule inits.init d) (init_reader k inner)
good_init_with limit k d e inner within =
    good_as (to_init d) (from_init d)
    (good_choice (is_mark mark.OpenBrace) begins_expression (not_mark begins_expression mark.OpenBrace (λ s. refl))
    (good_ended (good_braced within)) (starts_braced d) (good_map form.One (good_expression limit k d e)) (starts_mapped form.One (starts_expression d)))

pub good_init : (limit k d : ℕ) → d + k ≡ limit → Good signs limit goes_on (Rule inits.init d) (init k)
unfolding init
good_init limit zero d e = good_init_with limit zero d e None (barred_within (omega arith))
good_init limit (suc k) d e = good_init_with limit (suc k) d e (Some (init k)) (read_within (omega arith) (good_init limit k (suc d) (omega arith)))

pub good_first_value : (limit k d : ℕ) → d + k ≡ limit → Good signs limit goes_on_first (FirstValue d) (first_value k)
good_first_value limit k d e =
    good_optional (good_after (good_symbol mark.Assign (omega arith)) (good_init limit k d e)) (starts_then (starts_mark d mark.Assign))
    (either_first (is_mark mark.Assign) goes_on) (either_second (is_mark mark.Assign) goes_on)

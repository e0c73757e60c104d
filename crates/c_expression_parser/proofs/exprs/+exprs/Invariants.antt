-- Each function ranks above those that it calls with as many brackets open.
use Rattle.std.proofs.Common.{◌+◌, ◌-◌, ◌*◌, map}
use Rattle.reading.specs.Reader.{many}
use Rattle.reading.proofs.Turns.{Turns}
use Rattle.grammars.specs.Grammar.{repeat}
use Rattle.grammars.specs.Kinds.{first}
use Rattle.grammars.specs.Reader.{among}
use Rattle.c_grammar.specs.Pieces.{pieces}
use Rattle.c_grammar.specs.Kinds.{lexicon}
use Rattle.c_grammar.specs.ExpressionRules.{step}
use Rattle.c_lexemes.specs.Levels.{most_open, reads_at}
use Rattle.c_expression_parser.specs.Views.{step_of}
use Rattle.c_expression_parser.proofs.exprs.+exprs.Given as goal

abbrev pub decreases-in_squares : goal.decreases-in_squares
decreases-in_squares l = 32 * (most_open - l.depth) + 1

abbrev pub decreases-optional_index : goal.decreases-optional_index
decreases-optional_index l = 32 * (most_open - l.depth) + 2

abbrev pub decreases-step : goal.decreases-step
decreases-step l = 32 * (most_open - l.depth) + 3

abbrev pub decreases-steps : goal.decreases-steps
decreases-steps l = 32 * (most_open - l.depth) + 4

abbrev pub decreases-place_of_name : goal.decreases-place_of_name
decreases-place_of_name l = 32 * (most_open - l.depth) + 5

abbrev pub decreases-pointer : goal.decreases-pointer
decreases-pointer l = 32 * (most_open - l.depth) + 9

abbrev pub decreases-pointer_in_parens : goal.decreases-pointer_in_parens
decreases-pointer_in_parens l = 32 * (most_open - l.depth) + 1

abbrev pub decreases-place_of_pointer : goal.decreases-place_of_pointer
decreases-place_of_pointer l = 32 * (most_open - l.depth) + 5

abbrev pub decreases-place : goal.decreases-place
decreases-place l = 32 * (most_open - l.depth) + 6

abbrev pub decreases-operand : goal.decreases-operand
decreases-operand l = 32 * (most_open - l.depth) + 6

abbrev pub decreases-inner_in_parens : goal.decreases-inner_in_parens
decreases-inner_in_parens l = 32 * (most_open - l.depth) + 1

abbrev pub decreases-behind_inner : goal.decreases-behind_inner
decreases-behind_inner l = 32 * (most_open - l.depth) + 6

abbrev pub decreases-in_parens : goal.decreases-in_parens
decreases-in_parens l = 32 * (most_open - l.depth) + 7

abbrev pub decreases-expression : goal.decreases-expression
decreases-expression l = 32 * (most_open - l.depth) + 8

abbrev pub decreases-other_arm : goal.decreases-other_arm
decreases-other_arm l = 32 * (most_open - l.depth) + 9

abbrev pub decreases-both_arms : goal.decreases-both_arms
decreases-both_arms l = 32 * (most_open - l.depth) + 10

abbrev pub decreases-cond_tail : goal.decreases-cond_tail
decreases-cond_tail l = 32 * (most_open - l.depth) + 11

abbrev pub decreases-binary_tail : goal.decreases-binary_tail
decreases-binary_tail l = 32 * (most_open - l.depth) + 9

abbrev pub decreases-tail : goal.decreases-tail
decreases-tail l = 32 * (most_open - l.depth) + 13

abbrev pub decreases-steps_and_tail : goal.decreases-steps_and_tail
decreases-steps_and_tail l = 32 * (most_open - l.depth) + 14

abbrev pub decreases-operand_first : goal.decreases-operand_first
decreases-operand_first l = 32 * (most_open - l.depth) + 14

abbrev pub decreases-address : goal.decreases-address
decreases-address l = 32 * (most_open - l.depth) + 7

abbrev pub decreases-prefixed : goal.decreases-prefixed
decreases-prefixed l = 32 * (most_open - l.depth) + 9

abbrev pub decreases-unary : goal.decreases-unary
decreases-unary l = 32 * (most_open - l.depth) + 10

abbrev pub decreases-inside_in_parens : goal.decreases-inside_in_parens
decreases-inside_in_parens l = 32 * (most_open - l.depth) + 1

abbrev pub decreases-behind_inside : goal.decreases-behind_inside
decreases-behind_inside l = 32 * (most_open - l.depth) + 16

abbrev pub decreases-cast_or_tail : goal.decreases-cast_or_tail
decreases-cast_or_tail l = 32 * (most_open - l.depth) + 17

abbrev pub decreases-value_inside : goal.decreases-value_inside
decreases-value_inside l = 32 * (most_open - l.depth) + 18

abbrev pub decreases-inner : goal.decreases-inner
decreases-inner l = 32 * (most_open - l.depth) + 19

abbrev pub decreases-inside : goal.decreases-inside
decreases-inside l = 32 * (most_open - l.depth) + 19

abbrev pub decreases-tail_behind_blank : goal.decreases-tail_behind_blank
decreases-tail_behind_blank l = 32 * (most_open - l.depth) + 12

abbrev pub decreases-behind_pointer : goal.decreases-behind_pointer
decreases-behind_pointer l = 32 * (most_open - l.depth) + 5

abbrev pub decreases-pointer_and_tail : goal.decreases-pointer_and_tail
decreases-pointer_and_tail l = 32 * (most_open - l.depth) + 15

abbrev pub decreases-cast_operand : goal.decreases-cast_operand
decreases-cast_operand l = 32 * (most_open - l.depth) + 9

abbrev pub decreases-value_and_tail : goal.decreases-value_and_tail
decreases-value_and_tail l = 32 * (most_open - l.depth) + 14

abbrev pub invariant-steps-loop-turn : goal.invariant-steps-loop-turn
invariant-steps-loop-turn l = let test = among lexicon l.depth (first step) in
    Turns test (reads_at l.depth step) (many test (reads_at l.depth step) (pieces l.bytes)) (l._turn-end - l._turn) (map step_of l.steps) (pieces l.rest)

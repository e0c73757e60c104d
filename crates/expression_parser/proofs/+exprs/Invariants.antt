-- Each function ranks above those that it calls with as many levels left.
use Rattle.std.proofs.Common.{◌+◌, ◌-◌, ◌*◌}
use Rattle.reading.specs.Reader.{below, many}
use Rattle.reading.proofs.Turns.{Turns}
use Rattle.expression_grammar.specs.Operators.{is_operator}
use Rattle.expression_grammar.specs.Reader as reader
use Rattle.expression_grammar.specs.FlatChain.{climb}
use Rattle.expression_grammar.proofs.FlatChain.{Climbs}
use Rattle.expression_parser.proofs.+exprs.Given as goal

abbrev pub decreases-expr::expression : goal.decreases-expr::expression
decreases-expr::expression l = 64 * l.levels + 60

abbrev pub decreases-expr::arms : goal.decreases-expr::arms
decreases-expr::arms l = 64 * l.levels + 59

abbrev pub decreases-expr::other_arm : goal.decreases-expr::other_arm
decreases-expr::other_arm l = 64 * l.levels + 61

abbrev pub decreases-expr::both_arms : goal.decreases-expr::both_arms
decreases-expr::both_arms l = 64 * l.levels + 62

abbrev pub decreases-primary::next_value : goal.decreases-primary::next_value
decreases-primary::next_value l = 64 * l.levels + 61

abbrev pub decreases-primary::length_and_value : goal.decreases-primary::length_and_value
decreases-primary::length_and_value l = 64 * l.levels + 62

abbrev pub decreases-primary::name_and_value : goal.decreases-primary::name_and_value
decreases-primary::name_and_value l = 64 * l.levels + 62

abbrev pub decreases-primary::field_and_value : goal.decreases-primary::field_and_value
decreases-primary::field_and_value l = 64 * l.levels + 62

abbrev pub decreases-primary::next_field : goal.decreases-primary::next_field
decreases-primary::next_field l = 64 * l.levels + 63

abbrev pub decreases-primary::value_and_change : goal.decreases-primary::value_and_change
decreases-primary::value_and_change l = 64 * l.levels + 64

-- a chain ranks above the links of its levels, and these above the chains of their operands

abbrev pub decreases-expr::chain : goal.decreases-expr::chain
decreases-expr::chain l = 64 * l.levels + 8 + 5 * l.level

abbrev pub decreases-expr::climb : goal.decreases-expr::climb
decreases-expr::climb l = 64 * l.levels + 7 + 5 * l.level

abbrev pub decreases-expr::linked : goal.decreases-expr::linked
decreases-expr::linked l = 64 * l.levels + 11 + 5 * l.level

abbrev pub decreases-expr::links : goal.decreases-expr::links
decreases-expr::links l = 64 * l.levels + 10 + 5 * l.level

abbrev pub decreases-expr::link : goal.decreases-expr::link
decreases-expr::link l = 64 * l.levels + 9 + 5 * l.level

abbrev pub decreases-expr::operand : goal.decreases-expr::operand
decreases-expr::operand l = 64 * l.levels + 7

abbrev pub decreases-expr::plain_prefixed : goal.decreases-expr::plain_prefixed
decreases-expr::plain_prefixed l = 64 * l.levels + 6

abbrev pub decreases-expr::negated : goal.decreases-expr::negated
decreases-expr::negated l = 64 * l.levels + 6

abbrev pub decreases-parts::postfix : goal.decreases-parts::postfix
decreases-parts::postfix l = 64 * l.levels + 6

abbrev pub decreases-parts::steps : goal.decreases-parts::steps
decreases-parts::steps l = 64 * l.levels + 4

abbrev pub decreases-parts::step : goal.decreases-parts::step
decreases-parts::step l = 64 * l.levels + 3

abbrev pub decreases-parts::element : goal.decreases-parts::element
decreases-parts::element l = 64 * l.levels + 2

abbrev pub decreases-primary::primary : goal.decreases-primary::primary
decreases-primary::primary l = 64 * l.levels + 5

abbrev pub decreases-primary::of_form : goal.decreases-primary::of_form
decreases-primary::of_form l = 64 * l.levels + 4

abbrev pub decreases-primary::cast : goal.decreases-primary::cast
decreases-primary::cast l = 64 * l.levels + 3

abbrev pub decreases-primary::to_index : goal.decreases-primary::to_index
decreases-primary::to_index l = 64 * l.levels + 3

abbrev pub decreases-primary::wrap_index : goal.decreases-primary::wrap_index
decreases-primary::wrap_index l = 64 * l.levels + 3

abbrev pub decreases-primary::make_bits : goal.decreases-primary::make_bits
decreases-primary::make_bits l = 64 * l.levels + 3

abbrev pub decreases-primary::raw : goal.decreases-primary::raw
decreases-primary::raw l = 64 * l.levels + 3

abbrev pub decreases-primary::set_field : goal.decreases-primary::set_field
decreases-primary::set_field l = 64 * l.levels + 3

abbrev pub decreases-primary::within : goal.decreases-primary::within
decreases-primary::within l = 64 * l.levels + 2

abbrev pub decreases-primary::bracketed : goal.decreases-primary::bracketed
decreases-primary::bracketed l = 64 * l.levels + 1

abbrev pub decreases-primary::indexed : goal.decreases-primary::indexed
decreases-primary::indexed l = 64 * l.levels + 1

abbrev pub decreases-primary::of_type : goal.decreases-primary::of_type
decreases-primary::of_type l = 64 * l.levels + 1

abbrev pub decreases-primary::change : goal.decreases-primary::change
decreases-primary::change l = 64 * l.levels + 1

abbrev pub invariant-expr::climb-loop-at : goal.invariant-expr::climb-loop-at
invariant-expr::climb-loop-at l =
    Climbs (climb l.level 0 (reader.operand l.levels) l.tokens l.fn.first l.fn.rest) (reader.operand l.levels) l.tokens (l.level - l.at) l.at l.chain l.rest

abbrev pub invariant-expr::links-loop-turn : goal.invariant-expr::links-loop-turn
invariant-expr::links-loop-turn l = let link = reader.link_reader l.level (reader.chain_reader l.level (reader.operand l.levels)) in
    Turns (is_operator l.level) link (many (is_operator l.level) link l.tokens) (l._turn-end - l._turn) l.links l.rest

abbrev pub invariant-parts::steps-loop-turn : goal.invariant-parts::steps-loop-turn
invariant-parts::steps-loop-turn l = let step = reader.step_reader (below reader.expression l.levels) in
    Turns reader.begins_step step (many reader.begins_step step l.tokens) (l._turn-end - l._turn) l.steps l.rest

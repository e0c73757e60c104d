use Rattle.std.proofs.Common.{◌+◌, ◌-◌, ◌*◌, ◌∷◌}
use Rattle.ivory_lexer.specs.declared.Mark.TheVariants as marks
use Rattle.reading.specs.Reader.{after, many, mapped}
use Rattle.reading.proofs.Turns.{Turns}
use Rattle.expression_grammar.specs.Tokens.{is_mark}
use Rattle.expression_grammar.specs.Reader.{mark_reader}
use Rattle.module_grammar.specs.InitReader as reader
use Rattle.statement_parser.proofs.init.+inits.Given as goal

abbrev pub decreases-init : goal.decreases-init
decreases-init l = 8 * l.levels + 1

abbrev pub decreases-braced : goal.decreases-braced
decreases-braced l = 8 * l.levels

abbrev pub decreases-next_init : goal.decreases-next_init
decreases-next_init l = 8 * l.levels + 2

abbrev pub decreases-more_inits : goal.decreases-more_inits
decreases-more_inits l = 8 * l.levels + 3

abbrev pub decreases-some_inits : goal.decreases-some_inits
decreases-some_inits l = 8 * l.levels + 4

abbrev pub decreases-up_to_brace : goal.decreases-up_to_brace
decreases-up_to_brace l = 8 * l.levels + 5

abbrev pub invariant-more_inits-loop-turn : goal.invariant-more_inits-loop-turn
invariant-more_inits-loop-turn l = let next = after (mark_reader marks.Comma) (reader.init l.levels) in
    Turns (is_mark marks.Comma) next (mapped (λ more. l.fn.first ∷ more) (many (is_mark marks.Comma) next l.tokens)) (l._turn-end - l._turn) l.inits l.rest

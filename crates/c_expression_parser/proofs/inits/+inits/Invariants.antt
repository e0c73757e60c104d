-- Each function ranks above those that it calls with as many brackets open.
use Rattle.std.proofs.Common.{◌+◌, ◌-◌, ◌*◌, ◌∷◌, map}
use Rattle.reading.specs.Reader.{mapped, many}
use Rattle.reading.proofs.Turns.{Turns}
use Rattle.grammars.specs.Grammar.{after}
use Rattle.grammars.specs.Kinds.{first}
use Rattle.grammars.specs.Reader.{among}
use Rattle.c_grammar.specs.Pieces.{pieces}
use Rattle.c_grammar.specs.Kinds.{lexicon}
use Rattle.c_grammar.specs.Symbols.{comma}
use Rattle.c_grammar.specs.ExpressionRules.{initializer}
use Rattle.c_ast.specs.View.{init_of}
use Rattle.c_lexemes.specs.Levels.{most_open, reads_at}
use Rattle.c_expression_parser.proofs.inits.+inits.Given as goal

abbrev pub decreases-in_braces : goal.decreases-in_braces
decreases-in_braces l = 16 * (most_open - l.depth) + 0

abbrev pub decreases-initializer : goal.decreases-initializer
decreases-initializer l = 16 * (most_open - l.depth) + 1

abbrev pub decreases-next_init : goal.decreases-next_init
decreases-next_init l = 16 * (most_open - l.depth) + 2

abbrev pub decreases-more_inits : goal.decreases-more_inits
decreases-more_inits l = 16 * (most_open - l.depth) + 3

abbrev pub decreases-some_inits : goal.decreases-some_inits
decreases-some_inits l = 16 * (most_open - l.depth) + 4

abbrev pub decreases-initializers : goal.decreases-initializers
decreases-initializers l = 16 * (most_open - l.depth) + 5

abbrev pub invariant-more_inits-loop-turn : goal.invariant-more_inits-loop-turn
invariant-more_inits-loop-turn l =
    let rule = after comma initializer in
    let test = among lexicon l.depth (first rule) in
    Turns test (reads_at l.depth rule) (mapped (λ more. init_of l.fn.first ∷ more) (many test (reads_at l.depth rule) (pieces l.bytes))) (l._turn-end - l._turn) (map init_of l.inits) (pieces l.rest)

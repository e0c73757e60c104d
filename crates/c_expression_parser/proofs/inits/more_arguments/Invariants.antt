use Rattle.std.proofs.Common.{◌+◌, ◌-◌, ◌*◌, ◌∷◌, map}
use Rattle.reading.specs.Reader.{mapped, many}
use Rattle.reading.proofs.Turns.{Turns}
use Rattle.grammars.specs.Grammar.{after}
use Rattle.grammars.specs.Kinds.{first}
use Rattle.grammars.specs.Reader.{among}
use Rattle.c_grammar.specs.Pieces.{pieces}
use Rattle.c_grammar.specs.Kinds.{lexicon}
use Rattle.c_grammar.specs.Symbols.{comma}
use Rattle.c_grammar.specs.ExpressionRules.{expression}
use Rattle.c_ast.specs.View.{expr_of}
use Rattle.c_lexemes.specs.Levels.{most_open, reads_at}
use Rattle.c_expression_parser.proofs.inits.more_arguments.Given as goal

abbrev pub invariant-loop-turn : goal.invariant-loop-turn
invariant-loop-turn l =
    let rule = after comma expression in
    let test = among lexicon l.depth (first rule) in
    Turns test (reads_at l.depth rule) (mapped (λ more. expr_of l.fn.first ∷ more) (many test (reads_at l.depth rule) (pieces l.bytes))) (l._turn-end - l._turn) (map expr_of l.arguments) (pieces l.rest)

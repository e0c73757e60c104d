use Rattle.std.proofs.Common.{◌+◌, ◌-◌, ◌*◌, ◌∷◌}
use Rattle.reading.specs.Reader.{mapped, many}
use Rattle.reading.proofs.Turns.{Turns}
use Rattle.grammars.specs.Grammar.{after}
use Rattle.grammars.specs.Kinds.{first}
use Rattle.grammars.specs.Reader.{among}
use Rattle.c_grammar.specs.Pieces.{pieces}
use Rattle.c_grammar.specs.Kinds.{lexicon}
use Rattle.c_grammar.specs.Symbols.{comma}
use Rattle.c_grammar.specs.UnitRules.{param}
use Rattle.c_lexemes.specs.Levels.{most_open, reads_at}
use Rattle.c_parser.proofs.function.more_params.Given as goal

abbrev pub invariant-loop-turn : goal.invariant-loop-turn
invariant-loop-turn l =
    let rule = after comma param in
    let test = among lexicon l.depth (first rule) in
    Turns test (reads_at l.depth rule) (mapped (λ more. l.fn.first ∷ more) (many test (reads_at l.depth rule) (pieces l.bytes))) (l._turn-end - l._turn) l.params (pieces l.rest)

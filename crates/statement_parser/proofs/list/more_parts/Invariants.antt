use Rattle.std.proofs.Common.{◌-◌, ◌∷◌}
use Rattle.ivory_lexer.specs.declared.Mark.TheVariants as marks
use Rattle.reading.specs.Reader.{after, many, mapped}
use Rattle.reading.proofs.Turns.{Turns}
use Rattle.expression_grammar.specs.Tokens.{is_mark}
use Rattle.expression_grammar.specs.Reader.{mark_reader}
use Rattle.statement_parser.proofs.list.more_parts.Given as goal

abbrev pub invariant-loop-turn : goal.invariant-loop-turn
invariant-loop-turn g l = let next = after (mark_reader marks.Comma) (g.T.Part.reader l.levels) in
    Turns (is_mark marks.Comma) next (mapped (λ more. l.fn.first ∷ more) (many (is_mark marks.Comma) next l.tokens)) (l._turn-end - l._turn) l.parts l.rest

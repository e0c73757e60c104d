use Rattle.std.proofs.Common.{◌-◌, ◌++◌}
use Rattle.reading.specs.Reader.{many, mapped}
use Rattle.reading.proofs.Turns.{Turns}
use Rattle.statement_parser.proofs.list.further.Given as goal

abbrev pub invariant-loop-turn : goal.invariant-loop-turn
invariant-loop-turn g l = let part = g.T.Part.reader l.levels in
    Turns g.T.Repeated.first part (mapped (λ more. l.fn.first ++ more) (many g.T.Repeated.first part l.tokens)) (l._turn-end - l._turn) l.parts l.rest

use Rattle.std.proofs.Common.{◌-◌}
use Rattle.c_grammar.specs.Pieces.{pieces}
use Rattle.c_grammar.specs.UnitRules as rules
use Rattle.c_lexemes.specs.Levels.{reads_at}
use Rattle.c_parser.specs.Views.{stage_number}
use Rattle.c_parser.proofs.Staged.{Staged}
use Rattle.c_parser.proofs.unit.items.Given as goal

abbrev pub invariant-loop-turn : goal.invariant-loop-turn
invariant-loop-turn l = Staged l.depth (reads_at l.depth rules.items (pieces l.bytes)) (l._turn-end - l._turn) (stage_number l.stage) l.items (pieces l.rest)

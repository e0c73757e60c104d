-- Each function ranks above those that it calls with as many brackets open.
use Rattle.std.proofs.Common.{◌+◌, ◌-◌, ◌*◌, map}
use Rattle.reading.specs.Reader.{many}
use Rattle.reading.proofs.Turns.{Turns}
use Rattle.grammars.specs.Kinds.{first}
use Rattle.grammars.specs.Reader.{among}
use Rattle.c_ast.specs.View.{stmt_of}
use Rattle.c_grammar.specs.Pieces.{pieces}
use Rattle.c_grammar.specs.Kinds.{lexicon}
use Rattle.c_grammar.specs.StatementRules as rules
use Rattle.c_lexemes.specs.Levels.{most_open, reads_at}
use Rattle.c_statement_parser.proofs.stmts.+statements.Given as goal

abbrev pub decreases-block : goal.decreases-block
decreases-block l = 16 * (most_open - l.depth) + 0

abbrev pub decreases-else_block : goal.decreases-else_block
decreases-else_block l = 16 * (most_open - l.depth) + 1

abbrev pub decreases-loop_body : goal.decreases-loop_body
decreases-loop_body l = 16 * (most_open - l.depth) + 1

abbrev pub decreases-otherwise : goal.decreases-otherwise
decreases-otherwise l = 16 * (most_open - l.depth) + 2

abbrev pub decreases-both_blocks : goal.decreases-both_blocks
decreases-both_blocks l = 16 * (most_open - l.depth) + 3

abbrev pub decreases-branches : goal.decreases-branches
decreases-branches l = 16 * (most_open - l.depth) + 4

abbrev pub decreases-if_statement : goal.decreases-if_statement
decreases-if_statement l = 16 * (most_open - l.depth) + 5

abbrev pub decreases-for_statement : goal.decreases-for_statement
decreases-for_statement l = 16 * (most_open - l.depth) + 5

abbrev pub decreases-statement : goal.decreases-statement
decreases-statement l = 16 * (most_open - l.depth) + 6

abbrev pub decreases-statement_end : goal.decreases-statement_end
decreases-statement_end l = 16 * (most_open - l.depth) + 7

abbrev pub decreases-statement_line : goal.decreases-statement_line
decreases-statement_line l = 16 * (most_open - l.depth) + 8

abbrev pub decreases-statement_lines : goal.decreases-statement_lines
decreases-statement_lines l = 16 * (most_open - l.depth) + 9

abbrev pub decreases-lines : goal.decreases-lines
decreases-lines l = 16 * (most_open - l.depth) + 10

abbrev pub decreases-block_lines : goal.decreases-block_lines
decreases-block_lines l = 16 * (most_open - l.depth) + 11

abbrev pub invariant-statement_lines-loop-turn : goal.invariant-statement_lines-loop-turn
invariant-statement_lines-loop-turn l =
    let test = among lexicon l.depth (first rules.statement_line) in
    Turns test (reads_at l.depth rules.statement_line) (many test (reads_at l.depth rules.statement_line) (pieces l.bytes)) (l._turn-end - l._turn) (map stmt_of l.lines) (pieces l.rest)

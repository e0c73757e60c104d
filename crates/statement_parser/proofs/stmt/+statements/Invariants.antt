-- Each function ranks above those that it calls with as many levels left.
use Rattle.std.proofs.Common.{◌+◌, ◌-◌, ◌*◌}
use Rattle.reading.specs.Reader.{many}
use Rattle.reading.proofs.Turns.{Turns}
use Rattle.module_grammar.specs.StatementReader as reader
use Rattle.statement_parser.proofs.stmt.+statements.Given as goal

abbrev pub decreases-statements : goal.decreases-statements
decreases-statements l = 32 * l.levels + 16

abbrev pub decreases-statement : goal.decreases-statement
decreases-statement l = 32 * l.levels + 15

abbrev pub decreases-kind_of_statement : goal.decreases-kind_of_statement
decreases-kind_of_statement l = 32 * l.levels + 14

abbrev pub decreases-of_form : goal.decreases-of_form
decreases-of_form l = 32 * l.levels + 13

abbrev pub decreases-if_else : goal.decreases-if_else
decreases-if_else l = 32 * l.levels + 12

abbrev pub decreases-forever : goal.decreases-forever
decreases-forever l = 32 * l.levels + 12

abbrev pub decreases-no_alloc : goal.decreases-no_alloc
decreases-no_alloc l = 32 * l.levels + 12

abbrev pub decreases-no_break : goal.decreases-no_break
decreases-no_break l = 32 * l.levels + 12

abbrev pub decreases-no_return : goal.decreases-no_return
decreases-no_return l = 32 * l.levels + 12

abbrev pub decreases-map : goal.decreases-map
decreases-map l = 32 * l.levels + 12

abbrev pub decreases-upto : goal.decreases-upto
decreases-upto l = 32 * l.levels + 12

abbrev pub decreases-downto : goal.decreases-downto
decreases-downto l = 32 * l.levels + 12

abbrev pub decreases-bound_and_block : goal.decreases-bound_and_block
decreases-bound_and_block l = 32 * l.levels + 11

abbrev pub decreases-keyword_and_block : goal.decreases-keyword_and_block
decreases-keyword_and_block l = 32 * l.levels + 11

abbrev pub decreases-if_rest : goal.decreases-if_rest
decreases-if_rest l = 32 * l.levels + 11

abbrev pub decreases-otherwise : goal.decreases-otherwise
decreases-otherwise l = 32 * l.levels + 10

abbrev pub decreases-alternative : goal.decreases-alternative
decreases-alternative l = 32 * l.levels + 9

abbrev pub decreases-else_if : goal.decreases-else_if
decreases-else_if l = 32 * l.levels + 8

abbrev pub decreases-block : goal.decreases-block
decreases-block l = 32 * l.levels + 8

abbrev pub invariant-statements-loop-turn : goal.invariant-statements-loop-turn
invariant-statements-loop-turn l =
    Turns reader.begins_statement (reader.statement l.levels) (many reader.begins_statement (reader.statement l.levels) l.tokens) (l._turn-end - l._turn) l.stmts l.rest

use Rattle.std.proofs.Common.{◌+◌, ◌*◌}
use Rattle.statement_parser.proofs.area.+areas.Given as goal

abbrev pub decreases-area_text : goal.decreases-area_text
decreases-area_text l = 4 * l.levels + 1

abbrev pub decreases-array : goal.decreases-array
decreases-array l = 4 * l.levels

abbrev pub decreases-array_rest : goal.decreases-array_rest
decreases-array_rest l = 4 * l.levels + 2

-- Each truth so far has its bit.
use Rattle.std.proofs.Common.{IsTrue}
use Rattle.std.specs.List.{list_all}
use Rattle.bit_data.specs.Layouts.{has_its_bit}
use Rattle.worked_rows.proofs.bit_fields.layout_of.Given as goal

abbrev pub invariant-loop-row : goal.invariant-loop-row
invariant-loop-row l = IsTrue (list_all has_its_bit l.wishes)

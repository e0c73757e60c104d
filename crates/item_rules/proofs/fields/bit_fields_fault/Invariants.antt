-- No field so far has a fault.
use Rattle.std.proofs.Common.{◌≡◌, [], take, drop}
use Rattle.rule_faults.specs.FirstFault.{first_of}
use Rattle.rule_faults.specs.ItemRows.{bit_fields_row}
use Rattle.item_rules.specs.Fields.{bit_names}
use Rattle.item_rules.proofs.fields.bit_fields_fault.Given as goal

abbrev pub invariant-loop-at : goal.invariant-loop-at
invariant-loop-at l = first_of (bit_fields_row (bit_names (take l.at l.all)) (drop l.at l.all)) ≡ first_of (bit_fields_row [] l.all)

-- No field so far has a fault.
use Rattle.std.proofs.Common.{◌≡◌, [], take, drop, map}
use Rattle.ivory_tree.specs.View.{field_of}
use Rattle.rule_checker.specs.Contexts.{earlier_of}
use Rattle.rule_faults.specs.FirstFault.{first_of}
use Rattle.rule_faults.specs.ItemRows.{fields_row}
use Rattle.item_rules.specs.Fields.{field_names}
use Rattle.item_rules.proofs.fields.fields_fault.Given as goal

abbrev pub invariant-loop-at : goal.invariant-loop-at
invariant-loop-at l = first_of (fields_row (earlier_of l.items) (field_names (map field_of (take l.at l.all))) (map field_of (drop l.at l.all))) ≡ first_of (fields_row (earlier_of l.items) [] (map field_of l.all))

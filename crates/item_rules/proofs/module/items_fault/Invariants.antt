-- No item so far has a fault, and what they declare is known.
use Rattle.std.proofs.Common.{◌≡◌, drop, map}
use Rattle.ivory_tree.specs.View.{item_of}
use Rattle.rule_checker.specs.Contexts.{context_of, earlier_of}
use Rattle.rule_faults.specs.Contexts.{outside}
use Rattle.rule_faults.specs.FirstFault.{first_of}
use Rattle.rule_faults.specs.ItemRows.{items_row}
use Rattle.item_rules.proofs.module.items_fault.Given as goal

abbrev pub invariant-loop-item : goal.invariant-loop-item
invariant-loop-item l = record {
  rest : first_of (items_row l.context.names (earlier_of l.context.items) (map item_of (drop l.item-index l.items))) ≡ first_of (items_row l.initial.context.names (earlier_of l.initial.context.items) (map item_of l.items));
  view : context_of l.context ≡ outside l.context.names (earlier_of l.context.items);
}

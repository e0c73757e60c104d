-- The names so far, and then those of the rest.
use Rattle.std.proofs.Common.{◌≡◌, ◌++◌, drop, map}
use Rattle.ivory_tree.specs.View.{item_of}
use Rattle.source_types.specs.Items.{item_names}
use Rattle.item_rules.proofs.module.names_in.Given as goal

abbrev pub invariant-loop-item : goal.invariant-loop-item
invariant-loop-item l = l.names ++ item_names (map item_of (drop l.item-index l.items)) ≡ item_names (map item_of l.items)

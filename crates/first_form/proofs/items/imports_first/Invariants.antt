-- So many imports, and those that stand first in the rest.
use Rattle.std.proofs.Common.{◌≡◌, ◌+◌, ◌≤◌, drop}
use Rattle.std.specs.List.{prefix_len}
use Rattle.ivory_tree.specs.View.{item_of}
use Rattle.first_form.specs.Parts.{is_import}
use Rattle.first_form.proofs.items.imports_first.Given as goal

abbrev pub invariant-loop-item : goal.invariant-loop-item
invariant-loop-item l = record {
  within : l.count ≤ l.item-index;
  all : l.count + prefix_len (λ item. is_import (item_of item)) (drop l.item-index l.items) ≡ prefix_len (λ item. is_import (item_of item)) l.items;
}

-- The names so far.
use Rattle.std.proofs.Common.{◌≡◌, take, map}
use Rattle.ivory_tree.specs.View.{item_of}
use Rattle.first_form.specs.Stands.{names_of}
use Rattle.first_form.proofs.items.names_of.Given as goal

abbrev pub invariant-loop-item : goal.invariant-loop-item
invariant-loop-item l = l.names ≡ names_of (map item_of (take l.item-index l.items))

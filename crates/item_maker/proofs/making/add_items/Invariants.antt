-- What the rest makes of what is made so far; the rest has the form of a text too.
use Rattle.std.proofs.Common.{◌≡◌, drop, map}
use Rattle.std.specs.Prelude.{All}
use Rattle.ivory_tree.specs.Formed.{FormedItem}
use Rattle.ivory_tree.specs.View as text
use Rattle.item_maker.specs.Making.{so_far, with_items}
use Rattle.item_maker.proofs.making.add_items.Given as goal

abbrev pub invariant-loop-item : goal.invariant-loop-item
invariant-loop-item l = record {
  rest : with_items (so_far l.making) (map text.item_of (drop l.item-index l.items)) ≡ with_items (so_far l.initial.making) (map text.item_of l.items);
  formed : All FormedItem (map text.item_of (drop l.item-index l.items));
}

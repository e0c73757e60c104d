-- What stays of a place within an item, and what is known of its regions.
use Rattle.std.specs.Prelude.{◌≡◌, ◌≤◌, length}
use Rattle.core_maker.specs.declared.Place.{Place}

-- the items before it, and the names of the module
pub record SameItems (before now : Place) : Type 0 where
  pub items : now.context.items ≡ before.context.items
  pub names : now.context.names ≡ before.context.names

-- each region parameter has a number
abbrev pub HasFewRegions : Place → Type 0
HasFewRegions p = length p.context.regions ≤ 4_294_967_296

-- What stays of a context within an item.
use Rattle.std.specs.Prelude.{◌≡◌}
use Rattle.rule_checker.specs.declared.Context.{Context}

-- the items before it, and the names of the module
pub record Around (before now : Context) : Type 0 where
  pub items : now.items ≡ before.items
  pub names : now.names ≡ before.names

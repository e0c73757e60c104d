-- What stays of a context while statements add names to its scope.
use Rattle.std.specs.Prelude.{◌≡◌, length, take}
use Rattle.rule_checker.specs.declared.Context.{Context}

-- the names that were in scope stay, and more may stand behind them
pub record Kept (before now : Context) : Type 0 where
  pub others : now ≡ record before { scope = now.scope }
  pub front : take (length before.scope) now.scope ≡ before.scope

-- What stays of the names in scope while statements add to them.
use Rattle.std.specs.Prelude.{◌≡◌, length, take}
use Rattle.c_scopes.specs.declared.names.Names.{Names}

-- the names that were there stay, and more may stand behind them
pub record Kept (before now : Names) : Type 0 where
  pub others : now ≡ record before { values = now.values }
  pub front : take (length before.values) now.values ≡ before.values

-- all stay, save the functions that can be called
abbrev pub OthersStay : Names → Names → Type 0
OthersStay before now = now ≡ record before { functions = now.functions }

-- all stay, save the objects of file scope
abbrev pub ButObjects : Names → Names → Type 0
ButObjects before now = now ≡ record before { objects = now.objects }

-- What stays of a place while statements are made: what was known before them, more names in scope, and more locals.
use Rattle.std.specs.Prelude.{◌≡◌, List, length, take}
use Rattle.area_types.specs.declared.ValueType.{ValueType}
use Rattle.statement_rules.specs.Kept as contexts
use Rattle.core_maker.specs.Places.{Agrees}
use Rattle.core_maker.specs.declared.place.Place.{Place}

-- the names that were in scope stay with their numbers, and more may stand behind them
pub record Kept (before now : Place) : Type 0 where
  pub context : contexts.Kept before.context now.context
  pub numbers : take (length before.numbers) now.numbers ≡ before.numbers

-- and each name has a type and a number
pub record Stays (before now : Place) : Type 0 where
  pub kept : Kept before now
  pub agrees : Agrees now

abbrev pub with_locals : Place → List ValueType → Place
with_locals place locals = record place { locals = locals }

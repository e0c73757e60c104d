-- The initializer of an area of the module. Its checks have numbers of their own, and no part in the core.
use Rattle.std.specs.Prelude.{Option, Some, None}
use Rattle.ivory_tree.specs.Syntax.{InitSyntax}
use Rattle.area_types.specs.Syntax.{Area}
use Rattle.core_tree.specs.Syntax.{InitCore}
use Rattle.check_numbers.specs.NumberedParts.{init_from}
use Rattle.typing_rules.specs.Environments.{Env}
use Rattle.typing_rules.specs.StatementCores.{init_core}

abbrev pub numbered_init : Env → Area → Option InitSyntax → Option InitCore
numbered_init env area None = None
numbered_init env area (Some i) = Some (init_from 0 (init_core env area i))

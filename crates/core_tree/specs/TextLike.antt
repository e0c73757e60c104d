-- What the core of every text has: its names are names, and it is not too deep. What a name is, the table of tokens says.
use Rattle.std.specs.Prelude.{◌≤◌, All}
use Rattle.ivory_tree.specs.TextLike.{most_open}
use Rattle.area_types.specs.Syntax.{Name}
use Rattle.core_tree.specs.Syntax.{ModuleCore}
use Rattle.core_tree.specs.Names.{module_names}
use Rattle.core_tree.specs.Depth.{module_depth}

pub record TextLike (IsName : Name → Type 0) (m : ModuleCore) : Type 0 where
  pub names : All IsName (module_names m)
  pub shallow : module_depth m ≤ most_open

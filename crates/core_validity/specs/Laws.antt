-- What holds of the core that a module stands for: it is valid, its names are names of the text, and it is no deeper than the text.
use Rattle.std.specs.Prelude.{ℕ, ◌≤◌, All, Contains}
use Rattle.ivory_tree.specs.Syntax.{ModuleSyntax}
use Rattle.ivory_tree.specs.Formed.{Formed}
use Rattle.ivory_tree.specs.Nodes.{module_nodes, nodes_count}
use Rattle.ivory_tree.specs.Names as text
use Rattle.ivory_tree.specs.Depth as text_depth
use Rattle.core_tree.specs.Syntax.{ModuleCore}
use Rattle.core_tree.specs.Names.{module_names}
use Rattle.core_tree.specs.Depth.{module_depth}
use Rattle.core_tree.specs.Valid.{ValidCore}
use Rattle.typing_rules.specs.WellTyped.{Stands}

-- a module has no more nodes than this, so that each struct has a number
abbrev pub most_nodes : ℕ
most_nodes = 2_147_483_648

-- what a module of the form of a text stands for is a valid core
abbrev pub StandingIsValid : Type 0
StandingIsValid = (m : ModuleSyntax) (core : ModuleCore) → Formed m → nodes_count (module_nodes m) ≤ most_nodes → Stands m core → ValidCore core

-- each name in the core is one in the text
abbrev pub NamesAreOfTheText : Type 0
NamesAreOfTheText = (m : ModuleSyntax) (core : ModuleCore) → Stands m core → All (Contains (text.module_names m)) (module_names core)

-- no place in the core is deeper than the text
abbrev pub CoreIsNoDeeper : Type 0
CoreIsNoDeeper = (m : ModuleSyntax) (core : ModuleCore) → Stands m core → module_depth core ≤ text_depth.module_depth m

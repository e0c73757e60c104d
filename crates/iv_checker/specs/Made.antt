-- What is made of a module, and the core of that with a table of structs.
use Rattle.ivory_tree.specs.Syntax.{ModuleSyntax}
use Rattle.area_types.specs.Tables.{Table}
use Rattle.core_tree.specs.Syntax.{ModuleCore}
use Rattle.source_types.specs.Items.{item_names}
use Rattle.item_maker.specs.Making.{SoFar, nothing_made, with_items}

abbrev pub all_made : ModuleSyntax → SoFar
all_made m = with_items (nothing_made (item_names m.items)) m.items

abbrev pub core_with : Table → SoFar → ModuleCore
core_with table x = record { structs = table; layouts = x.layouts; areas = x.areas; imports = x.imports; procs = x.procs }

-- The core of a module, as a function of its text: those of its items, with each check numbered by the checks that stand before it. A module that
-- is well typed stands for this core and for no other.
use Rattle.std.specs.Prelude.{List, [], ◌∷◌, map}
use Rattle.std.specs.List.{flat_map}
use Rattle.ivory_tree.specs.Syntax.{Word, ItemSyntax, BitsData, Struct, Global, Import, Procedure, ModuleSyntax}
use Rattle.bit_data.specs.declared.BitLayout.{BitLayout}
use Rattle.core_tree.specs.Syntax.{AreaCore, ImportCore, ProcCore, ModuleCore}
use Rattle.core_tree.specs.Checks.{proc_checks}
use Rattle.source_types.specs.Environments.{Earlier, nothing_earlier, words}
use Rattle.source_types.specs.Items.{after, item_names}
use Rattle.typing_rules.specs.OtherChecks.{proc_by}
use Rattle.typing_rules.specs.Numbers.{numbered_by}
use Rattle.typing_rules.specs.Tables.{table_of}
use Rattle.typing_rules.specs.WellTyped.{outside, at_header}
use Rattle.typing_rules.specs.ItemCores.{layout_core, area_core, import_core, proc_core}

-- ---- of items after earlier ones

-- what is declared at their end
abbrev pub end_of : Earlier → List ItemSyntax → Earlier
end_of earlier [] = earlier
end_of earlier (i ∷ items) = end_of (after earlier i) items

abbrev pub layouts_of : List ItemSyntax → List BitLayout
layouts_of [] = []
layouts_of (BitsData i ∷ items) = layout_core i ∷ layouts_of items
layouts_of (Struct i ∷ items) = layouts_of items
layouts_of (Global i ∷ items) = layouts_of items
layouts_of (Import h ∷ items) = layouts_of items
layouts_of (Procedure p ∷ items) = layouts_of items

abbrev pub areas_of : List Word → Earlier → List ItemSyntax → List AreaCore
areas_of names earlier [] = []
areas_of names earlier (BitsData i ∷ items) = areas_of names (after earlier (BitsData i)) items
areas_of names earlier (Struct i ∷ items) = areas_of names (after earlier (Struct i)) items
areas_of names earlier (Global i ∷ items) = area_core (outside names earlier) i ∷ areas_of names (after earlier (Global i)) items
areas_of names earlier (Import h ∷ items) = areas_of names (after earlier (Import h)) items
areas_of names earlier (Procedure p ∷ items) = areas_of names (after earlier (Procedure p)) items

abbrev pub imports_of : List Word → Earlier → List ItemSyntax → List ImportCore
imports_of names earlier [] = []
imports_of names earlier (BitsData i ∷ items) = imports_of names (after earlier (BitsData i)) items
imports_of names earlier (Struct i ∷ items) = imports_of names (after earlier (Struct i)) items
imports_of names earlier (Global i ∷ items) = imports_of names (after earlier (Global i)) items
imports_of names earlier (Import h ∷ items) = import_core (at_header names earlier h) h ∷ imports_of names (after earlier (Import h)) items
imports_of names earlier (Procedure p ∷ items) = imports_of names (after earlier (Procedure p)) items

abbrev pub procs_of : List Word → Earlier → List ItemSyntax → List ProcCore
procs_of names earlier [] = []
procs_of names earlier (BitsData i ∷ items) = procs_of names (after earlier (BitsData i)) items
procs_of names earlier (Struct i ∷ items) = procs_of names (after earlier (Struct i)) items
procs_of names earlier (Global i ∷ items) = procs_of names (after earlier (Global i)) items
procs_of names earlier (Import h ∷ items) = procs_of names (after earlier (Import h)) items
procs_of names earlier (Procedure p ∷ items) = proc_core (at_header names earlier p.header) p ∷ procs_of names (after earlier (Procedure p)) items

-- ---- the whole

-- each check of these procedures with its number among them
abbrev pub numbered : List ProcCore → List ProcCore
numbered procs = map (proc_by (numbered_by (flat_map proc_checks procs))) procs

abbrev pub made_of : List Word → List ItemSyntax → ModuleCore
made_of names items = record {
  structs = table_of (end_of nothing_earlier items).structs (words (end_of nothing_earlier items));
  layouts = layouts_of items;
  areas = areas_of names nothing_earlier items;
  imports = imports_of names nothing_earlier items;
  procs = numbered (procs_of names nothing_earlier items);
}

abbrev pub made : ModuleSyntax → ModuleCore
made m = made_of (item_names m.items) m.items

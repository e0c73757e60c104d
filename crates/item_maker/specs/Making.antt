-- The cores of items one after another: of each kind those so far, what they declare, and the number of the next check.
use Rattle.std.specs.Prelude.{ℕ, List, [], ◌∷◌, ◌++◌, map}
use Rattle.ivory_tree.specs.Syntax.{Word, ItemSyntax, BitsData, Struct, Global, Import, Procedure, GlobalSyntax, HeaderSyntax, ProcSyntax}
use Rattle.ivory_tree.specs.declared.items.BitsItem.{BitsItem}
use Rattle.bit_data.specs.declared.BitLayout.{BitLayout}
use Rattle.core_tree.specs.Syntax.{AreaCore, ImportCore, ProcCore}
use Rattle.core_tree.specs.View.{area_item_of, import_of, proc_of}
use Rattle.check_numbers.specs.NumberedParts.{proc_from, proc_after}
use Rattle.rule_checker.specs.Contexts.{earlier_of}
use Rattle.source_types.specs.Environments.{Earlier, nothing_earlier}
use Rattle.source_types.specs.Items.{after}
use Rattle.typing_rules.specs.ItemCores.{layout_core, area_core, import_core, proc_core}
use Rattle.typing_rules.specs.WellTyped.{outside, at_header}
use Rattle.item_maker.specs.declared.making.Making.{Making}

pub record SoFar : Type 0 where
  pub names : List Word
  pub earlier : Earlier
  pub layouts : List BitLayout
  pub areas : List AreaCore
  pub imports : List ImportCore
  pub procs : List ProcCore
  pub next : ℕ

abbrev pub so_far : Making → SoFar
so_far m = record {
  names = m.place.context.names;
  earlier = earlier_of m.place.context.items;
  layouts = m.layouts;
  areas = map area_item_of m.areas;
  imports = map import_of m.imports;
  procs = map proc_of m.procs;
  next = m.next;
}

abbrev pub nothing_made : List Word → SoFar
nothing_made names = record { names = names; earlier = nothing_earlier; layouts = []; areas = []; imports = []; procs = []; next = 0 }

-- ---- with the core of one more item

abbrev pub with_layout : SoFar → BitsItem → SoFar
with_layout m i = record m { layouts = m.layouts ++ layout_core i ∷ [] }

abbrev pub with_area : SoFar → GlobalSyntax → SoFar
with_area m i = record m { areas = m.areas ++ area_core (outside m.names m.earlier) i ∷ [] }

abbrev pub with_import : SoFar → HeaderSyntax → SoFar
with_import m h = record m { imports = m.imports ++ import_core (at_header m.names m.earlier h) h ∷ [] }

abbrev pub with_proc : SoFar → ProcSyntax → SoFar
with_proc m p = record m {
  procs = m.procs ++ proc_from m.next (proc_core (at_header m.names m.earlier p.header) p) ∷ [];
  next = proc_after m.next (proc_core (at_header m.names m.earlier p.header) p);
}

abbrev pub with_core : SoFar → ItemSyntax → SoFar
with_core m (BitsData i) = with_layout m i
with_core m (Struct i) = m
with_core m (Global i) = with_area m i
with_core m (Import h) = with_import m h
with_core m (Procedure p) = with_proc m p

-- and with what it declares
abbrev pub with_item : SoFar → ItemSyntax → SoFar
with_item m i = record (with_core m i) { earlier = after m.earlier i }

abbrev pub with_items : SoFar → List ItemSyntax → SoFar
with_items m [] = m
with_items m (i ∷ items) = with_items (with_item m i) items

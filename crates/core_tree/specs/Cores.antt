-- What contracts see of a core: its parts, and what they say in the abstract syntax.
use Rattle.std.specs.Prelude.{List, map}
use Rattle.area_types.specs.Tables.{Table}
use Rattle.bit_data.specs.declared.layout.BitLayout.{BitLayout}
use Rattle.core_tree.specs.Syntax.{ModuleCore}
use Rattle.core_tree.specs.View.{area_item_of, import_of, proc_of}
use Rattle.core_tree.specs.declared.items.CoreArea.{CoreArea}
use Rattle.core_tree.specs.declared.items.CoreImport.{CoreImport}
use Rattle.core_tree.specs.declared.items.CoreProc.{CoreProc}

pub record Parts : Type 0 where
  pub structs : Table
  pub layouts : List BitLayout
  pub areas : List CoreArea
  pub imports : List CoreImport
  pub procs : List CoreProc

abbrev pub core_of : Parts → ModuleCore
core_of p = record { structs = p.structs; layouts = p.layouts; areas = map area_item_of p.areas; imports = map import_of p.imports; procs = map proc_of p.procs }

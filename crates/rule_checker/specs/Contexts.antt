-- What the code knows at a place, as the rules see it.
use Rattle.std.specs.Prelude.{map, option_map}
use Rattle.area_types.specs.View.{type_of, area_of, struct_of}
use Rattle.source_types.specs.Environments.{Earlier, AreaDeclared, Callee}
use Rattle.rule_faults.specs.Contexts as rules
use Rattle.rule_checker.specs.declared.items.AreaEntry.{AreaEntry}
use Rattle.rule_checker.specs.declared.items.CalleeEntry.{CalleeEntry}
use Rattle.rule_checker.specs.declared.items.Items.{Items}
use Rattle.rule_checker.specs.declared.scope.Local.{Local}
use Rattle.rule_checker.specs.declared.scope.Context.{Context}

abbrev pub area_entry_of : AreaEntry → AreaDeclared
area_entry_of a = record { name = a.name; constant = a.constant; area = option_map area_of a.area }

abbrev pub callee_entry_of : CalleeEntry → Callee
callee_entry_of c = record { name = c.name; import = c.import; params = map (option_map type_of) c.params; gives = c.gives; result = option_map type_of c.result }

abbrev pub earlier_of : Items → Earlier
earlier_of items = record { bits = items.bits; structs = map struct_of items.structs; areas = map area_entry_of items.areas; callees = map callee_entry_of items.callees }

abbrev pub local_of : Local → rules.Local
local_of l = record { name = l.name; ty = option_map type_of l.ty }

abbrev pub context_of : Context → rules.Context
context_of c = record {
  earlier = earlier_of c.items;
  names = c.names;
  regions = c.regions;
  gives = c.gives;
  result = option_map type_of c.result;
  in_ensures = c.in_ensures;
  allowed = c.allowed;
  scope = map local_of c.scope;
}

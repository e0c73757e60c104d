-- The names of items, in their order; those of imports and of procedures also each for themselves.
use Rattle.std.specs.Prelude.{not, List, map, filter}
use Rattle.ivory_tree.specs.Syntax.{Word}
use Rattle.ivory_tree.specs.declared.items.BitsItem.{BitsItem}
use Rattle.area_types.specs.declared.structs.StructDef.{StructDef}
use Rattle.rule_checker.specs.declared.items.AreaEntry.{AreaEntry}
use Rattle.rule_checker.specs.declared.items.CalleeEntry.{CalleeEntry}

abbrev pub names_of_bits : List BitsItem → List Word
names_of_bits bits = map (λ (i : BitsItem). i.name.text) bits

abbrev pub names_of_structs : List StructDef → List Word
names_of_structs structs = map (λ (s : StructDef). s.name) structs

abbrev pub names_of_areas : List AreaEntry → List Word
names_of_areas areas = map (λ (a : AreaEntry). a.name) areas

abbrev pub names_of_callees : List CalleeEntry → List Word
names_of_callees callees = map (λ (c : CalleeEntry). c.name) callees

abbrev pub names_of_imports : List CalleeEntry → List Word
names_of_imports callees = names_of_callees (filter (λ (a : CalleeEntry). a.import) callees)

abbrev pub names_of_procedures : List CalleeEntry → List Word
names_of_procedures callees = names_of_callees (filter (λ (a : CalleeEntry). not a.import) callees)

-- What the rest gives, behind the values so far.
use Rattle.std.proofs.Common.{◌≡◌, ◌++◌, drop, map}
use Rattle.area_types.specs.Tables.{tree_over}
use Rattle.area_types.specs.Trees.{trees_of}
use Rattle.area_types.specs.View.{area_of, field_of, struct_of}
use Rattle.core_tree.specs.View.{inits_of}
use Rattle.typing_rules.specs.Initializers.{element_values}
use Rattle.area_values.specs.Values.{values_of_fields}
use Rattle.area_values.proofs.values.+values.Given as goal

abbrev pub invariant-add_elements-loop-init : goal.invariant-add_elements-loop-init
invariant-add_elements-loop-init l =
    l.values ++ element_values l.left (tree_over l.structs (area_of l.element)) (inits_of (drop l.init-index l.inits))
    ≡ l.initial.values ++ element_values l.length (tree_over l.structs (area_of l.element)) (inits_of l.inits)

abbrev pub invariant-add_fields-loop-init : goal.invariant-add_fields-loop-init
invariant-add_fields-loop-init l =
    l.values ++ values_of_fields (trees_of (map struct_of l.earlier)) (map field_of l.rest) (inits_of (drop l.init-index l.inits))
    ≡ l.initial.values ++ values_of_fields (trees_of (map struct_of l.earlier)) (map field_of l.fields) (inits_of l.inits)

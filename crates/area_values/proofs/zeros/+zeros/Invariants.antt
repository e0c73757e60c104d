-- Structs are written out, so that each stands within fewer levels than what it stands in.
use Rattle.std.proofs.Common.{◌≡◌, ◌+◌, ◌*◌, ◌-◌, ◌++◌, drop, map}
use Rattle.type_trees.specs.Trees.{count, levels, levels_row}
use Rattle.area_types.specs.Syntax.{Struct}
use Rattle.area_types.specs.Tables.{tree_over}
use Rattle.area_types.specs.Trees.{fields_of, trees_of}
use Rattle.area_types.specs.View.{area_of, field_of, struct_of}
use Rattle.typing_rules.specs.Initializers.{zeros}
use Rattle.area_values.specs.Values.{count_fields}
use Rattle.area_values.proofs.zeros.+zeros.Given as goal

abbrev pub decreases-add_zeros : goal.decreases-add_zeros
decreases-add_zeros l = 3 * levels (tree_over l.structs.now (area_of l.area.now)) + 1

abbrev pub decreases-add_zeros_of_elements : goal.decreases-add_zeros_of_elements
decreases-add_zeros_of_elements l = 3 * levels (tree_over l.structs.now (area_of l.element.now)) + 2

abbrev pub decreases-add_zeros_of_struct : goal.decreases-add_zeros_of_struct
decreases-add_zeros_of_struct l = 3 * levels (tree_over l.structs.now (Struct l.number))

abbrev pub decreases-add_zeros_of_fields : goal.decreases-add_zeros_of_fields
decreases-add_zeros_of_fields l = 3 * levels_row (fields_of (trees_of (map struct_of l.earlier.now)) (map field_of l.fields.now)) + 2

abbrev pub invariant-add_zeros_of_elements-loop : goal.invariant-add_zeros_of_elements-loop
invariant-add_zeros_of_elements-loop l =
    l.values ++ zeros ((l.length - l.counter) * count (tree_over l.structs (area_of l.element))) ≡ l.initial.values ++ zeros (l.length * count (tree_over l.structs (area_of l.element)))

abbrev pub invariant-add_zeros_of_fields-loop-field : goal.invariant-add_zeros_of_fields-loop-field
invariant-add_zeros_of_fields-loop-field l =
    l.values ++ zeros (count_fields (trees_of (map struct_of l.earlier)) (map field_of (drop l.field-index l.fields)))
    ≡ l.initial.values ++ zeros (count_fields (trees_of (map struct_of l.earlier)) (map field_of l.fields))

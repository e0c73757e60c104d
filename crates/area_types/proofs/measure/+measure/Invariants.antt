use Rattle.std.proofs.Common.{◌≡◌, ◌+◌, ◌*◌, take, map}
use Rattle.type_trees.specs.Trees.{levels, levels_row}
use Rattle.area_types.specs.Extents.{row_extent}
use Rattle.area_types.specs.Syntax.{Struct}
use Rattle.area_types.specs.Trees.{tree_of, trees_of, fields_of}
use Rattle.area_types.specs.View.{area_of, field_of, struct_of}
use Rattle.area_types.proofs.measure.+measure.Given as goal

abbrev pub decreases-extent : goal.decreases-extent
decreases-extent l = 3 * levels (tree_of (trees_of (map struct_of l.structs.now)) (area_of l.area.now)) + 1

abbrev pub decreases-struct_extent : goal.decreases-struct_extent
decreases-struct_extent l = 3 * levels (tree_of (trees_of (map struct_of l.structs.now)) (Struct l.number))

abbrev pub decreases-fields_extent : goal.decreases-fields_extent
decreases-fields_extent l = 3 * levels_row (fields_of (trees_of (map struct_of l.earlier.now)) (map field_of l.fields.now)) + 2

abbrev pub invariant-fields_extent-loop-field : goal.invariant-fields_extent-loop-field
invariant-fields_extent-loop-field l = row_extent l.words (fields_of (trees_of (map struct_of l.earlier)) (map field_of (take l.field-index l.fields))) ≡ l.row

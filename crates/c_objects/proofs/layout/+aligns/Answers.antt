use Rattle.std.proofs.Common.{arith}
use Rattle.std.specs.Prelude.{map}
use Rattle.type_trees.proofs.Layouts.{align_row_some}
use Rattle.c_ast.specs.Scalars.{metric_of}
use Rattle.c_objects.specs.Shapes.{row_from, field_of}
use Rattle.c_objects.proofs.layout.+aligns.Goals as goal

pub fields_align-loop-field-init : goal.fields_align-loop-field-init
fields_align-loop-field-init t c = omega (arith, align_row_some (metric_of c.args.t) (row_from (map field_of c.args.fields.now)))

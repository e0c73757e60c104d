use Rattle.std.proofs.Common.{◌≡◌, drop}
use Rattle.std.specs.Prelude.{map}
use Rattle.type_trees.specs.Layouts.{lay_row}
use Rattle.c_memory.specs.Access.{laid_out}
use Rattle.c_ast.specs.Scalars.{metric_of}
use Rattle.c_ast.specs.StaticTypes.{same_scalar}
use Rattle.c_objects.specs.Shapes.{field_of, row_from}
use Rattle.c_objects.proofs.laid.+laid.Given as goal

abbrev pub invariant-is_laid_in_fields-loop-field : goal.invariant-is_laid_in_fields-loop-field
invariant-is_laid_in_fields-loop-field l = laid_out same_scalar (l.at, l.s) (lay_row (metric_of l.t) (row_from (map field_of (drop l.field-index l.fields))) 0 l.end) ≡ laid_out same_scalar (l.at, l.s) (lay_row (metric_of l.t) (row_from (map field_of l.fields)) 0 0)

use Rattle.std.proofs.Common.{◌+◌, arith}
use Rattle.type_trees.proofs.Layouts.{lay_ascends, ascends_to}
use Rattle.c_ast.specs.Scalars.{metric_of}
use Rattle.c_ast.specs.Structs.{tree, layout, size_of}
use Rattle.c_ast.proofs.Scalars.{types_have_alignments}
use Rattle.c_ast.proofs.laws.layout_laws.Goals as goal

pub returns-clause-order : goal.returns-clause-order
returns-clause-order c t structs b =
    ascends_to (metric_of t) 0 (0 + size_of t structs b) (size_of t structs b) (layout t structs b) (omega arith) (lay_ascends (metric_of t) (tree structs b) 0)

pub returns-clause-aligned : goal.returns-clause-aligned
returns-clause-aligned c = types_have_alignments

use Rattle.std.proofs.Common.{arith}
use Rattle.type_trees.specs.Layouts.{lay, size}
use Rattle.c_ast.specs.Scalars.{metric_of}
use Rattle.c_objects.specs.Shapes.{tree_of}
use Rattle.c_objects.proofs.Rows.{lay_more}
use Rattle.c_objects.proofs.laid.+lays.Goals as goal

pub lay_elements-loop-preserved : goal.lay_elements-loop-preserved
lay_elements-loop-preserved t c =
    lay_more (lay (metric_of c.args.t) (tree_of c.args.element.now)) (size (metric_of c.args.t) (tree_of c.args.element.now)) c.args.n c.loop.counter c.loop.next c.in-Some-checked_add.after c.in-Some.wide
    c.loop.out c.lay_shape.new.out _ c.loop-test.true c.in-Some.ensures (omega arith) c.in_ok-lay_shape.ensures c.loop.invariant

use Rattle.std.proofs.Common.{arith, sym, ◌∙◌}
use Rattle.type_trees.specs.Layouts.{size}
use Rattle.c_memory.specs.Standing.{stands}
use Rattle.c_ast.specs.Scalars.{metric_of}
use Rattle.c_meaning.specs.Memory.{is_base}
use Rattle.c_objects.specs.Shapes.{tree_of, base_of}
use Rattle.c_objects.proofs.Rows.{any_more}
use Rattle.c_objects.proofs.standing.+stands.Goals as goal

pub stands_in_elements-loop-preserved : goal.stands_in_elements-loop-preserved
stands_in_elements-loop-preserved t c =
    any_more (stands (metric_of c.args.t) (is_base (base_of c.args.wanted)) c.args.o (tree_of c.args.element.now)) (size (metric_of c.args.t) (tree_of c.args.element.now)) c.args.n c.loop.counter c.loop.next c.in-Some.after c.in_ok-wide.wide
    _ c.loop-test.true c.in_ok-wide.ensures (omega arith) (sym c.in-Some-false.ensures ∙ c.in-Some-false.field-0-test) c.loop.invariant

use Rattle.std.proofs.Common.{◌++◌}
use Rattle.std.specs.Prelude.{codes}
use Rattle.c_ast.specs.View.{expr_of}
use Rattle.c_text.specs.ExpressionText.{expr_text}
use Rattle.c_writer.proofs.Lists.{one_more}
use Rattle.c_writer.proofs.expr.put_all_further.Goals as goal

pub loop-e-preserved : goal.loop-e-preserved
loop-e-preserved g c = one_more (λ e. codes ", " ++ expr_text (expr_of e)) c.args.es.now c.loop-e.e-index c.e-item.result c.loop-e-test.true c.e-item.is c.loop-e.invariant c.put_further.ensures

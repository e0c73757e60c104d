use Rattle.std.proofs.Common.{take, ◌++◌}
use Rattle.std.specs.Prelude.{map, codes}
use Rattle.c_ast.specs.View.{expr_of}
use Rattle.c_text.specs.TypeText.{texts}
use Rattle.c_text.specs.ExpressionText.{expr_text}
use Rattle.c_writer.specs.Stages.{Puts}
use Rattle.c_writer.proofs.expr.put_all_further.Given as goal

abbrev pub invariant-loop-e : goal.invariant-loop-e
invariant-loop-e g l = Puts (g.P.Pieces.stage l.initial.out) (g.P.Pieces.stage l.out) (texts (map (λ e. codes ", " ++ expr_text (expr_of e)) (take l.e-index l.es)))

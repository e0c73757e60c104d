use Rattle.std.proofs.Common.{ap, sym}
use Rattle.std.proofs.lemmas.Simd.{map-map}
use Rattle.c_ast.specs.View.{expr_of}
use Rattle.c_text.specs.TypeText.{listed}
use Rattle.c_text.specs.ExpressionText.{expr_text}
use Rattle.c_writer.proofs.Lists.{listed_put}
use Rattle.c_writer.proofs.Stages.{as_text}
use Rattle.c_writer.proofs.expr.put_args.Goals as goal

pub returns-in-Some : goal.returns-in-Some
returns-in-Some g c = as_text (ap listed (sym (map-map expr_text expr_of c.args.args.now))) (listed_put (λ e. expr_text (expr_of e)) c.args.args.now c.in-Some.first.now c.in-Some.rest.now (c.in-Some.ensures.cases.0) c.put_expr.ensures c.put_all_further.ensures)

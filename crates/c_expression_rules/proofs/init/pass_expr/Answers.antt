use Rattle.c_scopes.proofs.Walks.{unasked}
use Rattle.c_expression_rules.proofs.init.pass_expr.Goals as goal

pub returns : goal.returns
returns c = unasked c.check_expr.ensures.walks

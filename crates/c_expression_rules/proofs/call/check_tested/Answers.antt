use Rattle.c_text.specs.Rules.{TestIsScalar}
use Rattle.c_scopes.proofs.Walks.{asked_first}
use Rattle.c_expression_rules.proofs.call.check_tested.Goals as goal

pub returns : goal.returns
returns c = asked_first TestIsScalar c.check_expr-value.ensures.walks (rw (c.is_number.ensures, c.check_expr-value.ensures.ty) at c.ask.ensures)

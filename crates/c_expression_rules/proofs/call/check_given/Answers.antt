use Rattle.c_text.specs.Rules.{GivenIsWanted}
use Rattle.c_scopes.proofs.Walks.{asked_first}
use Rattle.c_expression_rules.proofs.call.check_given.Goals as goal

pub returns : goal.returns
returns c = asked_first GivenIsWanted c.check_expr-value.ensures.walks (rw (c.may_be_given.ensures, c.check_expr-value.ensures.ty) at c.ask.ensures)

use Rattle.c_text.specs.Rules.{BracesMatch}
use Rattle.c_scopes.proofs.Walks.{asked_first}
use Rattle.c_expression_rules.proofs.init.check_braceless.Goals as goal

pub returns : goal.returns
returns c = asked_first BracesMatch c.check_expr.ensures.walks c.ask.ensures

use Rattle.c_text.specs.Rules.{InitializersFit}
use Rattle.c_scopes.proofs.Walks.{asked_first}
use Rattle.c_expression_rules.proofs.init.check_too_many.Goals as goal

pub returns : goal.returns
returns c = asked_first InitializersFit c.check_loosely.ensures c.ask.ensures

use Rattle.c_text.specs.Rules.{ConstantHasType}
use Rattle.c_scopes.proofs.Walks.{passed, asked_here}
use Rattle.c_expression_rules.proofs.expr.check_number.Goals as goal

pub returns-clause-walks : goal.returns-clause-walks
returns-clause-walks c = passed (asked_here ConstantHasType (rw (c.is_some.ensures, c.constant-ty.ensures) at c.ask.ensures)) c.pass_number.ensures

use Rattle.c_text.specs.ExpressionRules.{type_demands}
use Rattle.c_scopes.specs.Scope.{names_view}
use Rattle.c_scopes.proofs.Walks.{passed, followed}
use Rattle.c_expression_rules.proofs.expr.check_cast.Goals as goal

pub returns-clause-walks : goal.returns-clause-walks
returns-clause-walks c = passed (followed (λ at. type_demands (names_view c.args.names.now) at c.args.ty.now) c.pass.ensures c.check_type-known.ensures.walks) c.pass-2.ensures

use Rattle.c_ast.specs.View.{expr_of}
use Rattle.c_text.specs.ExpressionRules.{tested_demands}
use Rattle.c_scopes.specs.Scope.{names_view}
use Rattle.c_scopes.proofs.Walks.{followed, passed}
use Rattle.c_rules.proofs.stmt.check_test.Goals as goal

pub returns : goal.returns
returns c = passed (followed (λ at. tested_demands c.args.names.now.target (names_view c.args.names.now) at (expr_of c.args.test.now)) c.pass.ensures c.check_tested.ensures) c.pass-2.ensures

use Rattle.c_ast.specs.View.{expr_of}
use Rattle.c_text.specs.ExpressionRules.{given_demands}
use Rattle.c_scopes.specs.Scope.{names_view}
use Rattle.c_scopes.proofs.Walks.{followed, passed}
use Rattle.c_rules.proofs.stmt.check_const_value.Goals as goal

pub returns : goal.returns
returns c =
    passed (followed (λ at. given_demands c.args.names.now.target (names_view c.args.names.now) at c.args.ty.now (expr_of c.args.value.now)) (passed c.check_const.ensures c.pass.ensures) (rw c.wanted_of.ensures at c.check_given.ensures)) c.pass-2.ensures

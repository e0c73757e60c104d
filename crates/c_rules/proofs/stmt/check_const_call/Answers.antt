use Rattle.std.specs.Prelude.{Some}
use Rattle.c_ast.specs.View.{call_of}
use Rattle.c_text.specs.ExpressionRules.{call_demands}
use Rattle.c_scopes.specs.Scope.{names_view}
use Rattle.c_scopes.proofs.Walks.{followed, passed}
use Rattle.c_rules.proofs.stmt.check_const_call.Goals as goal

pub returns : goal.returns
returns c =
    passed (followed (λ at. call_demands c.args.names.now.target (names_view c.args.names.now) at (Some c.args.ty.now) (call_of c.args.call.now)) (passed c.check_const.ensures c.pass.ensures) (rw c.wanted_of.ensures at c.check_call.ensures)) c.pass-2.ensures

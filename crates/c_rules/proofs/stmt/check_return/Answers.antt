use Rattle.c_ast.specs.View.{expr_of}
use Rattle.c_text.specs.Rules.{ReturnMatches}
use Rattle.c_text.specs.ExpressionRules.{given_demands}
use Rattle.c_scopes.specs.Scope.{names_view}
use Rattle.c_scopes.specs.Views.{type_view}
use Rattle.c_scopes.proofs.Walks.{followed, passed, asked_here}
use Rattle.c_rules.proofs.stmt.check_return.Goals as goal

pub returns-in-None : goal.returns-in-None
returns-in-None c = rw c.in-None.is (passed (passed (asked_here ReturnMatches (rw c.is_void.ensures at c.ask.ensures)) c.pass.ensures) c.pass-in-None.ensures)

pub returns-in-Some : goal.returns-in-Some
returns-in-Some c =
    rw c.in-Some.is
    (passed
    (followed (λ at. given_demands c.args.names.now.target (names_view c.args.names.now) at (type_view c.args.wanted.now) (expr_of c.in-Some.value))
    (passed (asked_here ReturnMatches (rw c.is_void-in-Some.ensures at c.ask-in-Some.ensures)) c.pass-in-Some.ensures)
    c.check_given.ensures)
    c.pass-in-Some-2.ensures)

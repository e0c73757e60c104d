use Rattle.std.specs.Option.{option_and_then}
use Rattle.c_ast.specs.StaticTypes as static_types
use Rattle.c_ast.specs.View.{expr_of, place_of}
use Rattle.c_text.specs.Rules.{AssignedIsScalar}
use Rattle.c_text.specs.ExpressionRules as rules
use Rattle.c_text.specs.StatementRules.{assigned_demands}
use Rattle.c_scopes.specs.Scope.{names_view}
use Rattle.c_scopes.proofs.Walks.{followed, passed, asked_first}
use Rattle.c_rules.proofs.stmt.check_assign.Goals as goal

pub returns : goal.returns
returns c =
    passed
    (followed (λ at. assigned_demands c.args.names.now.target (names_view c.args.names.now) at (option_and_then static_types.assigned_scalar (rules.place_of c.args.names.now.target (names_view c.args.names.now) (place_of c.args.place.now))) (expr_of c.args.value.now))
    (passed (asked_first AssignedIsScalar c.check_place-found.ensures.walks (rw (c.can_be_assigned.ensures, c.check_place-found.ensures.ty) at c.ask.ensures)) c.pass.ensures)
    (rw (c.assigned_scalar.ensures, c.check_place-found.ensures.ty) at c.check_assigned.ensures))
    c.pass-2.ensures

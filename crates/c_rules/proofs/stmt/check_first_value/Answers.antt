use Rattle.c_ast.specs.View.{init_of}
use Rattle.c_ast.specs.Structs.{tree}
use Rattle.c_text.specs.ExpressionRules.{init_demands}
use Rattle.c_scopes.specs.Scope.{names_view}
use Rattle.c_scopes.specs.StructViews.{structs_view}
use Rattle.c_scopes.proofs.Walks.{followed}
use Rattle.c_rules.proofs.stmt.check_first_value.Goals as goal

pub returns-in-Some : goal.returns-in-Some
returns-in-Some c =
    rw c.in-Some.is (followed (λ at. init_demands c.args.names.now.target (names_view c.args.names.now) at (tree (structs_view c.args.names.now.structs) c.args.base.now) (init_of c.in-Some.init)) c.pass.ensures
    (rw (c.shape_of.ensures, c.base_of.ensures) at c.check_init.ensures))

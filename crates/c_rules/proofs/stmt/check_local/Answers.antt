use Rattle.std.specs.Option.{option_map}
use Rattle.c_ast.specs.View.{init_of}
use Rattle.c_text.specs.StatementRules.{first_value_demands}
use Rattle.c_scopes.specs.Scope.{names_view}
use Rattle.c_scopes.proofs.Walks.{followed, passed}
use Rattle.c_rules.proofs.stmt.check_local.Goals as goal

pub returns : goal.returns
returns c = passed (followed (λ at. first_value_demands c.args.names.now.target (names_view c.args.names.now) at c.args.base.now (option_map init_of c.args.init.now)) c.check_object.ensures c.check_first_value.ensures) c.pass.ensures

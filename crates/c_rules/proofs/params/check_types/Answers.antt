use Rattle.c_text.specs.TypeText.{type_text}
use Rattle.c_text.specs.Rules.{behind}
use Rattle.c_text.specs.UnitRules.{types_demands}
use Rattle.std.specs.Prelude.{codes}
use Rattle.c_scopes.specs.Scope.{names_view}
use Rattle.c_rules.proofs.ParamRows.{none_listed, some_listed, no_types}
use Rattle.c_scopes.proofs.Walks.{followed, passed, as_demands, as_text}
use Rattle.c_rules.proofs.params.check_types.Goals as goal

pub returns-then-types-eq0 : goal.returns-then-types-eq0
returns-then-types-eq0 c = as_text (none_listed type_text c.args.types.now c.if-types-eq0.true) (as_demands (no_types (names_view c.args.names.now) (behind c.args.walk.now.at (codes "(")) c.args.types.now c.if-types-eq0.true) c.pass.ensures)

pub returns-else-types-eq0 : goal.returns-else-types-eq0
returns-else-types-eq0 c = as_text (some_listed type_text c.args.types.now c.if-types-eq0.false) (passed (followed (λ at. types_demands (names_view c.args.names.now) at c.args.types.now) c.pass-else-types-eq0.ensures c.check_listed_types.ensures) c.pass-else-types-eq0-2.ensures)

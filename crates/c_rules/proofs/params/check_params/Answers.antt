use Rattle.c_text.specs.Rules.{behind}
use Rattle.c_text.specs.Spelling.{param_text}
use Rattle.c_text.specs.UnitRules.{params_demands}
use Rattle.std.specs.Prelude.{codes}
use Rattle.c_scopes.specs.Scope.{names_view}
use Rattle.c_rules.proofs.ParamRows.{none_listed, some_listed, no_params, with_none}
use Rattle.c_rules.proofs.Scopes.{stays}
use Rattle.c_scopes.proofs.Walks.{followed, passed, as_demands, as_text}
use Rattle.c_rules.proofs.params.check_params.Goals as goal

pub returns-then-params-eq0-clause-walks : goal.returns-then-params-eq0-clause-walks
returns-then-params-eq0-clause-walks c =
    as_text (none_listed param_text c.args.params.now c.if-params-eq0.true) (as_demands (no_params (names_view c.args.names.now) (behind c.args.walk.now.at (codes "(")) c.args.params.now c.if-params-eq0.true) c.pass.ensures)

pub returns-then-params-eq0-clause-view : goal.returns-then-params-eq0-clause-view
returns-then-params-eq0-clause-view c = with_none (names_view c.args.names.now) c.args.params.now c.if-params-eq0.true

pub returns-then-params-eq0-clause-kept : goal.returns-then-params-eq0-clause-kept
returns-then-params-eq0-clause-kept c = stays c.args.names.now

pub returns-clause-walks : goal.returns-clause-walks
returns-clause-walks c =
    as_text (some_listed param_text c.args.params.now c.if-params-eq0.false) (passed (followed (λ at. params_demands (names_view c.args.names.now) at c.args.params.now) c.pass-2.ensures c.in_ok-check_listed_params.ensures.walks) c.pass-3.ensures)

use Rattle.std.proofs.Common.{ap, sym, ◌++◌}
use Rattle.std.proofs.lemmas.List.{append-nil}
use Rattle.c_text.specs.Rules.{behind}
use Rattle.c_text.specs.TypeText.{type_text, gap_text}
use Rattle.c_text.specs.ExpressionRules.{type_demands}
use Rattle.c_text.specs.UnitRules.{file_name}
use Rattle.c_scopes.specs.Scope.{names_view}
use Rattle.c_scopes.proofs.Walks.{followed, passed, as_demands}
use Rattle.c_rules.proofs.params.check_typed.Goals as goal

pub returns : goal.returns
returns c =
    as_demands (ap (λ t. type_demands (names_view c.args.names.now) c.args.walk.now.at c.args.ty.now ++ file_name (names_view c.args.names.now) (behind c.args.walk.now.at t) c.args.name.now) (sym (append-nil (type_text c.args.ty.now ++ gap_text c.args.ty.now))))
    (followed (λ at. file_name (names_view c.args.names.now) at c.args.name.now) (passed c.check_type.ensures.walks (rw c.gap_name.ensures at c.pass.ensures)) c.check_file_name.ensures)

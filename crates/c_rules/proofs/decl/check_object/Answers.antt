use Rattle.std.proofs.Common.{ap, sym, ◌++◌}
use Rattle.std.proofs.lemmas.List.{append-nil}
use Rattle.std.specs.Prelude.{codes}
use Rattle.c_text.specs.Rules.{NameIsNew, behind}
use Rattle.c_text.specs.TypeText.{base_text}
use Rattle.c_text.specs.Scopes.{new_name}
use Rattle.c_text.specs.ExpressionRules.{base_demands}
use Rattle.c_scopes.specs.Scope.{names_view}
use Rattle.c_scopes.proofs.Walks.{passed, asked_next, as_demands}
use Rattle.c_rules.proofs.decl.check_object.Goals as goal

pub returns : goal.returns
returns c =
    as_demands (ap (λ t. base_demands (names_view c.args.names.now) c.args.walk.now.at c.args.base.now ++ new_name (names_view c.args.names.now) (behind c.args.walk.now.at t) c.args.name.now) (sym (append-nil (base_text c.args.base.now ++ codes " "))))
    (passed
    (asked_next NameIsNew (passed c.check_base.ensures.walks c.pass.ensures) (rw c.is_taken-taken.ensures at c.ask.ensures))
    (rw c.as_slice.ensures at c.pass-2.ensures))

use Rattle.std.proofs.Common.{ap, sym, ◌++◌}
use Rattle.std.proofs.lemmas.List.{append-nil}
use Rattle.std.specs.Prelude.{codes}
use Rattle.c_text.specs.Rules.{NameIsNew, behind}
use Rattle.c_text.specs.TypeText.{type_text, gap_text}
use Rattle.c_text.specs.Scopes.{new_name}
use Rattle.c_text.specs.ExpressionRules.{type_demands}
use Rattle.c_scopes.specs.Scope.{names_view}
use Rattle.c_scopes.proofs.Walks.{passed, asked_next, as_demands}
use Rattle.c_rules.proofs.decl.check_const.Goals as goal

pub returns : goal.returns
returns c =
    as_demands (ap (λ t. type_demands (names_view c.args.names.now) c.args.walk.now.at c.args.ty.now ++ new_name (names_view c.args.names.now) (behind c.args.walk.now.at t) c.args.name.now) (sym (append-nil (type_text c.args.ty.now ++ gap_text c.args.ty.now ++ codes "const "))))
    (passed
    (asked_next NameIsNew (passed (passed c.check_type.ensures.walks (rw c.gap_name.ensures at c.pass.ensures)) c.pass-2.ensures) (rw c.is_taken-taken.ensures at c.ask.ensures))
    (rw c.as_slice.ensures at c.pass-3.ensures))

use Rattle.std.proofs.Common.{ap, sym, ◌++◌, not, take}
use Rattle.std.specs.Prelude.{codes}
use Rattle.std.specs.List.{list_any}
use Rattle.std.proofs.lemmas.List.{append-nil}
use Rattle.iv_words.specs.Words.{same_word}
use Rattle.c_text.specs.Rules.{LengthIsAllowed, MemberEndsInTime, MemberIsNew, ask, behind}
use Rattle.c_text.specs.TypeText.{base_text}
use Rattle.c_text.specs.ExpressionRules.{base_demands}
use Rattle.c_text.specs.UnitRules.{is_allowed_length}
use Rattle.c_scopes.specs.Scope.{names_view}
use Rattle.c_scopes.proofs.Walks.{passed, asked_first, asked_next, as_demands}
use Rattle.c_rules.proofs.structs.check_declared.Goals as goal

pub returns : goal.returns
returns c =
    as_demands
    (ap (λ t. ask c.args.walk.now.at LengthIsAllowed (is_allowed_length c.args.member.now.length) ++ ask c.args.walk.now.at MemberEndsInTime c.args.ends ++ base_demands (names_view c.args.names.now) c.args.walk.now.at c.args.member.now.base
    ++ ask (behind c.args.walk.now.at t) MemberIsNew (not (list_any (λ k. same_word k.name c.args.member.now.name) (take c.args.earlier c.args.members.now))))
    (sym (append-nil (base_text c.args.member.now.base ++ codes " "))))
    (passed
    (asked_next MemberIsNew
    (passed
    (asked_first LengthIsAllowed (asked_first MemberEndsInTime c.check_base.ensures.walks c.ask.ensures) (rw c.is_allowed_length.ensures at c.ask-2.ensures))
    c.pass.ensures)
    (rw c.has_before-had.ensures at c.ask-3.ensures))
    (rw c.as_slice.ensures at c.pass-2.ensures))

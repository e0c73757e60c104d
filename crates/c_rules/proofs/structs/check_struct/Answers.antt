use Rattle.std.proofs.Common.{[]}
use Rattle.c_scopes.specs.StructViews.{structs_view}
use Rattle.c_text.specs.Rules.{TagIsNew}
use Rattle.c_text.specs.UnitRules.{members_demands}
use Rattle.c_scopes.proofs.Walks.{followed, passed, asked_next}
use Rattle.c_rules.proofs.structs.check_struct.Goals as goal

pub returns-clause-walks : goal.returns-clause-walks
returns-clause-walks c =
    passed
    (followed (λ at. members_demands c.args.names.now.target (structs_view c.args.names.now.structs) [] at c.args.members.now)
    (passed
    (passed
    (passed (asked_next TagIsNew c.pass.ensures (rw c.is_tag-had.ensures at c.ask.ensures)) (rw c.as_slice.ensures at c.pass-2.ensures))
    c.pass-3.ensures)
    c.pass-4.ensures)
    c.check_members-size.ensures.walks)
    c.pass-5.ensures

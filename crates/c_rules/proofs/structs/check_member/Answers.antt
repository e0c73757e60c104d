use Rattle.std.proofs.Common.{take}
use Rattle.c_rules.specs.Members.{member_asks}
use Rattle.c_scopes.specs.Scope.{names_view}
use Rattle.c_scopes.proofs.Walks.{followed, passed}
use Rattle.c_rules.proofs.structs.check_member.Goals as goal

pub returns : goal.returns
returns c = passed (passed (passed (followed (λ at. member_asks (names_view c.args.names.now) (take c.args.earlier c.args.members.now) c.args.ends at c.args.member.now) c.pass.ensures c.check_declared.ensures) c.pass_length.ensures) c.pass-2.ensures) c.pass-3.ensures

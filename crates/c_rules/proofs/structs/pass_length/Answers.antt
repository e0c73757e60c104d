use Rattle.c_scopes.proofs.Walks.{passed}
use Rattle.c_rules.proofs.structs.pass_length.Goals as goal

pub returns-in-Some : goal.returns-in-Some
returns-in-Some c = rw c.in-Some.is (passed (passed c.pass.ensures (rw (c.as_bytes.ensures.value, c.format.ensures.text) at c.pass-in-Some.ensures)) c.pass-in-Some-2.ensures)

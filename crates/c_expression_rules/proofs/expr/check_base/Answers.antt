use Rattle.c_text.specs.Rules.{TagIsKnown}
use Rattle.c_scopes.proofs.Walks.{passed, asked_next}
use Rattle.c_expression_rules.proofs.expr.check_base.Goals as goal

pub returns-in-Struct-clause-walks : goal.returns-in-Struct-clause-walks
returns-in-Struct-clause-walks c =
    rw c.in-Struct.is (passed (asked_next TagIsKnown c.pass-in-Struct.ensures (rw c.is_tag-known.ensures at c.ask.ensures)) (rw c.as_slice.ensures at c.pass-in-Struct-2.ensures))

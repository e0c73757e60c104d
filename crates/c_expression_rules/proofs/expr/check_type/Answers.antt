use Rattle.c_scopes.proofs.Walks.{passed}
use Rattle.c_expression_rules.proofs.expr.check_type.Goals as goal

pub returns-in-Pointer-clause-walks : goal.returns-in-Pointer-clause-walks
returns-in-Pointer-clause-walks c = rw c.in-Pointer.is (passed c.check_base-known.ensures.walks (rw c.star_name.ensures at c.pass-in-Pointer.ensures))

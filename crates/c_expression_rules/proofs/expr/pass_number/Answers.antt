use Rattle.c_scopes.proofs.Walks.{passed}
use Rattle.c_expression_rules.proofs.expr.pass_number.Goals as goal

pub returns : goal.returns
returns c = passed (rw (c.as_bytes.ensures.value, c.format.ensures.text) at c.pass.ensures) (rw c.suffix_name.ensures at c.pass-2.ensures)

use Rattle.std.proofs.Common.{sym, ◌∙◌}
use Rattle.c_lexemes.proofs.Leaves.{reads_scalar}
use Rattle.c_lexemes.proofs.leaf.scalar.Goals as goal

pub returns-in-Some-scalar_of : goal.returns-in-Some-scalar_of
returns-in-Some-scalar_of c = reads_scalar _ _ _ _ _ c.in-Some.ensures (sym c.scalar_of.ensures ∙ c.in-Some-scalar_of.is)

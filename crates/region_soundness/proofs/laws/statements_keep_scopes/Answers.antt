use Rattle.region_soundness.proofs.Scopes.{statements_keep_scopes}
use Rattle.region_soundness.proofs.laws.statements_keep_scopes.Goals as goal

-- src/laws.rt:1:1
pub returns : goal.returns
returns c = statements_keep_scopes

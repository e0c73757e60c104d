use Rattle.region_soundness.proofs.Scopes.{blocks_keep_scopes}
use Rattle.region_soundness.proofs.laws.blocks_keep_scopes.Goals as goal

pub returns : goal.returns
returns c = blocks_keep_scopes

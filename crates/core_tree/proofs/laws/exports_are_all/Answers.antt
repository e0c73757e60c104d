use Rattle.core_tree.proofs.Exported.{exports_are_all}
use Rattle.core_tree.proofs.laws.exports_are_all.Goals as goal

pub returns : goal.returns
returns c = exports_are_all

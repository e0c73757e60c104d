use Rattle.typing_laws.proofs.OneCore.{one_core}
use Rattle.typing_laws.proofs.laws.modules_have_one_core.Goals as goal

-- src/laws.rt:73:1
pub returns : goal.returns
returns c = one_core

use Rattle.body_refinement.proofs.DeclaredKinds.{kinds_known}
use Rattle.body_refinement.proofs.laws.kinds_are_known.Goals as goal

pub returns : goal.returns
returns c = λ core valid k p is. kinds_known core valid k p is

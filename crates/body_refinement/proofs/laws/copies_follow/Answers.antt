use Rattle.body_refinement.proofs.Copies.{copies_follow}
use Rattle.body_refinement.proofs.laws.copies_follow.Goals as goal

pub returns : goal.returns
returns c = λ d at target source place_in typed kinds small entry waiting objects s t before from le n w. copies_follow d at target source place_in typed kinds small entry waiting objects s t before from le n w

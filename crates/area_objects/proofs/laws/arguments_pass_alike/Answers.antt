use Rattle.area_objects.proofs.Passed as proved
use Rattle.area_objects.proofs.laws.arguments_pass_alike.Goals as goal

pub returns-clause-seen : goal.returns-clause-seen
returns-clause-seen c = proved.arguments_seen

pub returns-clause-written : goal.returns-clause-written
returns-clause-written c = proved.arguments_written

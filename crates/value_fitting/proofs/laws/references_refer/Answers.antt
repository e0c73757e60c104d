use Rattle.value_fitting.proofs.Values.{references_refer, referred_parts_fit}
use Rattle.value_fitting.proofs.laws.references_refer.Goals as goal

pub returns-clause-references : goal.returns-clause-references
returns-clause-references c = references_refer

pub returns-clause-parts : goal.returns-clause-parts
returns-clause-parts c = referred_parts_fit

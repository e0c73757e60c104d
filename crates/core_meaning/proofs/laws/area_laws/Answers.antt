use Rattle.core_meaning.proofs.Areas.{parts_hold, others_stay, types_stay, marked_stay, taken_are_gone, earlier_stay}
use Rattle.core_meaning.proofs.laws.area_laws.Goals as goal

pub returns-clause-parts : goal.returns-clause-parts
returns-clause-parts c = parts_hold

pub returns-clause-others : goal.returns-clause-others
returns-clause-others c = others_stay

pub returns-clause-types : goal.returns-clause-types
returns-clause-types c = types_stay

pub returns-clause-marked : goal.returns-clause-marked
returns-clause-marked c = marked_stay

pub returns-clause-taken : goal.returns-clause-taken
returns-clause-taken c = taken_are_gone

pub returns-clause-earlier : goal.returns-clause-earlier
returns-clause-earlier c = earlier_stay

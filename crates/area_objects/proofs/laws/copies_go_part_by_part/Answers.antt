use Rattle.area_objects.proofs.Copies as proved
use Rattle.area_objects.proofs.laws.copies_go_part_by_part.Goals as goal

pub returns-clause-begin : goal.returns-clause-begin
returns-clause-begin c = proved.copies_begin

pub returns-clause-on : goal.returns-clause-on
returns-clause-on c = proved.copies_go_on

pub returns-clause-end : goal.returns-clause-end
returns-clause-end c = proved.copies_end

use Rattle.area_objects.proofs.Located as proved
use Rattle.area_objects.proofs.laws.places_lead_to_parts.Goals as goal

pub returns-clause-order : goal.returns-clause-order
returns-clause-order c = proved.fields_in_order

pub returns-clause-fields : goal.returns-clause-fields
returns-clause-fields c = proved.fields_located

pub returns-clause-elements : goal.returns-clause-elements
returns-clause-elements c = proved.elements_located

pub returns-clause-pointers : goal.returns-clause-pointers
returns-clause-pointers c = proved.parts_pointed_to

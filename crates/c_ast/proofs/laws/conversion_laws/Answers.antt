use Rattle.c_ast.proofs.Conversions as conversions
use Rattle.c_ast.proofs.laws.conversion_laws.Goals as goal

pub returns-clause-stay : goal.returns-clause-stay
returns-clause-stay c = conversions.held_numbers_stay

pub returns-clause-held : goal.returns-clause-held
returns-clause-held c = conversions.converted_numbers_are_held

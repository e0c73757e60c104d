use Rattle.c_meaning.proofs.Expressions as expressions
use Rattle.c_meaning.proofs.Names as names
use Rattle.c_meaning.proofs.laws.type_laws.Goals as goal

pub returns-clause-types : goal.returns-clause-types
returns-clause-types c = expressions.values_have_their_types

pub returns-clause-not_stuck : goal.returns-clause-not_stuck
returns-clause-not_stuck c = expressions.typed_expressions_are_not_stuck

pub returns-clause-declared : goal.returns-clause-declared
returns-clause-declared c = names.names_are_as_declared

pub returns-clause-places : goal.returns-clause-places
returns-clause-places c = expressions.places_have_their_types

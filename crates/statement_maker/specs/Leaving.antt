-- What is known around a block, and what is left of a place at the end of one.
use Rattle.std.specs.Prelude.{length, take}
use Rattle.core_maker.specs.declared.place.Place.{Place}
use Rattle.statement_maker.specs.declared.scope.Around.{Around}

abbrev pub around_of : Place → Around
around_of p = record { names = length p.context.scope; numbers = length p.numbers; allowed = p.context.allowed }

abbrev pub left_with : Place → Around → Place
left_with p a = record {
  context = record p.context { allowed = a.allowed; scope = take a.names p.context.scope };
  numbers = take a.numbers p.numbers;
  locals = p.locals;
}

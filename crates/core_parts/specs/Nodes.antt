-- What a node of the code carries, in the abstract syntax.
use Rattle.std.specs.Prelude.{List}
use Rattle.area_types.specs.View.{type_of}
use Rattle.area_types.specs.declared.ValueType.{ValueType}
use Rattle.core_tree.specs.Syntax.{Label}
use Rattle.core_tree.specs.declared.Check.{Check}

abbrev pub labelled : ValueType → List Check → Label
labelled ty checks = record { ty = type_of ty; checks = checks }

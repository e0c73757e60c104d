use Rattle.std.proofs.Common.{◌≡◌}
use Rattle.c_ast.specs.View as view
use Rattle.c_grammar.specs.UnitRules as rules
use Rattle.c_parser.specs.Views.{added, items_of}
use Rattle.c_parser.proofs.unit.unit_with.Given as goal

abbrev pub invariant-loop-item : goal.invariant-loop-item
invariant-loop-item l = added (view.unit_of l.unit) (items_of l.item-iterator.rest.items) ≡ rules.unit_of (items_of l.fn.items)

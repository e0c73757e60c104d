use Rattle.std.proofs.Common.{◌≡◌}
use Rattle.c_ast.specs.View.{place_of}
use Rattle.c_grammar.specs.ExpressionRules as rules
use Rattle.c_expression_parser.specs.Views.{steps_of}
use Rattle.c_expression_parser.proofs.nodes.with_steps.Given as goal

abbrev pub invariant-loop-step : goal.invariant-loop-step
invariant-loop-step l = rules.steps_on (place_of l.place) (steps_of l.step-iterator.rest.items) ≡ rules.steps_on (place_of l.fn.base) (steps_of l.fn.steps)

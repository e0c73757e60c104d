use Rattle.std.proofs.Common.{ap, sym, ◌∙◌}
use Rattle.c_text.specs.ExpressionRules.{result_may_be_given}
use Rattle.c_scopes.specs.Scope.{names_view}
use Rattle.c_scopes.specs.Views.{type_view}
use Rattle.c_expression_rules.proofs.call.result_is_given.Goals as goal

pub returns-in-Void : goal.returns-in-Void
returns-in-Void c = ap (result_may_be_given c.args.names.now.target (names_view c.args.names.now) (type_view c.args.wanted.now)) (ap type_view (sym c.in-Void.is) ∙ c.result.ensures)

pub returns-in-Scalar : goal.returns-in-Scalar
returns-in-Scalar c = c.may_be_given.ensures ∙ ap (result_may_be_given c.args.names.now.target (names_view c.args.names.now) (type_view c.args.wanted.now)) (ap type_view (sym c.in-Scalar.is) ∙ c.result.ensures)

pub returns-in-Pointer : goal.returns-in-Pointer
returns-in-Pointer c = c.may_be_given-in-Pointer.ensures ∙ ap (result_may_be_given c.args.names.now.target (names_view c.args.names.now) (type_view c.args.wanted.now)) (ap type_view (sym c.in-Pointer.is) ∙ c.result.ensures)

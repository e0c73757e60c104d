-- No argument so far has a fault.
use Rattle.std.proofs.Common.{◌≡◌, [], drop, map}
use Rattle.std.specs.Prelude.{option_map}
use Rattle.area_types.specs.View.{type_of}
use Rattle.ivory_tree.specs.View.{expr_of}
use Rattle.rule_faults.specs.ExpressionRows.{args_row}
use Rattle.rule_faults.specs.FirstFault.{first_of}
use Rattle.rule_checker.specs.Arguments.{passed_at}
use Rattle.rule_checker.specs.Contexts.{context_of}
use Rattle.rule_checker.proofs.calls.args_fault.Given as goal

abbrev pub invariant-loop-arg : goal.invariant-loop-arg
invariant-loop-arg l = first_of (args_row (context_of l.context) (map passed_at l.before) (map (option_map type_of) l.rest) (map expr_of (drop l.arg-index l.args))) ≡ first_of (args_row (context_of l.context) [] (map (option_map type_of) l.params) (map expr_of l.args))

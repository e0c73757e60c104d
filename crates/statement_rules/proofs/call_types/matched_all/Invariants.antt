-- The arguments so far, and then the rest.
use Rattle.std.proofs.Common.{◌≡◌, ◌++◌, drop, map}
use Rattle.std.specs.Prelude.{option_map}
use Rattle.area_types.specs.View.{type_of}
use Rattle.ivory_tree.specs.View.{expr_of}
use Rattle.rule_faults.specs.ExpressionRows.{matched_all}
use Rattle.rule_checker.specs.Arguments.{passed_at}
use Rattle.rule_checker.specs.Contexts.{context_of}
use Rattle.statement_rules.proofs.call_types.matched_all.Given as goal

abbrev pub invariant-loop-arg : goal.invariant-loop-arg
invariant-loop-arg l = map passed_at l.before ++ matched_all (context_of l.context) (map (option_map type_of) l.rest) (map expr_of (drop l.arg-index l.args)) ≡ matched_all (context_of l.context) (map (option_map type_of) l.params) (map expr_of l.args)

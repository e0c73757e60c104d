-- The first fault so far, and then of the rest, in the scope so far.
use Rattle.std.proofs.Common.{◌≡◌, ◌≤◌, length, drop, map}
use Rattle.ivory_tree.specs.View.{param_of}
use Rattle.rule_checker.specs.Contexts.{context_of}
use Rattle.rule_checker.specs.Faults.{found, either}
use Rattle.rule_faults.specs.FirstFault.{first_of}
use Rattle.rule_faults.specs.ItemRows.{params_row, with_params}
use Rattle.item_rules.specs.Around.{Around}
use Rattle.item_rules.specs.Boundaries.{boundary_at}
use Rattle.item_rules.proofs.headers.params_fault.Given as goal

abbrev pub invariant-loop-param : goal.invariant-loop-param
invariant-loop-param l = record {
  rest : either (found l.fault) (first_of (params_row (context_of l.context) (boundary_at l.boundary) (map param_of (drop l.param-index l.all)))) ≡ first_of (params_row (context_of l.initial.context) (boundary_at l.boundary) (map param_of l.all));
  scope : with_params (context_of l.context) (map param_of (drop l.param-index l.all)) ≡ with_params (context_of l.initial.context) (map param_of l.all);
  few : length l.context.regions ≤ 4_294_967_296;
  around : Around l.initial.context l.context;
}

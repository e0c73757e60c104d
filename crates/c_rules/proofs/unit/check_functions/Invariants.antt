use Rattle.std.proofs.Common.{drop}
use Rattle.c_rules.specs.Kept.{OthersStay}
use Rattle.c_scopes.specs.Scope.{names_view}
use Rattle.c_scopes.proofs.Rows.{Going}
use Rattle.c_rules.proofs.Units.{function_line, function_item, function_next}
use Rattle.c_rules.proofs.unit.check_functions.Given as goal

abbrev pub invariant-loop-function : goal.invariant-loop-function
invariant-loop-function l = record {
  going : Going function_line (function_item l.initial.names.target) function_next l.initial.walk l.walk (names_view l.initial.names) (names_view l.names) l.functions (drop l.function-index l.functions);
  others : OthersStay l.initial.names l.names;
}

use Rattle.std.proofs.Common.{◌≡◌, drop}
use Rattle.c_text.specs.Spelling.{param_text}
use Rattle.c_text.specs.UnitRules.{with_params}
use Rattle.c_rules.specs.Kept.{Kept}
use Rattle.c_scopes.specs.Scope.{names_view}
use Rattle.c_scopes.proofs.Rows.{Listing}
use Rattle.c_rules.proofs.ParamRows.{param_item, with_param}
use Rattle.c_rules.proofs.params.check_listed_params.Given as goal

abbrev pub invariant-loop-param : goal.invariant-loop-param
invariant-loop-param l = record {
  listing : Listing param_text param_item with_param l.initial.walk l.walk (names_view l.initial.names) (names_view l.names) l.more l.params (drop l.param-index l.params);
  view : with_params (names_view l.names) (drop l.param-index l.params) ≡ with_params (names_view l.initial.names) l.params;
  kept : Kept l.initial.names l.names;
}

-- What the rest gives, behind the parameters in scope so far.
use Rattle.std.proofs.Common.{◌≡◌, drop, map}
use Rattle.core_tree.specs.View as tree
use Rattle.core_maker.specs.Places.{env_of, Agrees}
use Rattle.item_maker.specs.Places.{SameItems}
use Rattle.item_maker.specs.Procedures.{with_cores}
use Rattle.item_maker.proofs.procedures.add_params.Given as goal

abbrev pub invariant-loop-param : goal.invariant-loop-param
invariant-loop-param l = record {
  rest : with_cores (env_of l.place) (map tree.param_of (drop l.param-index l.params)) ≡ with_cores (env_of l.initial.place) (map tree.param_of l.params);
  agrees : Agrees l.place;
  same : SameItems l.initial.place l.place;
}

-- The regions so far, and then those of the rest.
use Rattle.std.proofs.Common.{◌≡◌, [], drop, map}
use Rattle.ivory_tree.specs.View.{param_of}
use Rattle.source_types.specs.Written.{with_regions}
use Rattle.item_rules.proofs.regions.regions_of.Given as goal

abbrev pub invariant-loop-param : goal.invariant-loop-param
invariant-loop-param l = with_regions l.regions (map param_of (drop l.param-index l.params)) ≡ with_regions [] (map param_of l.params)

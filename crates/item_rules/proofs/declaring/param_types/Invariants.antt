-- The types so far.
use Rattle.std.proofs.Common.{◌≡◌, take, map}
use Rattle.std.specs.Prelude.{option_map}
use Rattle.area_types.specs.View.{type_of}
use Rattle.ivory_tree.specs.View.{param_of}
use Rattle.rule_checker.specs.Contexts.{earlier_of}
use Rattle.item_rules.specs.Entries.{param_types}
use Rattle.item_rules.proofs.declaring.param_types.Given as goal

abbrev pub invariant-loop-param : goal.invariant-loop-param
invariant-loop-param l = map (option_map type_of) l.types ≡ param_types (earlier_of l.items) l.regions (map param_of (take l.param-index l.params))

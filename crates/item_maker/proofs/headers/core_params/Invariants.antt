-- What the rest gives, behind the parameters so far.
use Rattle.std.proofs.Common.{◌≡◌, ◌++◌, drop, map}
use Rattle.core_tree.specs.View as tree
use Rattle.ivory_tree.specs.View as text
use Rattle.core_maker.specs.Places.{env_of}
use Rattle.typing_rules.specs.Items.{param_cores}
use Rattle.typing_rules.specs.ItemCores.{param_types}
use Rattle.item_maker.proofs.headers.core_params.Given as goal

abbrev pub invariant-loop-param : goal.invariant-loop-param
invariant-loop-param l =
    map tree.param_of l.made ++ param_cores (map text.param_of (drop l.param-index l.params)) (param_types (env_of l.place) (map text.param_of (drop l.param-index l.params)))
    ≡ param_cores (map text.param_of l.params) (param_types (env_of l.place) (map text.param_of l.params))

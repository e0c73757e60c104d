use Rattle.std.proofs.Common.{◌≡◌, take, map}
use Rattle.area_types.specs.View as seen
use Rattle.ivory_tree.specs.View as text
use Rattle.core_maker.specs.Places.{env_of}
use Rattle.typing_rules.specs.ItemCores as cores
use Rattle.item_maker.proofs.headers.param_types.Given as goal

abbrev pub invariant-loop-param : goal.invariant-loop-param
invariant-loop-param l = map seen.type_of l.types ≡ cores.param_types (env_of l.place) (map text.param_of (take l.param-index l.params))

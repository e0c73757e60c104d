use Rattle.std.proofs.Common.{◌≡◌, ◌++◌, map, drop}
use Rattle.std.specs.Option.{option_map}
use Rattle.core_tree.specs.View.{param_of}
use Rattle.core_tree.specs.Exports.{plain_params}
use Rattle.core_tree.proofs.exports.plain_params.Given as goal

abbrev pub invariant-loop-param : goal.invariant-loop-param
invariant-loop-param l = option_map (λ ts. l.plains ++ ts) (plain_params (map param_of (drop l.param-index l.params))) ≡ plain_params (map param_of l.params)

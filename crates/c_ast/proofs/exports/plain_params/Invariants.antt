use Rattle.std.proofs.Common.{◌≡◌, ◌++◌, drop}
use Rattle.std.specs.Option.{option_map}
use Rattle.c_ast.specs.Exports.{plain_params}
use Rattle.c_ast.proofs.exports.plain_params.Given as goal

abbrev pub invariant-loop-param : goal.invariant-loop-param
invariant-loop-param l = option_map (λ ts. l.plains ++ ts) (plain_params (drop l.param-index l.params)) ≡ plain_params l.params

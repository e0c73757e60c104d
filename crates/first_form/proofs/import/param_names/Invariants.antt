-- The names so far.
use Rattle.std.proofs.Common.{◌≡◌, take, map}
use Rattle.ivory_tree.specs.View.{param_of}
use Rattle.first_form.proofs.import.param_names.Given as goal

abbrev pub invariant-loop-param : goal.invariant-loop-param
invariant-loop-param l = l.names ≡ map (λ p. p.name.text) (map param_of (take l.param-index l.params))

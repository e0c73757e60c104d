use Rattle.std.proofs.Common.{◌≡◌, map, drop}
use Rattle.area_types.specs.View.{type_of}
use Rattle.core_tree.specs.View.{link_of}
use Rattle.core_expressions.specs.Chains.{formed}
use Rattle.core_expressions.proofs.chains.formed.Given as goal

abbrev pub invariant-loop-link : goal.invariant-loop-link
invariant-loop-link l = formed (type_of l.ty) (map link_of l.links) ≡ formed (type_of l.before) (map link_of (drop l.link-index l.links))

-- What the links so far leave to the rest.
use Rattle.std.proofs.Common.{◌≡◌, drop, map}
use Rattle.ivory_tree.specs.View.{link_of}
use Rattle.rule_checker.specs.Chains.{chain_type}
use Rattle.rule_checker.specs.Contexts.{context_of}
use Rattle.rule_checker.specs.View.{type_seen}
use Rattle.rule_checker.proofs.typing.+typing.Given as goal

abbrev pub invariant-chain_type-loop-link : goal.invariant-chain_type-loop-link
invariant-chain_type-loop-link l = chain_type (context_of l.context) (type_seen l.wanted) l.settled (type_seen l.so_far) (map link_of (drop l.link-index l.links)) ≡ chain_type (context_of l.context) (type_seen l.wanted) l.first (type_seen l.t) (map link_of l.links)

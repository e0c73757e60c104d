-- What the links so far leave to the rest.
use Rattle.std.proofs.Common.{◌≡◌, drop, map}
use Rattle.ivory_tree.specs.View.{link_of}
use Rattle.rule_checker.specs.Chains.{chain_settled}
use Rattle.rule_checker.proofs.settled.+settled.Given as goal

abbrev pub invariant-is_chain_settled-loop-link : goal.invariant-is_chain_settled-loop-link
invariant-is_chain_settled-loop-link l = chain_settled l.so_far (map link_of (drop l.link-index l.links)) ≡ chain_settled l.first (map link_of l.links)

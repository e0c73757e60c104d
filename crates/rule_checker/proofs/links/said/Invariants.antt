-- The links so far say nothing.
use Rattle.std.proofs.Common.{◌≡◌, drop, map}
use Rattle.ivory_tree.specs.View.{link_of}
use Rattle.rule_checker.specs.Contexts.{context_of}
use Rattle.rule_checker.specs.Links as along
use Rattle.rule_checker.specs.Wanted.{want_at}
use Rattle.rule_checker.proofs.links.said.Given as goal

abbrev pub invariant-loop-link : goal.invariant-loop-link
invariant-loop-link l = along.said (context_of l.context) (want_at l.want) (map link_of (drop l.link-index l.links)) ≡ along.said (context_of l.context) (want_at l.want) (map link_of l.links)

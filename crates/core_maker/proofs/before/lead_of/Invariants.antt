-- What the links so far leave to the rest.
use Rattle.std.proofs.Common.{◌≡◌, drop, map}
use Rattle.ivory_tree.specs.View.{link_of}
use Rattle.rule_checker.specs.View.{type_at}
use Rattle.core_maker.specs.Chains.{want_of}
use Rattle.core_maker.specs.Places.{env_of}
use Rattle.core_maker.proofs.before.lead_of.Given as goal

abbrev pub invariant-loop-link : goal.invariant-loop-link
invariant-loop-link l = want_of (env_of l.place) (type_at l.want) l.done (type_at l.so_far) (map link_of (drop l.link-index l.links)) ≡ want_of (env_of l.place) (type_at l.want) l.settled (type_at l.before) (map link_of l.links)

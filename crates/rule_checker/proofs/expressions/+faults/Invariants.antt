-- What the links and the steps so far leave to the rest.
use Rattle.std.proofs.Common.{◌≡◌, drop, map}
use Rattle.ivory_tree.specs.View.{link_of, step_of}
use Rattle.rule_checker.specs.Contexts.{context_of}
use Rattle.rule_checker.specs.Faults.{found}
use Rattle.rule_checker.specs.Links as along
use Rattle.rule_checker.specs.View.{type_seen}
use Rattle.rule_checker.specs.Wanted.{want_at}
use Rattle.rule_checker.proofs.expressions.+faults.Given as goal

abbrev pub invariant-chain_fault-loop-at : goal.invariant-chain_fault-loop-at
invariant-chain_fault-loop-at l =
    along.chain_fault (context_of l.context) (want_at l.want) (want_at l.start.lead) (type_seen l.start.lead_type) l.span l.settled (type_seen l.so_far) (found l.fault) (map link_of (drop l.at l.links))
    ≡ along.chain_fault (context_of l.context) (want_at l.want) (want_at l.start.lead) (type_seen l.start.lead_type) l.span l.start.settled (type_seen l.start.own) (found l.fn.within) (map link_of l.links)

abbrev pub invariant-steps_fault-loop-at : goal.invariant-steps_fault-loop-at
invariant-steps_fault-loop-at l =
    along.steps_fault (context_of l.context) (want_at l.want) l.span (type_seen l.so_far) (found l.fault) (map step_of (drop l.at l.steps))
    ≡ along.steps_fault (context_of l.context) (want_at l.want) l.span (type_seen l.own) (found l.fn.within) (map step_of l.steps)

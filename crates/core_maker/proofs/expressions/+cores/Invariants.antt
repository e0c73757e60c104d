-- What the links and the steps so far leave to the rest.
use Rattle.std.proofs.Common.{◌≡◌, drop, map}
use Rattle.ivory_tree.specs.View.{link_of, step_of}
use Rattle.core_tree.specs.View as tree
use Rattle.rule_checker.specs.View.{type_at}
use Rattle.core_maker.specs.Chains.{want_of, with_links, after_links}
use Rattle.core_maker.specs.Forms.{form_of}
use Rattle.core_maker.specs.Opened.{based}
use Rattle.core_maker.specs.Places.{env_of}
use Rattle.core_maker.specs.Postfixes.{form_by, after_steps}
use Rattle.core_maker.proofs.expressions.+cores.Given as goal

abbrev pub invariant-add_links-loop-at : goal.invariant-add_links-loop-at
invariant-add_links-loop-at l =
    (type_at l.known.lead ≡ want_of (env_of l.place) (type_at l.want) l.known.settled (type_at l.known.own) (map link_of (drop l.at l.links)))
    × (with_links (env_of l.place) (type_at l.want) l.known.settled (type_at l.known.own) l.next (form_of l.so_far) (map link_of (drop l.at l.links))
    ≡ with_links (env_of l.place) (type_at l.want) l.before.settled (type_at l.before.own) l.initial.next (form_of l.fn.left) (map link_of l.links))
    × (after_links (env_of l.place) (type_at l.want) l.known.settled (type_at l.known.own) l.next (map link_of (drop l.at l.links))
    ≡ after_links (env_of l.place) (type_at l.want) l.before.settled (type_at l.before.own) l.initial.next (map link_of l.links))

abbrev pub invariant-add_steps-loop-step : goal.invariant-add_steps-loop-step
invariant-add_steps-loop-step l =
    (form_by (env_of l.place) (map step_of (drop l.step-index l.steps)) (type_at l.so_far) l.next (tree.stepped (tree.expr_of l.operand) (map tree.step_of l.made))
    ≡ form_by (env_of l.place) (map step_of l.steps) (type_at l.t) l.initial.next (based (form_of l.fn.left)))
    × (after_steps (env_of l.place) (type_at l.so_far) l.next (map step_of (drop l.step-index l.steps)) ≡ after_steps (env_of l.place) (type_at l.t) l.initial.next (map step_of l.steps))

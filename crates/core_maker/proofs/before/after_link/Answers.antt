use Rattle.std.proofs.Common.{ap₂, map, sym, ◌∙◌, Bool}
use Rattle.ivory_tree.specs.View.{link_of}
use Rattle.area_types.specs.Syntax.{ValueType}
use Rattle.rule_checker.specs.View.{type_at}
use Rattle.core_maker.specs.Chains.{want_of, next_lead}
use Rattle.core_maker.specs.Places.{env_of}
use Rattle.core_maker.proofs.Leads.{lead_is}
use Rattle.core_maker.proofs.before.after_link.Goals as goal

pub returns-clause-lead : goal.returns-clause-lead
returns-clause-lead c =
    let e = env_of c.args.place.now in
    let w = type_at c.args.want in
    let b = c.args.before in
    let ls = map link_of c.args.rest.now in
    c.next_lead.ensures
    ∙ ap₂ (λ (d : Bool) (t : ValueType). next_lead w d t (type_at b.lead) ls) c.link_settled-settled.ensures c.link_own-own.ensures
    ∙ lead_is e w (type_at b.lead) b.settled (type_at b.own) (link_of c.args.link.now) ls c.requires.lead
    ∙ sym (ap₂ (λ (d : Bool) (t : ValueType). want_of e w d t ls) c.link_settled-settled.ensures c.link_own-own.ensures)

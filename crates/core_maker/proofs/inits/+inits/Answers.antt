use Rattle.std.proofs.Common.{◌≡◌, List, ℕ, ◌<◌, ◌≤◌, length, map, drop, get_or, subst, ◌∙◌}
use Rattle.area_types.specs.View.{area_of, field_of}
use Rattle.ivory_tree.specs.View.{inits_of}
use Rattle.ivory_tree.specs.declared.InitText.{InitText}
use Rattle.core_maker.specs.Places.{env_of}
use Rattle.core_maker.proofs.Listed.{elements_ended, fields_ended, fields_out, element_more, field_more}
use Rattle.core_maker.proofs.inits.+inits.Goals as goal

pub elements-loop-text-preserved : goal.elements-loop-text-preserved
elements-loop-text-preserved t c =
    let inits : List InitText = c.args.inits.now in
    let i : ℕ = c.loop-text.text-index in
    let text : InitText = c.text-item.result in
    let within : i < length inits = subst (λ (is : List InitText). i < length is) c.as_slice-text-items.ensures c.loop-text-test.true in
    let at : text ≡ get_or inits i text = subst (λ (is : List InitText). text ≡ get_or is i text) c.as_slice-text-items.ensures c.text-item.is in
    let more = element_more (env_of c.args.place.now) c.loop-text.next c.init.new.next c.loop-text.made c.push.new.self c.in_ok-init.field-0 (area_of c.args.element.now) inits i text within at
    c.in_ok-push.ensures.ok c.in_ok-init.ensures.init c.in_ok-init.ensures.after in
    (more.0 ∙ c.loop-text.invariant.0, more.1 ∙ c.loop-text.invariant.1)

pub elements-returns-clause-inits : goal.elements-returns-clause-inits
elements-returns-clause-inits t c =
    let inits : List InitText = c.args.inits.now in
    let i : ℕ = c.loop-text.text-index in
    let past : length inits ≤ i = subst (λ (is : List InitText). length is ≤ i) c.as_slice-text-items.ensures c.loop-text-test.false in
    elements_ended (env_of c.args.place.now) c.loop-text.next c.loop-text.made (area_of c.args.element.now) inits i past ∙ c.loop-text.invariant.0

pub fields-returns-in-None-clause-inits : goal.fields-returns-in-None-clause-inits
fields-returns-in-None-clause-inits t c =
    fields_out (env_of c.args.place.now) c.loop-text.next c.loop-text.made c.loop-text.rest.now (inits_of (drop c.loop-text.text-index c.args.inits.now)) c.in-None.ensures.cases ∙ c.loop-text.invariant.0

pub fields-loop-text-preserved : goal.fields-loop-text-preserved
fields-loop-text-preserved t c =
    let inits : List InitText = c.args.inits.now in
    let i : ℕ = c.loop-text.text-index in
    let text : InitText = c.text-item.result in
    let within : i < length inits = subst (λ (is : List InitText). i < length is) c.as_slice-text-items.ensures c.loop-text-test.true in
    let at : text ≡ get_or inits i text = subst (λ (is : List InitText). text ≡ get_or is i text) c.as_slice-text-items.ensures c.text-item.is in
    let more = field_more (env_of c.args.place.now) c.loop-text.next c.init.new.next c.loop-text.made c.push.new.self c.in_ok-init-in-Some.field-0 c.in-Some.field.now c.in-Some.later.now c.loop-text.rest.now inits i text within at
    c.in-Some.ensures.cases.0 c.in_ok-push-in-Some.ensures.ok c.in_ok-init-in-Some.ensures.init c.in_ok-init-in-Some.ensures.after in
    (more.0 ∙ c.loop-text.invariant.0, more.1 ∙ c.loop-text.invariant.1)

pub fields-returns-clause-inits : goal.fields-returns-clause-inits
fields-returns-clause-inits t c =
    let inits : List InitText = c.args.inits.now in
    let i : ℕ = c.loop-text.text-index in
    let past : length inits ≤ i = subst (λ (is : List InitText). length is ≤ i) c.as_slice-text-items.ensures c.loop-text-test.false in
    fields_ended (env_of c.args.place.now) c.loop-text.next c.loop-text.made (map field_of c.loop-text.rest.now) inits i past ∙ c.loop-text.invariant.0

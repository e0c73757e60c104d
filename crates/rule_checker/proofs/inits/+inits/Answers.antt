use Rattle.std.proofs.Common.{◌≡◌, ℕ, ◌+◌, ◌<◌, List, length, get_or, drop, subst, ap, sym, ◌∙◌}
use Rattle.std.specs.Prelude.{Option}
use Rattle.ivory_tree.specs.View.{init_of, inits_of}
use Rattle.ivory_tree.specs.declared.inits.InitText.{InitText}
use Rattle.area_types.specs.Syntax.{Area}
use Rattle.rule_faults.specs.Contexts as contexts
use Rattle.rule_faults.specs.ExpressionRows.{init_row, inits_row}
use Rattle.rule_faults.specs.FirstFault.{first_of}
use Rattle.rule_checker.specs.Contexts.{context_of}
use Rattle.rule_checker.specs.Faults.{found}
use Rattle.rule_checker.specs.View.{area_seen}
use Rattle.rule_checker.proofs.Started.{next_init, found_here, found_later}
use Rattle.rule_checker.proofs.inits.+inits.Goals as goal

pub inits_fault-returns-in-Some : goal.inits_fault-returns-in-Some
inits_fault-returns-in-Some t c =
    let x : contexts.Context = context_of c.args.context.now in
    let a : Option Area = area_seen c.args.area in
    let inits : List InitText = c.args.inits.now in
    let at : ℕ = c.loop-at.at in
    let init : InitText = c.init-item.result in
    let within : at < length inits = subst (λ (is : List InitText). at < length is) c.as_slice-init-items.ensures c.loop-at-test.true in
    let is : init ≡ get_or inits at init = subst (λ (is : List InitText). init ≡ get_or is at init) c.as_slice-init-items.ensures c.init-item.is in
    found_here (first_of (inits_row x c.args.global a (at + 1) (inits_of (drop (at + 1) inits)))) c.loop-at.invariant (next_init x c.args.global a inits at init within is)
    (ap (λ (p : Option Area). first_of (init_row x c.args.global p (init_of init))) (sym c.place_in-place.ensures) ∙ sym c.init_fault.ensures ∙ ap found c.in-Some.is)

pub inits_fault-loop-at-preserved : goal.inits_fault-loop-at-preserved
inits_fault-loop-at-preserved t c =
    let x : contexts.Context = context_of c.args.context.now in
    let a : Option Area = area_seen c.args.area in
    let inits : List InitText = c.args.inits.now in
    let at : ℕ = c.loop-at.at in
    let init : InitText = c.init-item.result in
    let within : at < length inits = subst (λ (is : List InitText). at < length is) c.as_slice-init-items.ensures c.loop-at-test.true in
    let is : init ≡ get_or inits at init = subst (λ (is : List InitText). init ≡ get_or is at init) c.as_slice-init-items.ensures c.init-item.is in
    found_later (first_of (inits_row x c.args.global a (at + 1) (inits_of (drop (at + 1) inits)))) c.loop-at.invariant (next_init x c.args.global a inits at init within is)
    (ap (λ (p : Option Area). first_of (init_row x c.args.global p (init_of init))) (sym c.place_in-place.ensures) ∙ sym c.init_fault.ensures ∙ ap found c.in_default.is)

use Rattle.std.proofs.Common.{◌≡◌, ℕ, ◌+◌, List, drop, map, ap, sym, ◌∙◌}
use Rattle.ivory_tree.specs.Syntax.{Word, ItemSyntax}
use Rattle.ivory_tree.specs.View.{item_of}
use Rattle.ivory_tree.specs.declared.Item.{Item}
use Rattle.source_types.specs.Environments.{Earlier}
use Rattle.source_types.specs.Items.{after}
use Rattle.rule_faults.specs.Contexts as contexts
use Rattle.rule_faults.specs.FirstFault.{first_of}
use Rattle.rule_faults.specs.ItemRows.{items_row}
use Rattle.rule_checker.specs.Contexts.{earlier_of}
use Rattle.rule_checker.specs.Faults.{found}
use Rattle.rule_checker.specs.declared.Items.{Items}
use Rattle.rule_checker.proofs.Started.{found_here, found_later}
use Rattle.item_rules.specs.Within.{item_row}
use Rattle.item_rules.proofs.Steps.{next_item}
use Rattle.item_rules.proofs.module.items_fault.Goals as goal

pub returns-in-Some : goal.returns-in-Some
returns-in-Some c =
    let names : List Word = c.loop-item.context.names in
    let x : Earlier = earlier_of c.loop-item.context.items in
    let at : ℕ = c.loop-item.item-index in
    let item : Item = c.item-item.result in
    found_here (first_of (items_row names (after x (item_of item)) (map item_of (drop (at + 1) c.args.items.now)))) c.loop-item.invariant.rest
    (next_item names x c.args.items.now at item c.loop-item-test.true c.item-item.is)
    (ap (λ (y : contexts.Context). first_of (item_row y (item_of item))) (sym c.loop-item.invariant.view) ∙ sym c.in_ok-fault.ensures.fault ∙ ap found c.in-Some.is)

pub loop-item-preserved : goal.loop-item-preserved
loop-item-preserved c =
    let names : List Word = c.loop-item.context.names in
    let x : Earlier = earlier_of c.loop-item.context.items in
    let at : ℕ = c.loop-item.item-index in
    let item : Item = c.item-item.result in
    let rest : List ItemSyntax = map item_of (drop (at + 1) c.args.items.now) in
    let same_names : c.pass_item.new.context.names ≡ names = c.in_ok-pass_item.ensures.names ∙ c.in_ok-fault.ensures.around.names in
    let declared : earlier_of c.pass_item.new.context.items ≡ after x (item_of item) = c.in_ok-pass_item.ensures.items ∙ ap (λ (is : Items). after (earlier_of is) (item_of item)) c.in_ok-fault.ensures.around.items in
    record {
      rest = ap (λ (ws : List Word). first_of (items_row ws (earlier_of c.pass_item.new.context.items) rest)) same_names
          ∙ ap (λ (e : Earlier). first_of (items_row names e rest)) declared
          ∙ found_later (first_of (items_row names (after x (item_of item)) rest)) c.loop-item.invariant.rest
          (next_item names x c.args.items.now at item c.loop-item-test.true c.item-item.is)
          (ap (λ (y : contexts.Context). first_of (item_row y (item_of item))) (sym c.loop-item.invariant.view) ∙ sym c.in_ok-fault.ensures.fault ∙ ap found c.in_default.is);
      view = c.in_ok-pass_item.ensures.view;
    }

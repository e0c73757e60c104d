use Rattle.std.proofs.Common.{◌≡◌, ℕ, ◌+◌, List, ◌∷◌, drop, map, ap, sym, ◌∙◌, subst}
use Rattle.std.specs.Prelude.{All}
use Rattle.std.proofs.lemmas.List.Elements.{All-head, All-tail}
use Rattle.ivory_tree.specs.Formed.{FormedItem}
use Rattle.ivory_tree.specs.Syntax.{ItemSyntax}
use Rattle.ivory_tree.specs.View.{item_of}
use Rattle.ivory_tree.specs.declared.Item.{Item}
use Rattle.item_rules.proofs.Steps.{rest_of}
use Rattle.item_maker.specs.Making.{SoFar, so_far, with_items}
use Rattle.item_maker.proofs.making.add_items.Goals as goal

pub add_item-requires : goal.add_item-requires
add_item-requires c =
    let items : List Item = c.args.items.now in
    let at : ℕ = c.loop-item.item-index in
    let item : Item = c.item-item.result in
    All-head FormedItem (item_of item) (map item_of (drop (at + 1) items)) (subst (All FormedItem) (rest_of item_of items at item c.loop-item-test.true c.item-item.is) c.loop-item.invariant.formed)

pub loop-item-preserved : goal.loop-item-preserved
loop-item-preserved c =
    let items : List Item = c.args.items.now in
    let at : ℕ = c.loop-item.item-index in
    let item : Item = c.item-item.result in
    let rest : List ItemSyntax = map item_of (drop (at + 1) items) in
    let cut : map item_of (drop at items) ≡ item_of item ∷ rest = rest_of item_of items at item c.loop-item-test.true c.item-item.is in
    record {
      rest = ap (λ (m : SoFar). with_items m rest) c.in_ok-add_item.ensures ∙ ap (with_items (so_far c.loop-item.making)) (sym cut) ∙ c.loop-item.invariant.rest;
      formed = All-tail FormedItem (item_of item) rest (subst (All FormedItem) cut c.loop-item.invariant.formed);
    }

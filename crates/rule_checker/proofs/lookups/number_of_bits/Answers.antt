use Rattle.std.proofs.Common.{◌∙◌, ap}
use Rattle.std.specs.List.{position_from}
use Rattle.iv_words.specs.Words.{same_word}
use Rattle.ivory_tree.specs.declared.items.BitsItem.{BitsItem}
use Rattle.rule_checker.specs.declared.items.Items.{Items}
use Rattle.rule_checker.proofs.Searches.{position_of_map}
use Rattle.rule_checker.proofs.lookups.number_of_bits.Goals as goal

pub returns-in-Some : goal.returns-in-Some
returns-in-Some c =
    let items : Items = c.args.items.now in
    c.in-Some.ensures.first ∙ ap (position_from (λ n. same_word n c.args.name.now) 0) items.bits_are_named
    ∙ position_of_map (λ (i : BitsItem). i.name.text) (λ n. same_word n c.args.name.now) 0 items.bits

pub returns-in-None : goal.returns-in-None
returns-in-None c =
    let items : Items = c.args.items.now in
    c.in-None.ensures.first ∙ ap (position_from (λ n. same_word n c.args.name.now) 0) items.bits_are_named
    ∙ position_of_map (λ (i : BitsItem). i.name.text) (λ n. same_word n c.args.name.now) 0 items.bits

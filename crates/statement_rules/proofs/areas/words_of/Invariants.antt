-- The words of the bit data so far.
use Rattle.std.proofs.Common.{◌≡◌, take, map}
use Rattle.ivory_tree.specs.declared.items.BitsItem.{BitsItem}
use Rattle.statement_rules.proofs.areas.words_of.Given as goal

abbrev pub invariant-loop-item : goal.invariant-loop-item
invariant-loop-item l = l.words ≡ map (λ (i : BitsItem). i.word) (take l.item-index l.items.bits)

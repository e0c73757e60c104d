use Rattle.std.proofs.Common.{◌≡◌, ◌++◌, take, map}
use Rattle.ivory_tree.specs.declared.BitsItem.{BitsItem}
use Rattle.iv_checker.proofs.table.add_words.Given as goal

abbrev pub invariant-loop-item : goal.invariant-loop-item
invariant-loop-item l = record {
  structs : l.table.structs ≡ l.initial.table.structs;
  words : l.table.words ≡ l.initial.table.words ++ map (λ (i : BitsItem). i.word) (take l.item-index l.bits);
}

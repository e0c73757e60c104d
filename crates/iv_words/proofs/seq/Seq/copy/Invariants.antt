-- What has been copied so far is the front of the list.
use Rattle.std.proofs.Common.{◌≡◌, take}
use Rattle.iv_words.proofs.seq.Seq.copy.Given as goal

abbrev pub invariant-loop-x : goal.invariant-loop-x
invariant-loop-x g l = l.items ≡ take l.x-index l.x-items

use Rattle.std.proofs.Common.{◌≡◌, drop}
use Rattle.std.specs.List.{find}
use Rattle.iv_words.specs.Words.{same_word}
use Rattle.c_run.proofs.find.find_extern.Given as goal

abbrev pub invariant-loop-x : goal.invariant-loop-x
invariant-loop-x l = find (λ y. same_word y.name l.name) (drop l.x-index l.externs) ≡ find (λ y. same_word y.name l.name) l.externs

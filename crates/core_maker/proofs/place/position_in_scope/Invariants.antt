use Rattle.std.proofs.Common.{◌≡◌, drop}
use Rattle.std.specs.List.{position_from}
use Rattle.iv_words.specs.Words.{same_word}
use Rattle.rule_checker.specs.declared.Local.{Local}
use Rattle.core_maker.proofs.place.position_in_scope.Given as goal

abbrev pub invariant-loop-at : goal.invariant-loop-at
invariant-loop-at l = position_from (λ (x : Local). same_word x.name l.name) l.at (drop l.at l.place.context.scope) ≡ position_from (λ (x : Local). same_word x.name l.name) 0 (l.place.context.scope)

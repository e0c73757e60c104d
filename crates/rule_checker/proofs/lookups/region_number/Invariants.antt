use Rattle.std.proofs.Common.{◌≡◌, drop}
use Rattle.std.specs.List.{position_from}
use Rattle.iv_words.specs.Words.{same_word}
use Rattle.rule_checker.proofs.lookups.region_number.Given as goal

abbrev pub invariant-loop-number : goal.invariant-loop-number
invariant-loop-number l = position_from (λ n. same_word n l.name) l.number (drop l.number l.regions) ≡ position_from (λ n. same_word n l.name) 0 l.regions

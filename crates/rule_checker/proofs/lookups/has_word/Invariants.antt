use Rattle.std.proofs.Common.{◌≡◌, drop}
use Rattle.std.specs.List.{list_any}
use Rattle.iv_words.specs.Words.{same_word}
use Rattle.rule_checker.proofs.lookups.has_word.Given as goal

abbrev pub invariant-loop-known : goal.invariant-loop-known
invariant-loop-known l = list_any (λ n. same_word n l.name) (drop l.known-index l.names) ≡ list_any (λ n. same_word n l.name) l.names

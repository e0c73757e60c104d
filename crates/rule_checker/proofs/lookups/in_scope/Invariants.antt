use Rattle.std.proofs.Common.{◌≡◌, map, drop}
use Rattle.std.specs.List.{list_any}
use Rattle.iv_words.specs.Words.{same_word}
use Rattle.rule_faults.specs.Contexts.{Local}
use Rattle.rule_checker.specs.Contexts.{local_of}
use Rattle.rule_checker.proofs.lookups.in_scope.Given as goal

abbrev pub invariant-loop-local : goal.invariant-loop-local
invariant-loop-local l = list_any (λ (a : Local). same_word a.name l.name) (map local_of (drop l.local-index l.context.scope)) ≡ list_any (λ (a : Local). same_word a.name l.name) (map local_of l.context.scope)

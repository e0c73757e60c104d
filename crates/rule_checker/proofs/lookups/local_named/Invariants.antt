use Rattle.std.proofs.Common.{◌≡◌, map, drop}
use Rattle.std.specs.List.{find}
use Rattle.iv_words.specs.Words.{same_word}
use Rattle.rule_faults.specs.Contexts.{Local}
use Rattle.rule_checker.specs.Contexts.{local_of}
use Rattle.rule_checker.proofs.lookups.local_named.Given as goal

abbrev pub invariant-loop-local : goal.invariant-loop-local
invariant-loop-local l = find (λ (a : Local). same_word a.name l.name) (map local_of (drop l.local-index l.context.scope)) ≡ find (λ (a : Local). same_word a.name l.name) (map local_of l.context.scope)

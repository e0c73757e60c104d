-- What the rest gives, behind the contracts so far. The place stays as it was.
use Rattle.std.proofs.Common.{◌≡◌, ◌++◌, drop, map}
use Rattle.core_tree.specs.View as tree
use Rattle.ivory_tree.specs.View as text
use Rattle.check_numbers.specs.NumberedParts.{contracts_from, contracts_after}
use Rattle.core_maker.specs.Places.{env_of}
use Rattle.typing_rules.specs.ItemCores.{contract_core}
use Rattle.item_maker.proofs.contracts.contracts.Given as goal

abbrev pub invariant-loop-text : goal.invariant-loop-text
invariant-loop-text l = record {
  cores : map tree.contract_of l.made ++ contracts_from l.next (map (contract_core (env_of l.initial.place)) (map text.contract_of (drop l.text-index l.contracts)))
      ≡ contracts_from l.initial.next (map (contract_core (env_of l.initial.place)) (map text.contract_of l.contracts));
  numbers : contracts_after l.next (map (contract_core (env_of l.initial.place)) (map text.contract_of (drop l.text-index l.contracts)))
      ≡ contracts_after l.initial.next (map (contract_core (env_of l.initial.place)) (map text.contract_of l.contracts));
  same : l.place ≡ l.initial.place;
}

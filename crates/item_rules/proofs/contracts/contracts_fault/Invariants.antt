-- No contract so far has a fault.
use Rattle.std.proofs.Common.{◌≡◌, drop, map}
use Rattle.ivory_tree.specs.View.{contract_of}
use Rattle.rule_checker.specs.Contexts.{context_of}
use Rattle.rule_faults.specs.FirstFault.{first_of}
use Rattle.rule_faults.specs.ItemRows.{contracts_row}
use Rattle.item_rules.proofs.contracts.contracts_fault.Given as goal

abbrev pub invariant-loop-contract : goal.invariant-loop-contract
invariant-loop-contract l = record {
  rest : first_of (contracts_row (context_of l.context) (map contract_of (drop l.contract-index l.contracts))) ≡ first_of (contracts_row (context_of l.initial.context) (map contract_of l.contracts));
  same : l.context ≡ l.initial.context;
}

use Rattle.std.proofs.Common.{ℕ, ◌+◌, List, drop, map, ap, sym, ◌∙◌}
use Rattle.ivory_tree.specs.Syntax.{ContractSyntax}
use Rattle.ivory_tree.specs.View.{contract_of}
use Rattle.rule_faults.specs.Contexts as contexts
use Rattle.rule_faults.specs.FirstFault.{first_of}
use Rattle.rule_faults.specs.ItemRows.{contracts_row}
use Rattle.rule_checker.specs.Contexts.{context_of}
use Rattle.rule_checker.specs.Faults.{found}
use Rattle.rule_checker.specs.declared.Context.{Context}
use Rattle.rule_checker.proofs.Started.{found_here, found_later}
use Rattle.item_rules.proofs.Steps.{next_contract}
use Rattle.item_rules.proofs.contracts.contracts_fault.Goals as goal

pub returns-in-Some-clause-fault : goal.returns-in-Some-clause-fault
returns-in-Some-clause-fault c =
    let x : contexts.Context = context_of c.loop-contract.context in
    let at : ℕ = c.loop-contract.contract-index in
    found_here (first_of (contracts_row x (map contract_of (drop (at + 1) c.args.contracts.now)))) c.loop-contract.invariant.rest
    (next_contract x c.args.contracts.now at c.contract-item.result c.loop-contract-test.true c.contract-item.is)
    (sym c.contract_fault.ensures.fault ∙ ap found c.in-Some.is)

pub loop-contract-preserved : goal.loop-contract-preserved
loop-contract-preserved c =
    let x : contexts.Context = context_of c.loop-contract.context in
    let at : ℕ = c.loop-contract.contract-index in
    let rest : List ContractSyntax = map contract_of (drop (at + 1) c.args.contracts.now) in
    record {
      rest = ap (λ (y : Context). first_of (contracts_row (context_of y) rest)) c.contract_fault.ensures.same
          ∙ found_later (first_of (contracts_row x rest)) c.loop-contract.invariant.rest
          (next_contract x c.args.contracts.now at c.contract-item.result c.loop-contract-test.true c.contract-item.is)
          (sym c.contract_fault.ensures.fault ∙ ap found c.in_default.is);
      same = c.contract_fault.ensures.same ∙ c.loop-contract.invariant.same;
    }

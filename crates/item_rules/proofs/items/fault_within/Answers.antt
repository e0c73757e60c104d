use Rattle.std.proofs.Common.{ap, sym, ◌∙◌}
use Rattle.ivory_tree.specs.View.{global_of, proc_of, item_of}
use Rattle.ivory_tree.specs.declared.Item.{Item}
use Rattle.rule_checker.specs.Contexts.{context_of}
use Rattle.rule_faults.specs.Contexts as contexts
use Rattle.rule_faults.specs.FirstFault.{first_of}
use Rattle.rule_faults.specs.ItemRows.{within_item}
use Rattle.item_rules.proofs.Joined.{if_ok, global_told, proc_told}
use Rattle.item_rules.proofs.items.fault_within.Goals as goal

pub returns-in-Area-clause-fault : goal.returns-in-Area-clause-fault
returns-in-Area-clause-fault c =
    let x : contexts.Context = context_of c.args.context.now in
    if_ok c.global_fault.result (λ f h. h ∙ global_told x (global_of c.in-Area.item) ∙ ap (λ (i : Item). first_of (within_item x (item_of i))) (sym c.in-Area.is)) c.global_fault.ensures

pub returns-in-Proc-clause-fault : goal.returns-in-Proc-clause-fault
returns-in-Proc-clause-fault c =
    let x : contexts.Context = context_of c.args.context.now in
    if_ok c.proc_fault.result (λ f h. h ∙ proc_told x (proc_of c.in-Proc.item) ∙ ap (λ (i : Item). first_of (within_item x (item_of i))) (sym c.in-Proc.is)) c.proc_fault.ensures.fault

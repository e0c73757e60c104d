use Rattle.std.proofs.Common.{subst}
use Rattle.ivory_tree.specs.View.{module_of}
use Rattle.iv_checker.specs.Answers.{IsRefused}
use Rattle.ivoryc.proofs.ModuleTexts.{is_formed, has_few_nodes, has_core, has_fault}
use Rattle.core_tree.specs.Cores.{core_of}
use Rattle.ivoryc.proofs.read.core_of_tree.Goals as goal

pub check-requires-clause-formed : goal.check-requires-clause-formed
check-requires-clause-formed c = is_formed c.args.text.now c.args.tree.now c.requires

pub check-requires-clause-few : goal.check-requires-clause-few
check-requires-clause-few c = has_few_nodes c.args.text.now c.args.tree.now c.requires

pub returns-in-Ok : goal.returns-in-Ok
returns-in-Ok c = has_core c.args.text.now c.args.tree.now (core_of c.in-Ok.core) c.requires c.in-Ok.ensures.core

pub returns-in-Err-Rule : goal.returns-in-Err-Rule
returns-in-Err-Rule c =
    let refused = subst (IsRefused (module_of c.args.tree.now)) c.in-Err-Rule.field-0-is c.in-Err-Rule.ensures.refused in
    rw c.broken.ensures (has_fault c.args.text.now c.args.tree.now c.in-Err-Rule.fault c.requires refused)

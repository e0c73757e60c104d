use Rattle.std.proofs.Common.{ap, sym, ◌∙◌}
use Rattle.core_tree.specs.Cores.{core_of}
use Rattle.ivory_tree.specs.View.{module_of}
use Rattle.rule_checker.specs.Faults.{found}
use Rattle.iv_checker.proofs.Answered.{is_core, stays_text_like, is_fault}
use Rattle.iv_checker.proofs.checker.check.Goals as goal

pub returns-in-Some-clause-refused : goal.returns-in-Some-clause-refused
returns-in-Some-clause-refused c = is_fault (module_of c.args.m.now) c.in-Some.fault c.requires.formed (sym (ap found c.in-Some.is) ∙ c.in_ok-fault.ensures)

pub returns-in_ok-core_of_module-in-None-clause-core : goal.returns-in_ok-core_of_module-in-None-clause-core
returns-in_ok-core_of_module-in-None-clause-core c = is_core (module_of c.args.m.now) (core_of c.in_ok-core_of_module-in-None.field-0) c.in_ok-core_of_module-in-None.ensures

pub returns-in_ok-core_of_module-in-None-clause-text_like : goal.returns-in_ok-core_of_module-in-None-clause-text_like
returns-in_ok-core_of_module-in-None-clause-text_like c = stays_text_like (module_of c.args.m.now) (core_of c.in_ok-core_of_module-in-None.field-0) c.in_ok-core_of_module-in-None.ensures

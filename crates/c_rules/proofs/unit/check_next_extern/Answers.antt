use Rattle.std.proofs.lemmas.Result.{on_ok_weaker}
use Rattle.c_rules.proofs.Units.{extern_declared, save_functions}
use Rattle.c_rules.proofs.unit.check_next_extern.Goals as goal

pub returns-clause-next : goal.returns-clause-next
returns-clause-next c = on_ok_weaker c.declare_function.result (extern_declared c.args.names.now c.declare_function.new.names c.args.declared) c.declare_function.ensures

pub returns-clause-others : goal.returns-clause-others
returns-clause-others c = on_ok_weaker c.declare_function.result (save_functions c.args.names.now c.declare_function.new.names _) c.declare_function.ensures

use Rattle.std.proofs.lemmas.Result.{on_ok_weaker}
use Rattle.c_rules.proofs.Scopes.{on_ok_always}
use Rattle.c_rules.proofs.Units.{function_declared, save_functions}
use Rattle.c_rules.proofs.unit.check_next_function.Goals as goal

pub returns-clause-walks : goal.returns-clause-walks
returns-clause-walks c = on_ok_always c.declare_function.result c.in_ok-check_function.ensures.walks

pub returns-clause-next : goal.returns-clause-next
returns-clause-next c = on_ok_weaker c.declare_function.result (function_declared c.args.names.now c.declare_function.new.names c.args.function) (rw c.in_ok-check_function.ensures.same at c.declare_function.ensures)

pub returns-clause-others : goal.returns-clause-others
returns-clause-others c = on_ok_weaker c.declare_function.result (save_functions c.args.names.now c.declare_function.new.names _) (rw c.in_ok-check_function.ensures.same at c.declare_function.ensures)

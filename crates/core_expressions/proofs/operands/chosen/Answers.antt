use Rattle.std.proofs.lemmas.Result.{err_from_is_err_and}
use Rattle.core_state.specs.State.{value_of}
use Rattle.core_expressions.proofs.Choices.{not_chosen}
use Rattle.core_expressions.proofs.operands.chosen.Goals as goal

pub returns-in_err-tick : goal.returns-in_err-tick
returns-in_err-tick c =
    let p = err_from_is_err_and c.from_residual.result c.from_residual.ensures.1 in
    rw (p.1, p.2) (not_chosen (value_of c.args.x.now) c.in-Some.holds c.in_err-tick.field-0.0 c.args.world.now c.tick.new.self c.in-Some.ensures c.in_err-tick.ensures)

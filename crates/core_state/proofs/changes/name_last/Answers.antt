use Rattle.std.proofs.Common.{ap}
use Rattle.core_state.specs.State.{value_of}
use Rattle.core_state.proofs.Entering.{one_named}
use Rattle.core_state.proofs.changes.name_last.Goals as goal

pub returns-clause-names : goal.returns-clause-names
returns-clause-names c =
    let v = c.in-Some.value in
    one_named c.args.left.now c.pop.new.self v c.args.names.now c.push.new.self (record { number = c.len-number.result; value = v }) c.in-Some.ensures c.in_ok-push.ensures.ok (ap (λ k. (k, value_of v)) c.len-number.ensures)

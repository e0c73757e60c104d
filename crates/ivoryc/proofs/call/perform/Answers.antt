use Rattle.ivoryc.specs.Calls.{change_of, store_seen}
use Rattle.ivoryc.proofs.Steps.{big_performed}
use Rattle.ivoryc.proofs.call.perform.Goals as goal

pub returns-in-Big-clause-performed : goal.returns-in-Big-clause-performed
returns-in-Big-clause-performed g c =
    let store = change_of (store_seen g.S.Store.holds g.S.Store.loads g.S.Store.faults) c.args.store.now c.args.store.now in
    rw c.in-Big.is (big_performed c.in-Big.k store _ c.big.result c.big.ensures)

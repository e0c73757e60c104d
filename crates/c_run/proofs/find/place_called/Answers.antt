use Rattle.std.proofs.Common.{refl}
use Rattle.std.proofs.lemmas.Option.{slice_get_read}
use Rattle.c_run.proofs.Calls.{latest_next, latest_is}
use Rattle.c_run.proofs.find.place_called.Goals as goal

pub loop-k-preserved : goal.loop-k-preserved
loop-k-preserved c =
    let fs = c.args.functions.now in
    let k = c.loop-k.k in
    let f = c.index-functions-k.result in
    latest_next fs c.args.name.now k f (slice_get_read fs _ k f refl c.loop-k-test.true c.index-functions-k.is) c.loop-k.found c.latest-found.result c.latest-found.ensures c.loop-k.invariant

pub returns : goal.returns
returns c = latest_is c.args.functions.now c.args.name.now c.loop-k.k c.loop-k.found c.loop-k-test.false c.loop-k.invariant

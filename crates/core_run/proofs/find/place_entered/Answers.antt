use Rattle.std.proofs.Common.{refl, sym, ◌∙◌}
use Rattle.std.proofs.lemmas.Option.{slice_get_read}
use Rattle.core_run.proofs.Calls.{entry_here, entry_other, none_entered}
use Rattle.core_run.proofs.find.place_entered.Goals as goal

pub loop-k-preserved : goal.loop-k-preserved
loop-k-preserved c =
    let fs = c.args.procs.now in
    let k = c.loop-k.k in
    let f = c.index-procs-k.result in
    entry_other fs c.args.name.now k f (slice_get_read fs _ k f refl c.loop-k-test.true c.index-procs-k.is) c.loop-k.invariant (sym c.is_entry.ensures ∙ c.if-is_entry.false)

pub returns-then-is_entry : goal.returns-then-is_entry
returns-then-is_entry c =
    let fs = c.args.procs.now in
    let k = c.loop-k.k in
    let f = c.index-procs-k.result in
    entry_here fs c.args.name.now k f (slice_get_read fs _ k f refl c.loop-k-test.true c.index-procs-k.is) c.loop-k.invariant (sym c.is_entry.ensures ∙ c.if-is_entry.true)

pub returns : goal.returns
returns c = none_entered c.args.procs.now c.args.name.now c.loop-k.k c.loop-k-test.false c.loop-k.invariant

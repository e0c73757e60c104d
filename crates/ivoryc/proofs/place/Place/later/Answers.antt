use Rattle.std.proofs.Common.{◌≡◌, ◌+◌, ◌≤◌, length, arith}
use Rattle.ivoryc.proofs.Places.{begins}
use Rattle.ivoryc.proofs.place.Place.later.Goals as goal

pub loop-byte-init : goal.loop-byte-init
loop-byte-init c =
    let within : c.args.from ≤ length c.args.text.now = omega (arith, c.requires.order, c.requires.within) in
    let e : c.args.from + 0 ≡ c.args.from = omega arith in
    rw e (begins c.args.self c.args.text.now c.args.from c.requires.stands within)

use Rattle.std.proofs.Common.{◌∙◌, sym, drop, arith}
use Rattle.std.specs.Prelude.{map}
use Rattle.c_objects.specs.Bytes.{byte_of}
use Rattle.c_objects.specs.Store.{representation}
use Rattle.c_objects.proofs.Rows.{fill_end, none_left}
use Rattle.c_objects.proofs.objects.fill.Goals as goal

pub returns : goal.returns
returns c =
    sym (fill_end (representation c.args.t) (map byte_of c.loop-i.bytes) (drop c.loop-i.i c.args.places.now) (drop c.loop-i.i c.args.values.now) (none_left c.args.places.now c.args.values.now c.loop-i.i (omega arith)))
    ∙ c.loop-i.invariant

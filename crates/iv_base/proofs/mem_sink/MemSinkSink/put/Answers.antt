-- Of a piece that does not fit, the front that fits was added.
use Rattle.std.proofs.Common.{◌-◌, take, drop, length, arith}
use Rattle.std.proofs.lemmas.List.{take-append-drop}
use Rattle.iv_base.proofs.mem_sink.MemSinkSink.put.Goals as goal

pub returns-in-Ok-extend_from_slice-clause-part : goal.returns-in-Ok-extend_from_slice-clause-part
returns-in-Ok-extend_from_slice-clause-part c =
    let free = c.args.self.now.room - length c.args.self.now.text in
    record {
      added = take free c.args.piece.now;
      rest = drop free c.args.piece.now;
      whole = take-append-drop free c.args.piece.now;
      holds = grind arith;
    }

use Rattle.std.proofs.Common.{◌≡◌, refl, arith}
use Rattle.std.specs.Prelude.{OnOk, OnErr}
use Rattle.iv_base.specs.Sinks.{grown, GrewByPrefix}
use Rattle.text_pieces.proofs.Stages.{arrived}
use Rattle.iv_script.specs.Report.{report}
use Rattle.iv_script.proofs.report.write_report.Goals as goal

pub returns-clause-held : goal.returns-clause-held
returns-clause-held g c =
    let end = arrived c.finish.result refl refl c.over-gathered.ensures c.put_report.ensures c.finish.ensures.puts c.finish.ensures.none c.finish.ensures.counted c.finish.ensures.answer in
    let held : OnOk c.finish.result (g.K.Sink.held c.finish.new.self.sink.now ≡ grown (g.K.Sink.held c.args.out.now) (report c.args.o.now)) = end.held in
    grind arith

pub returns-clause-part : goal.returns-clause-part
returns-clause-part g c =
    let end = arrived c.finish.result refl refl c.over-gathered.ensures c.put_report.ensures c.finish.ensures.puts c.finish.ensures.none c.finish.ensures.counted c.finish.ensures.answer in
    let part : OnErr c.finish.result (GrewByPrefix (g.K.Sink.held c.args.out.now) (g.K.Sink.held c.finish.new.self.sink.now) (report c.args.o.now)) = end.part in
    grind arith

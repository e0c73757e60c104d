use Rattle.std.proofs.Common.{◌≡◌, refl, arith}
use Rattle.std.specs.Prelude.{OnOk, OnErr}
use Rattle.iv_base.specs.Sinks.{grown, GrewByPrefix}
use Rattle.c_ast.specs.View.{unit_of}
use Rattle.c_text.specs.Spelling.{unit_text}
use Rattle.c_writer.proofs.Stages.{arrived}
use Rattle.c_writer.proofs.unit.write_unit.Goals as goal

pub returns-clause-held : goal.returns-clause-held
returns-clause-held g c =
    let end = arrived c.finish.result refl refl c.over-gathered.ensures c.put_unit.ensures c.finish.ensures.puts c.finish.ensures.none c.finish.ensures.counted c.finish.ensures.answer in
    let held : OnOk c.finish.result (g.K.Sink.held c.finish.new.self.sink.now ≡ grown (g.K.Sink.held c.args.out.now) (unit_text (unit_of c.args.u.now))) = end.held in
    grind arith

pub returns-clause-part : goal.returns-clause-part
returns-clause-part g c =
    let end = arrived c.finish.result refl refl c.over-gathered.ensures c.put_unit.ensures c.finish.ensures.puts c.finish.ensures.none c.finish.ensures.counted c.finish.ensures.answer in
    let part : OnErr c.finish.result (GrewByPrefix (g.K.Sink.held c.args.out.now) (g.K.Sink.held c.finish.new.self.sink.now) (unit_text (unit_of c.args.u.now))) = end.part in
    grind arith

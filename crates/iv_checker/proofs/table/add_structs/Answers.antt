use Rattle.std.proofs.Common.{ℕ, List, ap, ◌∙◌}
use Rattle.area_types.specs.Tables.{Table}
use Rattle.area_types.specs.declared.StructDef.{StructDef}
use Rattle.iv_checker.proofs.Tabled.{next_fits, rest_fits, front_grows}
use Rattle.iv_checker.proofs.table.add_structs.Goals as goal

pub add_struct-requires : goal.add_struct-requires
add_struct-requires c =
    next_fits c.loop-found.table c.args.structs.now c.loop-found.found-index c.found-item.result c.in_ok-next.next c.loop-found-test.true c.found-item.is c.in_ok-next.ensures c.loop-found.invariant.fit

pub loop-found-preserved : goal.loop-found-preserved
loop-found-preserved c =
    let t : Table = c.loop-found.table in
    let structs : List StructDef = c.args.structs.now in
    let at : ℕ = c.loop-found.found-index in
    let x : StructDef = c.found-item.result in
    let y : StructDef = c.in_ok-next.next in
    record {
      fit = rest_fits t c.add_struct.new.self structs at x y c.loop-found-test.true c.found-item.is c.in_ok-next.ensures c.loop-found.invariant.fit c.in_ok-add_struct.ensures.ok;
      structs = front_grows c.args.table.now.structs t.structs c.add_struct.new.self.structs structs at x y c.loop-found-test.true c.found-item.is c.in_ok-next.ensures c.loop-found.invariant.structs
          (ap (λ (z : Table). z.structs) c.in_ok-add_struct.ensures.ok);
      words = ap (λ (z : Table). z.words) c.in_ok-add_struct.ensures.ok ∙ c.loop-found.invariant.words;
    }

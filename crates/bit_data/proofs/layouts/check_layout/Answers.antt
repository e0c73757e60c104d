use Rattle.std.proofs.Common.{◌≡◌, Ok, rules, sym}
use Rattle.bit_data.specs.declared.layout.BitLayout.{BitLayout}
use Rattle.bit_data.specs.Layouts.{laid_out}
use Rattle.bit_data.proofs.Placed.{laid_is}
use Rattle.bit_data.proofs.layouts.check_layout.Goals as goal

pub returns-clause-layout : goal.returns-clause-layout
returns-clause-layout c =
    let layout : BitLayout = record { name = c.new.result; word = c.args.word; fields = c.in_ok-placed.placed } in
    let e : Ok layout ≡ laid_out c.args.word c.args.fields.now = search rules in
    laid_is c.args.word c.args.fields.now layout c.requires (sym e)

use Rattle.std.proofs.Common.{arith}
use Rattle.core_tree.proofs.Sites.{number_is_within, is_the_row}
use Rattle.contract_checks.proofs.Rows.{no_check, placed_more}
use Rattle.contract_checks.proofs.row.place.Goals as goal

pub bounds-row-check : goal.bounds-row-check
bounds-row-check c =
    let within = number_is_within c.args.checks.now c.requires.numbered.0 c.requires.numbered.1 c.loop-check.check-index no_check c.loop-check-test.true in
    omega (arith, within, c.loop-check.invariant.0)

pub loop-check-preserved : goal.loop-check-preserved
loop-check-preserved c = placed_more c.args.checks.now c.requires.numbered.0 c.loop-check.row c.requires.numbered.1 c.loop-check.check-index c.loop-check-test.true c.loop-check.invariant.0 c.loop-check.invariant.1

pub returns : goal.returns
returns c = λ sites are. is_the_row c.args.checks.now sites c.loop-check.row are c.loop-check.invariant.0 (λ j d within. c.loop-check.invariant.1 j d (omega (arith, within, c.loop-check-test.false)))

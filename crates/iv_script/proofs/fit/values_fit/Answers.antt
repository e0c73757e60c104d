use Rattle.std.proofs.Common.{◌∙◌, sym, pos}
use Rattle.run_records.specs.declared.Plain.TheVariants.{Truth}
use Rattle.iv_script.proofs.Fitting.{values_next}
use Rattle.iv_script.proofs.fit.values_fit.Goals as goal

pub loop-at-preserved : goal.loop-at-preserved
loop-at-preserved c = values_next c.args.plains.now c.args.values.now c.loop-at.at Truth (pos 0) c.loop-at-test.true c.requires (sym c.plain_fits.ensures ∙ c.if-not-plain_fits.false) ∙ c.loop-at.invariant

use Rattle.std.proofs.Common.{◌≡◌}
use Rattle.iv_script.specs.Fit.{fit_of}
use Rattle.iv_script.proofs.Fitting.{fits_where_ok}
use Rattle.iv_script.proofs.fit.fit_script.Goals as goal

pub returns-clause-fits : goal.returns-clause-fits
returns-clause-fits c =
    let is : c.fit_calls.result ≡ fit_of c.args.script.now.calls c.args.exports.now = cc in
    fits_where_ok c.args.script.now.calls c.args.exports.now c.fit_calls.result is

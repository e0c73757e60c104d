use Rattle.std.proofs.Common.{◌≡◌, drop}
use Rattle.iv_script.specs.Fit.{fit_of}
use Rattle.iv_script.proofs.fit.fit_calls.Given as goal

abbrev pub invariant-loop-call : goal.invariant-loop-call
invariant-loop-call l = fit_of (drop l.call-index l.calls) l.exports ≡ fit_of l.calls l.exports

use Rattle.std.proofs.Common.{sym}
use Rattle.ivoryc.specs.Steps.{unfit}
use Rattle.ivoryc.proofs.script.script_for.Goals as goal

pub returns-in-Err : goal.returns-in-Err
returns-in-Err c = unfit {s = c.in_ok-script.script} c.in_ok-script.ensures (sym c.in-Err.ensures.first)

use Rattle.ivoryc.proofs.TextSteps.{no_unit_where_none}
use Rattle.ivoryc.proofs.emit.why_not.Goals as goal

pub returns-in-Ok : goal.returns-in-Ok
returns-in-Ok c = record { typed = c.in-Ok.ensures; none = c.requires.none }

pub returns-in-Err : goal.returns-in-Err
returns-in-Err c = no_unit_where_none c.args.text.now c.in-Err.refusal c.requires.none c.in-Err.ensures

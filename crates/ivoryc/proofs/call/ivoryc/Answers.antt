use Rattle.std.proofs.Common.{refl}
use Rattle.ivoryc.proofs.Steps.{promised_done, promised_refused}
use Rattle.ivoryc.proofs.call.ivoryc.Goals as goal

pub returns-in-Ok : goal.returns-in-Ok
returns-in-Ok g c = promised_done _ c.obey.result c.in-Ok.field-0 c.in-Ok.is c.obey.ensures refl refl

pub returns-in-Err : goal.returns-in-Err
returns-in-Err g c = promised_refused _ c.obey.result c.in-Err.refusal c.in-Err.is c.obey.ensures c.report.ensures

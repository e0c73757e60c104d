use Rattle.c_lower.proofs.Shaped.{shape_exports}
use Rattle.c_lower.proofs.module.units_export_what_modules_export.Goals as goal

pub returns : goal.returns
returns c = shape_exports

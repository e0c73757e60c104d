use Rattle.std.proofs.Common.{◌∙◌, sym, refl}
use Rattle.c_ast.specs.View.{unit_of}
use Rattle.c_text.specs.UnitRules.{unit_demands}
use Rattle.c_text.proofs.FirstFault.{search_finds}
use Rattle.c_reader.proofs.Results as result
use Rattle.c_reader.proofs.read.kept.Goals as goal

pub returns-in-Ok-None : goal.returns-in-Ok-None
returns-in-Ok-None c = (refl, result.kept c.args.target (unit_of c.args.unit) (sym (c.in-Ok-None.ensures c.requires) ∙ c.in-Ok-None.field-0-is))

pub returns-in-Ok-Some : goal.returns-in-Ok-Some
returns-in-Ok-Some c = search_finds (unit_demands c.args.target (unit_of c.args.unit)) c.in-Ok-Some.fault (sym (c.in-Ok-Some.ensures c.requires) ∙ c.in-Ok-Some.field-0-is)

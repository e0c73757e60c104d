use Rattle.std.proofs.Common.{sym}
use Rattle.first_form.proofs.Views.{other_type}
use Rattle.first_form.proofs.import.is_uint8.Goals as goal

pub returns-in_default : goal.returns-in_default
returns-in_default c = sym (other_type _ c.in_default.not-Int)

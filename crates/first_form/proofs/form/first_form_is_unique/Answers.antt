use Rattle.first_form.proofs.Agree.{one_module}
use Rattle.first_form.proofs.form.first_form_is_unique.Goals as goal

pub returns : goal.returns
returns c = one_module

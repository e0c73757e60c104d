use Rattle.first_form.proofs.Sound.{valid}
use Rattle.first_form.proofs.form.first_form_is_valid.Goals as goal

pub returns : goal.returns
returns c = valid

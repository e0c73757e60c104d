use Rattle.module_text.proofs.Verdicts.{one_verdict}
use Rattle.module_text.proofs.laws.each_text_has_one_verdict.Goals as goal

pub returns : goal.returns
returns c = one_verdict

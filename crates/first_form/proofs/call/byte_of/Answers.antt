use Rattle.std.proofs.Common.{pos}
use Rattle.first_form.proofs.Views.{byte_literal}
use Rattle.first_form.proofs.call.byte_of.Goals as goal

pub returns-in_default-clause-none : goal.returns-in_default-clause-none
returns-in_default-clause-none c = λ v s. c.in_default.not-Lit (pos v) (byte_literal _ v s)

use Rattle.std.proofs.Common.{arith, sym, ap, ◌∙◌, ◌≡◌, ◌+◌, ◌*◌, ◌-◌, get_or, None}
use Rattle.c_lexemes.specs.Numbers.{below_limit}
use Rattle.c_lexemes.proofs.Numbers.{too_large}
use Rattle.c_lexemes.proofs.digits.value_of.Goals as goal

pub returns-in_default : goal.returns-in_default
returns-in_default c = too_large c.loop-digit.n c.loop-digit.digit-index _ c.args.digits.now (omega arith) c.loop-digit.invariant.same (sym c.with_digit.ensures.value ∙ c.in_default.is)

use native.Mathlib.Omega.{arith}
use Rattle.module_text.specs.Verdicts.{too_long}
use Rattle.module_text.proofs.read.read.Goals as goal

pub returns-then-text-gt-SOURCE_LIMIT : goal.returns-then-text-gt-SOURCE_LIMIT
returns-then-text-gt-SOURCE_LIMIT c = too_long (omega (arith, c.if-text-gt-SOURCE_LIMIT.true))

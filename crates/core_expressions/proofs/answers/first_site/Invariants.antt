use Rattle.std.proofs.Common.{◌≡◌, drop}
use Rattle.core_expressions.specs.Forms.{first_site}
use Rattle.core_expressions.proofs.answers.first_site.Given as goal

abbrev pub invariant-loop-check : goal.invariant-loop-check
invariant-loop-check l = first_site l.checks l.kind ≡ first_site (drop l.check-index l.checks) l.kind

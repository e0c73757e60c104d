-- What the code wants of an expression, as the rules see it.
use Rattle.rule_faults.specs.Wants as rules
use Rattle.rule_checker.specs.declared.wants.Want.{Want}
use Rattle.rule_checker.specs.declared.wants.Want.TheVariants as seen
use Rattle.rule_checker.specs.View.{type_at, reference_at}

abbrev pub want_at : Want → rules.Want
want_at seen.Nothing = rules.Nothing
want_at seen.Unknown = rules.Unknown
want_at (seen.Wants t) = rules.Wants (type_at t)
want_at (seen.Takes required wanted) = rules.Takes required (reference_at wanted)
want_at (seen.Returns wanted) = rules.Returns (reference_at wanted)

-- What the code's faults say: the number of a rule and a place.
use Rattle.std.specs.Prelude.{ℕ, Option, Some, None, option_map}
use Rattle.iv_words.specs.declared.Span.{Span}
use Rattle.rule_checker.specs.declared.fault.RuleFault.{RuleFault}

abbrev pub pair_of : RuleFault → ℕ × Span
pair_of f = (f.rule, f.span)

abbrev pub found : Option RuleFault → Option (ℕ × Span)
found fault = option_map pair_of fault

-- the first of two, where there is one
abbrev pub either : {A : Type 0} → Option A → Option A → Option A
either None later = later
either (Some x) later = Some x

-- the rule that is broken at a place, else what is found within
abbrev pub at_place : Option ℕ → Span → Option (ℕ × Span) → Option (ℕ × Span)
at_place None s within = within
at_place (Some k) s within = Some (k, s)

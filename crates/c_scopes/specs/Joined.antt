-- The earlier of two faults that there may be, and the fault of a rule that is asked for at a place.
use Rattle.std.specs.Prelude.{ℕ, Bool, Option, Some, None, if◌then◌else◌}
use Rattle.c_text.specs.declared.fault.CFault.{CFault}
use Rattle.c_text.specs.declared.fault.CWhy.{CWhy}
use Rattle.c_text.specs.FirstFault.{or_earlier}

-- the last place that fits
abbrev pub last : ℕ
last = 4294967295

abbrev pub joined : Option CFault → Option CFault → Option CFault
joined None g = g
joined (Some f) g = Some (or_earlier f g)

-- a fault, where the rule is broken
abbrev pub broken : ℕ → CWhy → Bool → Option CFault
broken at why kept = if kept then None else Some (record { at = at; why = why })

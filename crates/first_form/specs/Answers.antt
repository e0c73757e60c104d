-- What the parts answer, where memory suffices.
use Rattle.std.specs.Prelude.{Result, Ok, Err}
use Rattle.first_form.specs.declared.stop.Stop.{Stop}
use Rattle.first_form.specs.declared.stop.Stop.TheVariants as stop

abbrev pub OnRefused : Stop → Type 0 → Type 0
OnRefused stop.Memory P = Unit {0}
OnRefused stop.Refused P = P

-- a refusal comes only where this holds
abbrev pub IfRefused : {A : Type 0} → Result A Stop → Type 0 → Type 0
IfRefused (Ok x) P = Unit {0}
IfRefused (Err e) P = OnRefused e P

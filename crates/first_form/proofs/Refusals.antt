-- Refusals and answers that a function hands on.
use Rattle.std.proofs.Common.{◌≡◌, Result, Ok, Err, sym, subst}
use Rattle.first_form.specs.Answers.{IfRefused, OnRefused}
use Rattle.first_form.specs.declared.stop.Stop.{Stop}
use Rattle.first_form.specs.declared.stop.Stop.TheVariants as stop

handed_on : (P Q : Type 0) (e : Stop) → OnRefused e P → (P → Q) → OnRefused e Q
handed_on P Q stop.Memory h f = tt
handed_on P Q stop.Refused h f = f h

pub refused_on : {B : Type 0} {P Q : Type 0} (r : Result B Stop) (e : Stop) → r ≡ Err e → OnRefused e P → (P → Q) → IfRefused r Q
refused_on {B} {P} {Q} r e is h f = subst (λ x. IfRefused {A = B} x Q) (sym is) (handed_on P Q e h f)

-- ---- an answer that is handed on

pub still_refused : {A : Type 0} {P Q : Type 0} (r : Result A Stop) → IfRefused r P → (P → Q) → IfRefused r Q
still_refused (Ok x) h f = tt
still_refused {P} {Q} (Err e) h f = handed_on P Q e h f

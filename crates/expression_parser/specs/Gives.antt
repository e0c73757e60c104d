-- A result of the code is the outcome of a reader, unless memory ran out.
use Rattle.std.specs.Prelude.{◌≡◌, List, Result, Ok, Err}
use Rattle.std.specs.Borrow.{Bor}
use Rattle.ivory_lexer.specs.declared.Token.{Token}
use Rattle.reading.specs.Reader.{Outcome, Done, Unexpected, TooDeep}
use Rattle.expression_parser.specs.declared.fault.Fault.{Fault}
use Rattle.expression_parser.specs.declared.fault.Fault.TheVariants as fault

abbrev pub Faults : {A : Type 0} → Fault → Outcome Token A → Type 0
Faults fault.Memory o = Unit {0}
Faults (fault.Unexpected rest) o = o ≡ Unexpected rest.now
Faults (fault.TooDeep rest) o = o ≡ TooDeep rest.now

abbrev pub Gives : {A : Type 0} → Result (A × Bor (List Token)) Fault → Outcome Token A → Type 0
Gives (Ok x) o = o ≡ Done x.0 x.1.now
Gives (Err e) o = Faults e o

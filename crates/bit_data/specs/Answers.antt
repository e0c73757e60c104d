-- What a call that takes memory answers: what is wanted of it, or want of memory.
use Rattle.std.specs.Prelude.{◌≡◌, Result, Ok, Err}
use Rattle.bit_data.specs.declared.fault.LayoutFault.{LayoutFault}
use Rattle.bit_data.specs.declared.fault.LayoutFault.TheVariants.{Memory}

abbrev pub Answers : {A : Type 0} → Result A LayoutFault → Result A LayoutFault → Type 0
Answers (Ok x) wanted = Ok x ≡ wanted
Answers (Err Memory) wanted = Unit {0}
Answers (Err fault) wanted = Err fault ≡ wanted

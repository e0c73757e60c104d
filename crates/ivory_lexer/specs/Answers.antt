-- What a call that takes memory answers: what is wanted of it, or want of memory.
use Rattle.std.specs.Prelude.{◌≡◌, Result, Ok, Err}
use Rattle.ivory_lexer.specs.declared.fault.LexFault.{LexFault}
use Rattle.ivory_lexer.specs.declared.fault.LexFault.TheVariants as fault

abbrev pub Answers : {A : Type 0} → Result A LexFault → Result A LexFault → Type 0
Answers (Err fault.Memory) wanted = Unit {0}
Answers r wanted = r ≡ wanted

-- of a fault of the text, and not of want of memory
abbrev pub IfFault : {A : Type 0} → Result A LexFault → (LexFault → Type 0) → Type 0
IfFault (Ok x) P = Unit {0}
IfFault (Err fault.Memory) P = Unit {0}
IfFault (Err why) P = P why

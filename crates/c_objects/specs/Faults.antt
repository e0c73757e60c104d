-- What the code of a memory answers, as the memory's definition answers it; want of memory says nothing.
use Rattle.std.specs.Prelude.{◌≡◌, ℤ, List, ◌++◌, Result, Ok, Err}
use Rattle.c_memory.specs.Access as memory
use Rattle.c_meaning.specs.Memory.{CObjects}
use Rattle.c_objects.specs.declared.faults.Fault.{Fault}
use Rattle.c_objects.specs.declared.faults.Fault.TheVariants.{Dead, BadAccess, Indeterminate, ConstWrite}
use Rattle.c_objects.specs.declared.faults.Refusal.{Refusal}
use Rattle.c_objects.specs.declared.faults.Refusal.TheVariants as refusal

abbrev pub fault_of : Fault → memory.Fault
fault_of Dead = memory.Dead
fault_of BadAccess = memory.BadAccess
fault_of Indeterminate = memory.Indeterminate
fault_of ConstWrite = memory.ConstWrite

abbrev pub Answers : Result ℤ memory.Fault → Result ℤ Refusal → Type 0
Answers said (Ok v) = said ≡ Ok v
Answers said (Err (refusal.Fault fault)) = said ≡ Err (fault_of fault)
Answers said (Err refusal.Memory) = Unit {0}

-- where the memory has become `new`
abbrev pub Writes : Result CObjects memory.Fault → CObjects → Result (Unit {0}) Refusal → Type 0
Writes said new (Ok done) = said ≡ Ok new
Writes said new (Err (refusal.Fault fault)) = said ≡ Err (fault_of fault)
Writes said new (Err refusal.Memory) = Unit {0}

-- a list of values more
abbrev pub AddsAll : Result (List ℤ) memory.Fault → (old new : List ℤ) → Result (Unit {0}) Refusal → Type 0
AddsAll said old new (Ok done) = memory.and_then said (λ vs. Ok (old ++ vs)) ≡ Ok new
AddsAll said old new (Err (refusal.Fault fault)) = memory.and_then said (λ vs. Ok (old ++ vs)) ≡ Err (fault_of fault)
AddsAll said old new (Err refusal.Memory) = Unit {0}

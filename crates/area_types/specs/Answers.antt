-- What a call that takes memory answers: what is wanted of it, or want of memory.
use Rattle.std.specs.Prelude.{◌≡◌, Result, Ok, Err}
use Rattle.area_types.specs.declared.fault.AreaFault.{AreaFault}
use Rattle.area_types.specs.declared.fault.AreaFault.TheVariants.{Memory}

-- where `f` says what the answer stands for
abbrev pub Answers : {A B : Type 0} → (A → B) → Result A AreaFault → Result B AreaFault → Type 0
Answers f (Ok x) wanted = Ok (f x) ≡ wanted
Answers f (Err Memory) wanted = Unit {0}
Answers f (Err fault) wanted = Err fault ≡ wanted

-- What a store holds, what a load gives of it, and when a load may refuse.
use Rattle.std.specs.Prelude.{◌≡◌, ℕ, ◌+◌, ◌≤◌, take, if◌then◌else◌, List, [], ◌∷◌, nat_eq, Result, Ok, Err, Option, Some, None}
use Rattle.std.specs.Cmp.Lexicographic.{pointwise}
use Rattle.iv_base.specs.Counts.{Rose}
use Rattle.iv_base.specs.declared.store.File.{File}
use Rattle.iv_base.specs.declared.store.LoadFault.{LoadFault}
use Rattle.iv_base.specs.declared.store.LoadFault.TheVariants.{Fault, Memory}

-- the bytes that each name stands for, none for an absent name
abbrev pub FileMap : Type 0
FileMap = List ℕ → Option (List ℕ)

-- the map with one file more, which goes before all others of its name
abbrev pub with_first : File → FileMap → FileMap
with_first f files name = if pointwise nat_eq f.name name then Some f.bytes else files name

-- a list of files as such a map: of two files of one name the first counts
abbrev pub file_of : List File → FileMap
file_of [] name = None
file_of (f ∷ fs) name = with_first f (file_of fs) name

-- an absent name stands for the empty text
abbrev pub text_of : Option (List ℕ) → List ℕ
text_of None = []
text_of (Some bytes) = bytes

-- the first `most + 1` bytes under the name, or all where there are fewer; nothing is said where the store does not tell
abbrev pub Gives : Option FileMap → List ℕ → ℕ → List ℕ → Type 0
Gives None name most given = Unit {0}
Gives (Some files) name most given = given ≡ take (most + 1) (text_of (files name))

-- want of memory is free; any other fault comes only where the count of faults rose
abbrev pub HasLoadCause : {T : Type 0} → ℕ → ℕ → Result T LoadFault → Type 0
HasLoadCause before now (Ok given) = before ≤ now
HasLoadCause before now (Err Fault) = (before ≤ now) × Rose before now
HasLoadCause before now (Err Memory) = before ≤ now

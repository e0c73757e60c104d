-- What a read and a write of a scalar do, and for which of four reasons they are undefined, in the order of the reasons: the object has
-- ended (C99 6.2.4), no such scalar is laid out there (6.5), the scalar is indeterminate (6.7.8), the object is const (6.7.3).
use Rattle.std.specs.Prelude.{ℕ, ◌==◌, List, [], ◌∷◌, Option, Some, None, Result, Ok, Err, Bool, false, ◌&&◌, ◌||◌, if◌then◌else◌, slice_get, slice_set}
use Rattle.type_trees.specs.Layouts.{lay}
use Rattle.c_memory.specs.Representations.{Representation}
use Rattle.c_memory.specs.Objects.{Object, Objects}
use Rattle.c_memory.specs.Seen.{scalar_in, with_scalar}

pub data Fault : Type 0 where
  Dead BadAccess Indeterminate ConstWrite : Fault

-- a scalar stands among others at just its offset
abbrev pub laid_out : {S : Type 0} → (S → S → Bool) → ℕ × S → List (ℕ × S) → Bool
laid_out same x [] = false
laid_out same x (y ∷ ys) = ((x.0 == y.0) && same x.1 y.1) || laid_out same x ys

-- what a read gives of a value that may be indeterminate
abbrev pub known : {V : Type 0} → Option V → Result V Fault
known (Some v) = Ok v
known None = Err Indeterminate

abbrev pub first_of : Option Fault → Option Fault → Option Fault
first_of (Some fault) later = Some fault
first_of None later = later

-- a fault, where there is one, in place of an answer
abbrev pub unless : {A : Type 0} → Option Fault → Result A Fault → Result A Fault
unless (Some fault) answer = Err fault
unless None answer = answer

abbrev pub and_then : {A C : Type 0} → Result A Fault → (A → Result C Fault) → Result C Fault
and_then (Ok a) f = f a
and_then (Err fault) f = Err fault

-- ---- of an object

module _ {S N V B : Type 0} (r : Representation S V B) where
  -- why the scalar may not be accessed
  abbrev pub access_fault : Object S N B → ℕ × S → Option Fault
  access_fault ob x = if ob.live then if laid_out r.same x (lay r.metric ob.type 0) then None else Some BadAccess else Some Dead

  abbrev pub read_object : Object S N B → ℕ × S → Result V Fault
  read_object ob x = unless (access_fault ob x) (known (scalar_in r ob.bytes x))

  -- why it may not be written
  abbrev pub write_fault : Object S N B → ℕ × S → Option Fault
  write_fault ob x = first_of (access_fault ob x) (if ob.constant then Some ConstWrite else None)

  abbrev pub written : Object S N B → ℕ × S → V → Object S N B
  written ob x v = record ob { bytes = with_scalar r ob.bytes x v }

  abbrev pub write_object : Object S N B → ℕ × S → V → Result (Object S N B) Fault
  write_object ob x v = unless (write_fault ob x) (Ok (written ob x v))

-- ---- of a number of an object

-- a number that no object has is that of none that lives
abbrev pub of_object : {S N B A : Type 0} → Option (Object S N B) → (Object S N B → Result A Fault) → Result A Fault
of_object None f = Err Dead
of_object (Some ob) f = f ob

module _ {S N V B : Type 0} (r : Representation S V B) where
  abbrev pub read : Objects S N B → ℕ → ℕ × S → Result V Fault
  read mem o x = of_object (slice_get mem o) (λ ob. read_object r ob x)

  -- why the object may not be written: known before the value is, whose conversion may be undefined too
  abbrev pub refusal : Option (Object S N B) → ℕ × S → Option Fault
  refusal None x = Some Dead
  refusal (Some ob) x = write_fault r ob x

  abbrev pub refuses : Objects S N B → ℕ → ℕ × S → Option Fault
  refuses mem o x = refusal (slice_get mem o) x

  abbrev pub write : Objects S N B → ℕ → ℕ × S → V → Result (Objects S N B) Fault
  write mem o x v = of_object (slice_get mem o) (λ ob. and_then (write_object r ob x v) (λ new. Ok (slice_set mem o new)))

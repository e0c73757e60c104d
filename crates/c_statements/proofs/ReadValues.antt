-- Values of scalars, read one after another.
use Rattle.std.proofs.Common.{◌≡◌, ℤ, List, [], ◌++◌, Result, Ok, Err, refl, ap, ◌∙◌, subst}
use Rattle.c_memory.specs.Access as memory
use Rattle.c_meaning.specs.Memory.{answered}
use Rattle.c_meaning.specs.Values as meaning
use Rattle.c_objects.specs.Faults.{fault_of, AddsAll}
use Rattle.c_objects.specs.declared.Refusal.{Refusal}
use Rattle.c_objects.specs.declared.Refusal.TheVariants as refusal
use Rattle.c_objects.specs.declared.Fault.TheVariants.{Dead, BadAccess, Indeterminate, ConstWrite}
use Rattle.c_operators.specs.Values.{Gives, itself}
use Rattle.c_operators.specs.declared.Trouble.{Trouble}
use Rattle.c_statements.specs.Parts.{trouble_of}
use Rattle.c_statements.specs.Parts as parts

from_none : (said : Result (List ℤ) memory.Fault) (r : Result (List ℤ) memory.Fault) → memory.and_then said (λ vs. Ok ([] ++ vs)) ≡ r → said ≡ r
from_none (Ok vs) r h = h
from_none (Err fault) r h = h

pub values_read : (said : Result (List ℤ) memory.Fault) (new : List ℤ) (r : Result (Unit {0}) Refusal) (u : Unit {0}) → AddsAll said [] new r → Ok u ≡ parts.answered r → answered said ≡ Ok new
values_read said new (Ok done) u h e = ap answered (from_none said (Ok new) h)
values_read said new (Err why) u h e = absurd (cc)

faults_are : (f : _) → answered {A = List ℤ} (Err (fault_of f)) ≡ Err (meaning.Undefined (parts.reason_of f))
faults_are Dead = refl
faults_are BadAccess = refl
faults_are Indeterminate = refl
faults_are ConstWrite = refl

pub values_refused : (said : Result (List ℤ) memory.Fault) (new : List ℤ) (r : Result (Unit {0}) Refusal) (w : Trouble) → AddsAll said [] new r → Err w ≡ parts.answered r → Gives (Unit {0}) (itself {A = List ℤ}) (answered said) (Err w)
values_refused said new (Ok done) w h e = absurd (cc)
values_refused said new (Err (refusal.Fault f)) w h e =
    let k : trouble_of (refusal.Fault f) ≡ w = cc in
    subst (λ x. Gives (Unit {0}) (itself {A = List ℤ}) (answered said) (Err x)) k (ap answered (from_none said (Err (fault_of f)) h) ∙ faults_are f)
values_refused said new (Err refusal.Memory) w h e =
    let k : trouble_of refusal.Memory ≡ w = cc in
    subst (λ x. Gives (Unit {0}) (itself {A = List ℤ}) (answered said) (Err x)) k tt

-- What bytes are on a target: the text of one unit whose names and types are right, or at one fault.
use Rattle.std.specs.Prelude.{◌≡◌, ◌⊎◌, ◌≤◌, ℕ, List, length}
use Rattle.c_ast.specs.declared.types.Target.{Target}
use Rattle.c_ast.specs.Syntax.{TranslationUnit}
use Rattle.c_text.specs.declared.fault.CFault.{CFault}
use Rattle.c_text.specs.ReadsBack.{ReadsBack}
use Rattle.c_text.specs.Faults.{HasFault}

-- some unit reads back from the bytes
pub record SomeUnit (target : Target) (bytes : List ℕ) : Type 0 where
  pub unit : TranslationUnit
  pub back : ReadsBack unit bytes target

pub record SomeFault (target : Target) (bytes : List ℕ) : Type 0 where
  pub fault : CFault
  pub is : HasFault target bytes fault

-- one of both, never both, and one of each at most
abbrev pub UnitOrFault : Type 0
UnitOrFault = (target : Target) (bytes : List ℕ) → SomeUnit target bytes ⊎ SomeFault target bytes

abbrev pub NotUnitAndFault : Type 0
NotUnitAndFault = (target : Target) (bytes : List ℕ) (u : TranslationUnit) (f : CFault) → ReadsBack u bytes target → HasFault target bytes f → ⊥

abbrev pub OneUnit : Type 0
OneUnit = (target : Target) (bytes : List ℕ) (u v : TranslationUnit) → ReadsBack u bytes target → ReadsBack v bytes target → u ≡ v

abbrev pub OneFault : Type 0
OneFault = (target : Target) (bytes : List ℕ) (f g : CFault) → HasFault target bytes f → HasFault target bytes g → f ≡ g

-- a fault is at a byte, or where the bytes end
abbrev pub PlacesAreWithin : Type 0
PlacesAreWithin = (target : Target) (bytes : List ℕ) (f : CFault) → HasFault target bytes f → f.at ≤ length bytes

-- The first place of a text that breaks a rule of names or types; of two that are broken at one place, a rule of names comes first.
use Rattle.std.specs.Prelude.{◌≡◌, ◌<◌, ◌⊎◌, nat_lt, Bool, true, false, List, [], ◌∷◌, All, Option, Some, None, if◌then◌else◌}
use Rattle.c_ast.specs.declared.types.Target.{Target}
use Rattle.c_ast.specs.Syntax.{TranslationUnit}
use Rattle.c_text.specs.declared.fault.CFault.{CFault}
use Rattle.c_text.specs.declared.fault.CWhy.{CWhy}
use Rattle.c_text.specs.declared.fault.CWhy.TheVariants.{Syntax, TooDeep, BadName, BadType}
use Rattle.c_text.specs.Rules.{Demand, why_of}
use Rattle.c_text.specs.UnitRules.{unit_demands}
use Rattle.c_text.specs.Right.{Right}

-- what is told of a rule that is broken
abbrev pub told : Demand → CFault
told d = record { at = d.at; why = why_of d.rule }

-- the demand is one of these
pub data Among (d : Demand) : List Demand → Type 0 where
  here : {rest : List Demand} → Among d (d ∷ rest)
  there : {e : Demand} {rest : List Demand} → Among d rest → Among d (e ∷ rest)

-- one of two faults comes before the other, or is as early and of a name, or both are of types
abbrev pub NoLater : CFault → CFault → Type 0
NoLater f g = (f.at < g.at) ⊎ ((f.at ≡ g.at) × ((f.why ≡ BadName) ⊎ (g.why ≡ BadType)))

-- a broken rule, and none comes before it
pub record IsFirst (ds : List Demand) (f : CFault) : Type 0 where
  pub broken : Demand
  pub asked : Among broken ds
  pub breaks : broken.kept ≡ false
  pub is : f ≡ told broken
  pub first : All (λ d. d.kept ≡ false → NoLater f (told d)) ds

pub record HasFirst (ds : List Demand) : Type 0 where
  pub fault : CFault
  pub is : IsFirst ds fault

-- ---- the same by a search

abbrev pub is_of_name : CWhy → Bool
is_of_name Syntax = false
is_of_name TooDeep = false
is_of_name BadName = true
is_of_name BadType = false

abbrev pub earlier : CFault → CFault → CFault
earlier f g = if nat_lt f.at g.at then f else (if nat_lt g.at f.at then g else (if is_of_name f.why then f else g))

abbrev pub or_earlier : CFault → Option CFault → CFault
or_earlier f None = f
or_earlier f (Some g) = earlier f g

abbrev pub first_fault : List Demand → Option CFault
first_fault [] = None
first_fault (d ∷ ds) = if d.kept then first_fault ds else Some (or_earlier (told d) (first_fault ds))

-- ---- what holds of it

-- exactly one of these: a unit is right, or a first rule is broken
abbrev pub RightOrAtFault : Type 0
RightOrAtFault = (target : Target) (u : TranslationUnit) → Right target u ⊎ HasFirst (unit_demands target u)

abbrev pub NotRightAndAtFault : Type 0
NotRightAndAtFault = (target : Target) (u : TranslationUnit) (f : CFault) → Right target u → IsFirst (unit_demands target u) f → ⊥

abbrev pub OneFirstFault : Type 0
OneFirstFault = (ds : List Demand) (f g : CFault) → IsFirst ds f → IsFirst ds g → f ≡ g

-- and the search finds it
abbrev pub SearchFindsIt : Type 0
SearchFindsIt = (ds : List Demand) (f : CFault) → first_fault ds ≡ Some f → IsFirst ds f

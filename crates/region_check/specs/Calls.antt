-- Parameters with their arguments, and when these fit under a substitution: an argument fits a reference parameter where region
-- and area are those wanted, and where it is mutable or the wanted reference const.
use Rattle.std.specs.Prelude.{◌≡◌, ℕ, Bool, ◌||◌, not, List, [], ◌∷◌, Option, Some, None, IsTrue}
use Rattle.area_types.specs.Syntax.{ValueType, Ref, Area}
use Rattle.area_types.specs.declared.region.Region.{Region}
use Rattle.region_check.specs.Substitutions.{under}

pub record Reference : Type 0 where
  pub constant : Bool
  pub region : Region
  pub area : Area

-- what a type says of a reference, where it is the type of one
abbrev pub reference_of : ValueType → Option Reference
reference_of (Ref constant region area) = Some (record { constant = constant; region = region; area = area })
reference_of _ = None

-- a parameter with its argument
pub record Passed : Type 0 where
  pub wanted : Option Reference
  pub given : Option Reference

abbrev pub passed : ValueType → ValueType → Passed
passed param arg = record { wanted = reference_of param; given = reference_of arg }

abbrev pub call : (params args : List ValueType) → List Passed
call [] args = []
call (p ∷ params) [] = []
call (p ∷ params) (a ∷ args) = passed p a ∷ call params args

-- a mutable reference may stand for a const one
abbrev pub may_stand_for : (given wanted : Bool) → Bool
may_stand_for given wanted = not given || wanted

pub record FitsReference (regions : ℕ → Region) (wanted given : Reference) : Type 0 where
  pub region : given.region ≡ under regions wanted.region
  pub access : IsTrue (may_stand_for given.constant wanted.constant)
  pub area : given.area ≡ wanted.area

-- the argument of another parameter is not looked at
abbrev pub Fits : (ℕ → Region) → (wanted given : Option Reference) → Type 0
Fits regions None given = Unit {0}
Fits regions (Some wanted) None = ⊥
Fits regions (Some wanted) (Some given) = FitsReference regions wanted given

abbrev pub AllFit : (ℕ → Region) → List Passed → Type 0
AllFit regions [] = Unit {0}
AllFit regions (x ∷ xs) = Fits regions x.wanted x.given × AllFit regions xs

-- Small calls: two regions for one region parameter, const and mutable references, and how parameters are numbered.
use Rattle.std.specs.Prelude.{◌≡◌, ℕ, true, false, [], ◌∷◌}
use Rattle.area_types.specs.Syntax.{Ref, Area}
use Rattle.area_types.specs.declared.region.Region.{Region}
use Rattle.area_types.specs.declared.region.Region.TheVariants.{Global, Param, Own}
use Rattle.region_check.specs.Calls.{call, AllFit}
use Rattle.region_check.specs.Found.{is_numbered}
use Rattle.region_check.specs.Substitutions.{escapes}

-- no region is global and the caller's own
abbrev pub TwoRegionsClash : Type 0
TwoRegionsClash = (a : Area) (regions : ℕ → Region) → AllFit regions (call (Ref false (Param 0) a ∷ Ref false (Param 0) a ∷ []) (Ref false Global a ∷ Ref false Own a ∷ [])) → ⊥

-- a const reference is no mutable one
abbrev pub ConstIsNotMutable : Type 0
ConstIsNotMutable = (a : Area) (r : Region) (regions : ℕ → Region) → AllFit regions (call (Ref false (Param 0) a ∷ []) (Ref true r a ∷ [])) → ⊥

-- a mutable one may be passed as const, in any region
abbrev pub MutableIsConst : Type 0
MutableIsConst = (a : Area) (r : Region) → AllFit (λ j. r) (call (Ref true (Param 0) a ∷ []) (Ref false r a ∷ []))

-- the first region parameter has the number 0
abbrev pub NumbersBeginAtZero : Type 0
NumbersBeginAtZero = (a : Area) → (is_numbered 0 (Ref false (Param 0) a ∷ Ref false (Param 1) a ∷ Ref false (Param 0) a ∷ []) ≡ true) × (is_numbered 0 (Ref false (Param 1) a ∷ []) ≡ false)

abbrev pub OwnEscapes : Type 0
OwnEscapes = (a : Area) → (escapes (Ref true Own a) ≡ true) × (escapes (Ref false (Param 0) a) ≡ false)

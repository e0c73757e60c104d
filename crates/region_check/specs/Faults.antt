-- The first argument at fault, and its fault: it needs another region than what is already required, it only reads, or it is no
-- reference to that area.
use Rattle.std.specs.Prelude.{◌≡◌, ◌≢◌, ℕ, min, ◌==◌, if◌then◌else◌, List, [], ◌∷◌, ◌++◌, length, Option, Some, None, IsTrue}
use Rattle.area_types.specs.declared.region.Region.{Region}
use Rattle.area_types.specs.declared.region.Region.TheVariants.{Global, Param, Own}
use Rattle.region_check.specs.Calls.{Reference, Passed, may_stand_for, AllFit}
use Rattle.region_check.specs.declared.fault.RegionFault.{RegionFault}
use Rattle.region_check.specs.declared.fault.RegionFault.TheVariants.{Clash, Mutable, AreaDiffers, Memory}

-- numbers of arguments have 32 bits
abbrev pub argument_number : ℕ → ℕ
argument_number i = min i 4_294_967_295

-- the region of the reference, where the parameter's region has the number
abbrev pub region_at : ℕ → Region → Region → Option Region
region_at j (Param k) given = if k == j then Some given else None
region_at j Global given = None
region_at j Own given = None

abbrev pub region_from : ℕ → (wanted given : Option Reference) → Option Region
region_from j None given = None
region_from j (Some wanted) None = None
region_from j (Some wanted) (Some given) = region_at j wanted.region given.region

abbrev pub or_else : Option Region → Option Region → Option Region
or_else None later = later
or_else (Some region) later = Some region

-- the region of the first of these arguments whose parameter's region has the number
abbrev pub known : List Passed → ℕ → Option Region
known [] j = None
known (x ∷ xs) j = or_else (region_from j x.wanted x.given) (known xs j)

-- the region that is required for a region of the callee, where one is already
abbrev pub required : (ℕ → Option Region) → Region → Option Region
required regions Global = Some Global
required regions (Param j) = regions j
required regions Own = Some Own

abbrev pub Allows : Option Region → Region → Type 0
Allows None region = Unit {0}
Allows (Some first) region = first ≡ region

pub record Accepts (first : Option Region) (wanted given : Reference) : Type 0 where
  pub region : Allows first given.region
  pub access : IsTrue (may_stand_for given.constant wanted.constant)
  pub area : given.area ≡ wanted.area

abbrev pub IsFault : (arg : ℕ) → Option Region → (wanted given : Reference) → RegionFault → Type 0
IsFault arg first wanted given (Clash k a b) = (k ≡ arg) × ((first ≡ Some a) × ((b ≡ given.region) × (a ≢ b)))
IsFault arg first wanted given (Mutable k) = (k ≡ arg) × (Allows first given.region × (IsTrue (may_stand_for given.constant wanted.constant) → ⊥))
IsFault arg first wanted given (AreaDiffers k) = (k ≡ arg) × (Allows first given.region × (IsTrue (may_stand_for given.constant wanted.constant) × (given.area ≢ wanted.area)))
IsFault arg first wanted given Memory = Unit {0}

-- the same for each argument, after what is known of those before it

abbrev pub AcceptsPassed : (ℕ → Option Region) → (wanted given : Option Reference) → Type 0
AcceptsPassed regions None given = Unit {0}
AcceptsPassed regions (Some wanted) None = ⊥
AcceptsPassed regions (Some wanted) (Some given) = Accepts (required regions wanted.region) wanted given

abbrev pub IsNoReference : (arg : ℕ) → RegionFault → Type 0
IsNoReference arg (AreaDiffers k) = k ≡ arg
IsNoReference arg (Clash k a b) = ⊥
IsNoReference arg (Mutable k) = ⊥
IsNoReference arg Memory = Unit {0}

abbrev pub IsFaultOf : (arg : ℕ) → (ℕ → Option Region) → (wanted given : Option Reference) → RegionFault → Type 0
IsFaultOf arg regions None given fault = fault ≡ Memory
IsFaultOf arg regions (Some wanted) None fault = IsNoReference arg fault
IsFaultOf arg regions (Some wanted) (Some given) fault = IsFault arg (required regions wanted.region) wanted given fault

abbrev pub AcceptedAfter : (earlier xs : List Passed) → Type 0
AcceptedAfter earlier [] = Unit {0}
AcceptedAfter earlier (x ∷ xs) = AcceptsPassed (known earlier) x.wanted x.given × AcceptedAfter (earlier ++ x ∷ []) xs

pub record FirstFault (xs : List Passed) (fault : RegionFault) : Type 0 where
  pub earlier : List Passed
  pub at : Passed
  pub later : List Passed
  pub split : xs ≡ earlier ++ at ∷ later
  pub accepted : AcceptedAfter [] earlier
  pub faulty : IsFaultOf (argument_number (length earlier)) (known earlier) at.wanted at.given fault

pub record NoneFits (xs : List Passed) (fault : RegionFault) : Type 0 where
  pub first : FirstFault xs fault
  pub none : (regions : ℕ → Region) → AllFit regions xs → ⊥

-- no substitution fits, and this is why
abbrev pub Refused : List Passed → RegionFault → Type 0
Refused xs (Clash k a b) = NoneFits xs (Clash k a b)
Refused xs (Mutable k) = NoneFits xs (Mutable k)
Refused xs (AreaDiffers k) = NoneFits xs (AreaDiffers k)
Refused xs Memory = Unit {0}

-- Substitutions of regions for region parameters.
use Rattle.std.specs.Prelude.{ℕ, Bool, true, false, nat_lt, List, slice_get, unwrap_or}
use Rattle.area_types.specs.Syntax.{ValueType, Ref}
use Rattle.area_types.specs.declared.region.Region.{Region}
use Rattle.area_types.specs.declared.region.Region.TheVariants.{Global, Param, Own}

-- the region that a list gives to a number
abbrev pub region_of : List Region → ℕ → Region
region_of regions j = unwrap_or (slice_get regions j) Global

-- the region that a region of the callee stands for
abbrev pub under : (ℕ → Region) → Region → Region
under regions Global = Global
under regions (Param j) = regions j
under regions Own = Own

-- a type with its region replaced; an area stores no reference
abbrev pub applied : (ℕ → Region) → ValueType → ValueType
applied regions (Ref constant region area) = Ref constant (under regions region) area
applied regions other = other

-- the region is among so many parameters, if it is one
abbrev pub is_within : ℕ → Region → Bool
is_within n (Param j) = nat_lt j n
is_within n Global = true
is_within n Own = true

abbrev pub has_regions : ℕ → ValueType → Bool
has_regions n (Ref constant region area) = is_within n region
has_regions n _ = true

-- a reference to what the procedure itself allocates
abbrev pub escapes : ValueType → Bool
escapes (Ref constant Own area) = true
escapes _ = false

-- The substitution of a call. The region parameters of the callee are numbered from 0 in the order in which they first occur, and
-- no parameter has region Own.
use Rattle.std.specs.Prelude.{◌≡◌, ℕ, suc, ◌<◌, Bool, true, false, ◌&&◌, nat_le, nat_lt, max, if◌then◌else◌, List, [], ◌∷◌, ◌++◌, length, Option, Some, None}
use Rattle.area_types.specs.Syntax.{ValueType}
use Rattle.area_types.specs.declared.region.Region.{Region}
use Rattle.area_types.specs.declared.region.Region.TheVariants.{Global, Param, Own}
use Rattle.region_check.specs.Calls.{Reference, Passed, reference_of, AllFit}
use Rattle.region_check.specs.Substitutions.{region_of}

-- where the numbers below n have occurred, n is the next
abbrev pub may_come : ℕ → Region → Bool
may_come n Global = true
may_come n (Param j) = nat_le j n
may_come n Own = false

abbrev pub occurred : ℕ → Region → ℕ
occurred n Global = n
occurred n (Param j) = max n (suc j)
occurred n Own = n

abbrev pub may_follow : ℕ → Option Reference → Bool
may_follow n None = true
may_follow n (Some r) = may_come n r.region

abbrev pub count_with : ℕ → Option Reference → ℕ
count_with n None = n
count_with n (Some r) = occurred n r.region

abbrev pub is_numbered : ℕ → List ValueType → Bool
is_numbered n [] = true
is_numbered n (p ∷ params) = may_follow n (reference_of p) && is_numbered (count_with n (reference_of p)) params

-- how many region parameters there are
abbrev pub region_count : ℕ → List ValueType → ℕ
region_count n [] = n
region_count n (p ∷ params) = region_count (count_with n (reference_of p)) params

-- a list with the region of an argument whose parameter has the next number
abbrev pub learned : List Region → (wanted given : Region) → List Region
learned regions Global given = regions
learned regions (Param j) given = if nat_lt j (length regions) then regions else regions ++ given ∷ []
learned regions Own given = regions

abbrev pub learned_from : List Region → (wanted given : Option Reference) → List Region
learned_from regions None given = regions
learned_from regions (Some wanted) None = regions
learned_from regions (Some wanted) (Some given) = learned regions wanted.region given.region

-- so many regions under which each argument fits, and the only ones
pub record Found (xs : List Passed) (count : ℕ) (found : List Region) : Type 0 where
  pub counted : length found ≡ count
  pub fits : AllFit (region_of found) xs
  pub only : (regions : ℕ → Region) → AllFit regions xs → (j : ℕ) → j < length found → regions j ≡ region_of found j

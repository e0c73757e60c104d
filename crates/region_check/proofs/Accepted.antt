-- Arguments that are accepted one after the other fit under what is known of them, and no substitution fits one at fault.
use Rattle.std.proofs.Common.{◌≡◌, ℕ, List, [], ◌∷◌, ◌++◌, Option, Some, None, refl, sym, ap, ◌∙◌, subst, append_assoc, append-nil}
use Rattle.area_types.specs.declared.region.Region.{Region}
use Rattle.area_types.specs.declared.region.Region.TheVariants.{Global, Param, Own}
use Rattle.std.proofs.Common.{◌==◌, Bool, true, false, eqb-true}
use Rattle.std.specs.Prelude.{if◌then◌else◌}
use Rattle.region_check.specs.Substitutions.{under}
use Rattle.region_check.specs.Calls.{Reference, Passed, FitsReference, Fits, AllFit}
use Rattle.region_check.specs.Faults.{region_at, region_from, or_else, known, required, Allows, AcceptsPassed, AcceptedAfter, IsFault, IsFaultOf}
use Rattle.region_check.specs.declared.fault.RegionFault.{RegionFault}
use Rattle.region_check.specs.declared.fault.RegionFault.TheVariants.{Clash, Mutable, AreaDiffers, Memory}
use Rattle.region_check.proofs.Known.{known_keeps, known_begins, region_here}

-- ---- what fits agrees with what is known

at_fits : (f : ℕ → Region) (j : ℕ) (q g r : Region) → g ≡ under f q → region_at j q g ≡ Some r → f j ≡ r
at_fits f j Global g r h e = absurd (cc)
at_fits f j (Param k) g r h e = by_case (k == j) refl e
  where
    by_case : (b : Bool) → k == j ≡ b → (if b then Some g else None) ≡ Some r → f j ≡ r
    by_case false n e = absurd (cc)
    by_case true n e = let same : g ≡ r = cc in ap f (sym (eqb-true k j n)) ∙ sym h ∙ same
at_fits f j Own g r h e = absurd (cc)

from_fits : (f : ℕ → Region) (j : ℕ) (w g : Option Reference) (r : Region) → Fits f w g → region_from j w g ≡ Some r → f j ≡ r
from_fits f j None g r h e = absurd (cc)
from_fits f j (Some w) None r h e = absurd h
from_fits f j (Some w) (Some g) r h e = at_fits f j w.region g.region r h.region e

or_fits : (f : ℕ → Region) (j : ℕ) (o later : Option Region) (r : Region) → (o ≡ Some r → f j ≡ r) → (later ≡ Some r → f j ≡ r) → or_else o later ≡ Some r → f j ≡ r
or_fits f j None later r h k e = k e
or_fits f j (Some q) later r h k e = h e

pub known_fits : (f : ℕ → Region) (xs : List Passed) (j : ℕ) (r : Region) → AllFit f xs → known xs j ≡ Some r → f j ≡ r
known_fits f [] j r h e = absurd (cc)
known_fits f (x ∷ xs) j r h e = or_fits f j (region_from j x.wanted x.given) (known xs j) r (from_fits f j x.wanted x.given r h.0) (known_fits f xs j r h.1) e

required_fits : (f : ℕ → Region) (xs : List Passed) (q r : Region) → AllFit f xs → required (known xs) q ≡ Some r → under f q ≡ r
required_fits f xs Global r h e = cc
required_fits f xs (Param j) r h e = known_fits f xs j r h e
required_fits f xs Own r h e = cc

-- ---- accepted arguments fit

region_fits : (f : ℕ → Region) (earlier later : List Passed) (w g : Reference) (q : Region) → w.region ≡ q → ((j : ℕ) (r : Region) → known (earlier ++ (record { wanted = Some w; given = Some g }) ∷ later) j ≡ Some r → f j ≡ r) → Allows (required (known earlier) q) g.region → g.region ≡ under f q
region_fits f earlier later w g Global e k h = sym h
region_fits f earlier later w g (Param j) e k h = by_case (known earlier j) refl h
  where
    by_case : (o : Option Region) → known earlier j ≡ o → Allows o g.region → g.region ≡ f j
    by_case None n h = sym (k j g.region (known_begins earlier later (record { wanted = Some w; given = Some g }) j g.region n (ap (λ p. region_at j p g.region) e ∙ region_here j g.region)))
    by_case (Some first) n h = sym (k j first (known_keeps earlier ((record { wanted = Some w; given = Some g }) ∷ later) j first n) ∙ h)
region_fits f earlier later w g Own e k h = sym h

one_fits : (f : ℕ → Region) (earlier later : List Passed) (w g : Option Reference) → ((j : ℕ) (r : Region) → known (earlier ++ (record { wanted = w; given = g }) ∷ later) j ≡ Some r → f j ≡ r) → AcceptsPassed (known earlier) w g → Fits f w g
one_fits f earlier later None g k h = tt
one_fits f earlier later (Some w) None k h = absurd h
one_fits f earlier later (Some w) (Some g) k h = record { region = region_fits f earlier later w g w.region refl k h.region; access = h.access; area = h.area }

pub accepted_fit : (f : ℕ → Region) (earlier xs : List Passed) → ((j : ℕ) (r : Region) → known (earlier ++ xs) j ≡ Some r → f j ≡ r) → AcceptedAfter earlier xs → AllFit f xs
accepted_fit f earlier [] k h = tt
accepted_fit f earlier (x ∷ xs) k h = (
  one_fits f earlier xs x.wanted x.given k h.0,
  accepted_fit f (earlier ++ x ∷ []) xs (λ j r e. k j r (subst (λ l. known l j ≡ Some r) (append_assoc earlier (x ∷ []) xs) e)) h.1,
)

pub accepted_more : (earlier xs : List Passed) (x : Passed) → AcceptedAfter earlier xs → AcceptsPassed (known (earlier ++ xs)) x.wanted x.given → AcceptedAfter earlier (xs ++ x ∷ [])
accepted_more earlier [] x h k = (subst (λ l. AcceptsPassed (known l) x.wanted x.given) (append-nil earlier) k, tt)
accepted_more earlier (y ∷ xs) x h k = (h.0, accepted_more (earlier ++ y ∷ []) xs x h.1 (subst (λ l. AcceptsPassed (known l) x.wanted x.given) (sym (append_assoc earlier (y ∷ []) xs)) k))

-- ---- no substitution fits an argument at fault

fit_before : (f : ℕ → Region) (earlier later : List Passed) → AllFit f (earlier ++ later) → AllFit f earlier × AllFit f later
fit_before f [] later h = (tt, h)
fit_before f (x ∷ earlier) later h = let rest = fit_before f earlier later h.1 in ((h.0, rest.0), rest.1)

reference_faulty : (f : ℕ → Region) (arg : ℕ) (earlier : List Passed) (w g : Reference) (fault : RegionFault) → IsFault arg (required (known earlier) w.region) w g fault → (fault ≡ Memory → ⊥) → AllFit f earlier → FitsReference f w g → ⊥
reference_faulty f arg earlier w g (Clash k a b) h m fit x = h.1.1.1 (sym (required_fits f earlier w.region a fit h.1.0) ∙ sym x.region ∙ sym h.1.1.0)
reference_faulty f arg earlier w g (Mutable k) h m fit x = h.1.1 x.access
reference_faulty f arg earlier w g (AreaDiffers k) h m fit x = h.1.1.1 x.area
reference_faulty f arg earlier w g Memory h m fit x = m refl

faulty_passed : (f : ℕ → Region) (arg : ℕ) (earlier : List Passed) (w g : Option Reference) (fault : RegionFault) → IsFaultOf arg (known earlier) w g fault → (fault ≡ Memory → ⊥) → AllFit f earlier → Fits f w g → ⊥
faulty_passed f arg earlier None g fault h m fit x = m h
faulty_passed f arg earlier (Some w) None fault h m fit x = x
faulty_passed f arg earlier (Some w) (Some g) fault h m fit x = reference_faulty f arg earlier w g fault h m fit x

pub none_fits : (f : ℕ → Region) (arg : ℕ) (earlier later : List Passed) (x : Passed) (fault : RegionFault) → IsFaultOf arg (known earlier) x.wanted x.given fault → (fault ≡ Memory → ⊥) → AllFit f (earlier ++ x ∷ later) → ⊥
none_fits f arg earlier later x fault h m fit =
    let parts = fit_before f earlier (x ∷ later) fit in
    faulty_passed f arg earlier x.wanted x.given fault h m parts.0 parts.1.0

-- What is known of region parameters from arguments, and the list that holds it.
use Rattle.std.proofs.Common.{◌≡◌, ℕ, zero, suc, ◌<◌, ◌==◌, Bool, true, false, List, [], ◌∷◌, ◌++◌, length, Option, Some, None, slice_get, get_or, IsTrue, refl, sym, ap, ◌∙◌, arith, length-append, eqb-true, eq-eqb}
use Rattle.std.specs.Prelude.{nat_lt, max, if◌then◌else◌}
use Rattle.std.proofs.lemmas.Bool.Decides.{nat_tests}
use Rattle.std.proofs.lemmas.Option.{slice_get-get_or}
use Rattle.area_types.specs.declared.region.Region.{Region}
use Rattle.area_types.specs.declared.region.Region.TheVariants.{Global, Param, Own}
use Rattle.region_check.specs.Calls.{Passed}
use Rattle.region_check.specs.Faults.{region_at, region_from, or_else, known}
use Rattle.region_check.specs.Found.{may_come, occurred, learned}

or_assoc : (a b c : Option Region) → or_else a (or_else b c) ≡ or_else (or_else a b) c
or_assoc None b c = refl
or_assoc (Some r) b c = refl

pub or_nothing : (a : Option Region) → or_else a None ≡ a
or_nothing None = refl
or_nothing (Some r) = refl

pub known_joined : (xs ys : List Passed) (j : ℕ) → known (xs ++ ys) j ≡ or_else (known xs j) (known ys j)
known_joined [] ys j = refl
known_joined (x ∷ xs) ys j = ap (or_else (region_from j x.wanted x.given)) (known_joined xs ys j) ∙ or_assoc (region_from j x.wanted x.given) (known xs j) (known ys j)

-- what is known stays
pub known_keeps : (xs ys : List Passed) (j : ℕ) (r : Region) → known xs j ≡ Some r → known (xs ++ ys) j ≡ Some r
known_keeps xs ys j r e = known_joined xs ys j ∙ ap (λ o. or_else o (known ys j)) e

pub known_begins : (xs ys : List Passed) (x : Passed) (j : ℕ) (r : Region) → known xs j ≡ None → region_from j x.wanted x.given ≡ Some r → known (xs ++ x ∷ ys) j ≡ Some r
known_begins xs ys x j r n e = known_joined xs (x ∷ ys) j ∙ ap (λ o. or_else o (known (x ∷ ys) j)) n ∙ ap (λ o. or_else o (known ys j)) e

pub region_here : (j : ℕ) (given : Region) → region_at j (Param j) given ≡ Some given
region_here j given = ap (λ b. if b then Some given else None) (eq-eqb j j refl)

at_other : (k j : ℕ) (given : Region) → k == j ≡ false → region_at j (Param k) given ≡ None
at_other k j given e = ap (λ b. if b then Some given else None) e

by_compare : (j : ℕ) → 0 == suc j ≡ false
by_compare j = grind (arith, nat_tests)

suc_same : (a b : ℕ) → a == b ≡ suc a == suc b
suc_same a b = by_case (a == b) refl
  where
    by_case : (t : Bool) → a == b ≡ t → a == b ≡ suc a == suc b
    by_case true e = let u : suc a == suc b ≡ true = grind (arith, nat_tests) in e ∙ sym u
    by_case false e = let u : suc a == suc b ≡ false = grind (arith, nat_tests) in e ∙ sym u

-- one more region at the end of a list
pub one_at_the_end : (s : List Region) (g : Region) (j : ℕ) → slice_get (s ++ g ∷ []) j ≡ or_else (slice_get s j) (region_at j (Param (length s)) g)
one_at_the_end [] g zero = refl
one_at_the_end [] g (suc j) = sym (at_other 0 (suc j) g (by_compare j))
one_at_the_end (x ∷ s) g zero = refl
one_at_the_end (x ∷ s) g (suc j) = one_at_the_end s g j ∙ ap (λ b. or_else (slice_get s j) (if b then Some g else None)) (suc_same (length s) j)

-- a number that the list has adds nothing
adds_nothing : (s : List Region) (k : ℕ) (g : Region) (j : ℕ) → k < length s → or_else (slice_get s j) (region_at j (Param k) g) ≡ slice_get s j
adds_nothing s k g j h = by_case (slice_get s j) refl (k == j) refl
  where
    by_case : (o : Option Region) → slice_get s j ≡ o → (b : Bool) → k == j ≡ b → or_else o (region_at j (Param k) g) ≡ o
    by_case (Some r) e b q = refl
    by_case None e false q = at_other k j g q
    by_case None e true q =
        let same : k ≡ j = eqb-true k j q in
        let there : slice_get s j ≡ Some (get_or s j g) = slice_get-get_or s j g (omega arith) in
        absurd cc

-- what the list holds after one more argument
pub learns : (s : List Region) (w g : Region) (j : ℕ) → IsTrue (may_come (length s) w) → slice_get (learned s w g) j ≡ or_else (slice_get s j) (region_at j w g)
learns s Global g j h = sym (or_nothing (slice_get s j))
learns s (Param k) g j h = by_case (nat_lt k (length s)) refl
  where
    by_case : (b : Bool) → nat_lt k (length s) ≡ b → slice_get (if b then s else s ++ g ∷ []) j ≡ or_else (slice_get s j) (region_at j (Param k) g)
    by_case true e = sym (adds_nothing s k g j (grind (arith, nat_tests)))
    by_case false e =
        let same : length s ≡ k = grind (arith, nat_tests) in
        one_at_the_end s g j ∙ ap (λ n. or_else (slice_get s j) (region_at j (Param n) g)) same
learns s Own g j h = absurd (cc)

pub learns_count : (s : List Region) (w g : Region) → IsTrue (may_come (length s) w) → length (learned s w g) ≡ occurred (length s) w
learns_count s Global g h = refl
learns_count s (Param k) g h = by_case (nat_lt k (length s)) refl
  where
    by_case : (b : Bool) → nat_lt k (length s) ≡ b → length (if b then s else s ++ g ∷ []) ≡ max (length s) (suc k)
    by_case true e = grind (arith, nat_tests)
    by_case false e =
        let same : length s ≡ k = grind (arith, nat_tests) in
        omega (arith, length-append s (g ∷ []), same)
learns_count s Own g h = absurd (cc)

pub known_more : (xs : List Passed) (x : Passed) (j : ℕ) → known (xs ++ x ∷ []) j ≡ or_else (known xs j) (region_from j x.wanted x.given)
known_more xs x j = known_joined xs (x ∷ []) j ∙ ap (or_else (known xs j)) (or_nothing (region_from j x.wanted x.given))

-- Lists by place, and what the places of the map of areas hold after a change of it.
use Rattle.std.proofs.Common.{◌≡◌, ℕ, zero, suc, ◌<◌, List, [], ◌∷◌, ◌++◌, length, slice_get, Some, refl, ap, arith, ◌⊎◌, ⊎_elim, inl, inr}
use Rattle.core_meaning.specs.Areas.{Held, Area, AreaState, Live, Marked, Gone, Areas, at_place, from_place, with_part, put_part, put_at, marked, mark_from, take_from}
use Rattle.area_objects.specs.Both.{Map, Extends}

-- ---- lists

pub get_append : {A : Type 0} (xs ys : List A) (i : ℕ) (a : A) → slice_get xs i ≡ Some a → slice_get (xs ++ ys) i ≡ Some a
get_append [] ys i a h = absurd (cc)
get_append (x ∷ xs) ys zero a h = h
get_append (x ∷ xs) ys (suc i) a h = get_append xs ys i a h

pub get_last : {A : Type 0} (xs : List A) (a : A) → slice_get (xs ++ a ∷ []) (length xs) ≡ Some a
get_last [] a = refl
get_last (x ∷ xs) a = get_last xs a

pub get_append_cases : {A : Type 0} (xs : List A) (a c : A) (i : ℕ) → slice_get (xs ++ a ∷ []) i ≡ Some c → (slice_get xs i ≡ Some c) ⊎ ((i ≡ length xs) × (a ≡ c))
get_append_cases [] a c zero h = inr (refl, (let e : a ≡ c = cc in e))
get_append_cases [] a c (suc i) h = absurd (cc)
get_append_cases (x ∷ xs) a c zero h = inl h
get_append_cases (x ∷ xs) a c (suc i) h = ⊎_elim (λ e. inl e) (λ e. inr (ap suc e.0, e.1)) (get_append_cases xs a c i h)

pub get_below : {A : Type 0} (xs : List A) (i : ℕ) (a : A) → slice_get xs i ≡ Some a → i < length xs
get_below [] i a h = absurd (cc)
get_below (x ∷ xs) zero a h = omega arith
get_below (x ∷ xs) (suc i) a h = omega (arith, get_below xs i a h)

pub get_there : {A : Type 0} (xs : List A) (i : ℕ) → i < length xs → (a : A) × (slice_get xs i ≡ Some a)
get_there [] i h = absurd (omega (arith, h))
get_there (x ∷ xs) zero h = (x, refl)
get_there (x ∷ xs) (suc i) h = get_there xs i (omega (arith, h))

-- ---- from areas to objects

pub extends_more : (objects more : Map) → Extends objects (objects ++ more)
extends_more objects more k o e = get_append objects more k o e

pub extends_twice : (first second third : Map) → Extends first second → Extends second third → Extends first third
extends_twice first second third h g k o e = g k o (h k o e)

-- ---- the map of areas

length_at : {A : Type 0} (f : A → A) (k : ℕ) (xs : List A) → length (at_place f k xs) ≡ length xs
length_at f k [] = refl
length_at f zero (x ∷ xs) = refl
length_at f (suc k) (x ∷ xs) = ap suc (length_at f k xs)

length_from : {A : Type 0} (f : A → A) (k : ℕ) (xs : List A) → length (from_place f k xs) ≡ length xs
length_from f k [] = refl
length_from f zero (x ∷ xs) = ap suc (length_from f zero xs)
length_from f (suc k) (x ∷ xs) = ap suc (length_from f k xs)

pub length_put : (k : ℕ) (p : List ℕ) (v : Held) (areas : Areas) → length (put_at k p v areas) ≡ length areas
length_put k p v areas = length_at (put_part p v) k areas

pub length_mark : (k : ℕ) (areas : Areas) → length (mark_from k areas) ≡ length areas
length_mark k areas = length_from marked k areas

pub length_take : (k : ℕ) (areas : Areas) → length (take_from k areas) ≡ length areas
length_take k areas = length_from (λ a. Gone) k areas

pub put_here : (k : ℕ) (p : List ℕ) (v : Held) (areas : Areas) (a : Area) → slice_get areas k ≡ Some (Live a) → slice_get (put_at k p v areas) k ≡ Some (Live (with_part p v a))
put_here k p v [] a h = absurd (cc)
put_here zero p v (x ∷ areas) a h = (let e : x ≡ Live a = cc in ap (λ y. Some (put_part p v y)) e)
put_here (suc k) p v (x ∷ areas) a h = put_here k p v areas a h

-- an area that is live at a block's end was made before the block
pub record Earlier (areas : Areas) (k j : ℕ) (a : Area) : Type 0 where
  pub before : j < k
  pub live : slice_get areas j ≡ Some (Live a)

never_marked : (x : AreaState) (a : Area) → marked x ≡ Live a → ⊥
never_marked (Live b) a h = cc
never_marked (Marked b) a h = cc
never_marked Gone a h = cc

live_before : (f : AreaState → AreaState) → ((x : AreaState) (a : Area) → f x ≡ Live a → ⊥) → (areas : Areas) (k j : ℕ) (a : Area) → slice_get (from_place f k areas) j ≡ Some (Live a) → Earlier areas k j a
live_before f never [] k j a h = absurd (cc)
live_before f never (x ∷ areas) zero zero a h = absurd (never x a (let e : f x ≡ Live a = cc in e))
live_before f never (x ∷ areas) zero (suc j) a h = (let q = live_before f never areas zero j a h in absurd (omega (arith, q.before)))
live_before f never (x ∷ areas) (suc k) zero a h = record { before = omega arith; live = h }
live_before f never (x ∷ areas) (suc k) (suc j) a h = (let q = live_before f never areas k j a h in record { before = omega (arith, q.before); live = q.live })

pub live_unmarked : (areas : Areas) (k j : ℕ) (a : Area) → slice_get (mark_from k areas) j ≡ Some (Live a) → Earlier areas k j a
live_unmarked areas k j a h = live_before marked never_marked areas k j a h

pub live_untaken : (areas : Areas) (k j : ℕ) (a : Area) → slice_get (take_from k areas) j ≡ Some (Live a) → Earlier areas k j a
live_untaken areas k j a h = live_before (λ x. Gone) (λ x b (e : Gone ≡ Live b). cc) areas k j a h

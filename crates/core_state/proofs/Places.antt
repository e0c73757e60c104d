-- What is changed at a place of the map of areas, and from a place on.
use Rattle.std.proofs.Common.{◌≡◌, ℕ, zero, suc, ◌+◌, ◌<◌, ◌≤◌, List, [], ◌∷◌, ◌++◌, length, map, get_or, refl, ap, sym, ◌∙◌, arith}
use Rattle.std.specs.Prelude.{reverse}
use Rattle.std.proofs.Math.ListN.{set}
use Rattle.std.proofs.lemmas.List.{map-append, reverse-append}
use Rattle.core_meaning.specs.Areas.{at_place, from_place, Gone}
use Rattle.core_state.specs.declared.state.Slot.{Slot}
use Rattle.core_state.specs.declared.state.Slot.TheVariants as slot
use Rattle.core_state.specs.State.{slot_of}
use Rattle.core_state.proofs.Rows.{set_twice}

pub at_place_set : {A B : Type 0} (g : A → B) (f : B → B) (xs : List A) (k : ℕ) (old new : A) → k < length xs → old ≡ get_or xs k old → g new ≡ f (g old) → at_place f k (map g xs) ≡ map g (set xs k new)
at_place_set g f [] k old new h is e = absurd (omega arith)
at_place_set g f (x ∷ xs) zero old new h is e = ap (λ y. y ∷ map g xs) (ap (λ z. f (g z)) (sym is) ∙ sym e)
at_place_set g f (x ∷ xs) (suc k) old new h is e = ap (λ ys. g x ∷ ys) (at_place_set g f xs k old new (omega arith) is e)

-- by a value that is put in between
pub at_place_replaced : {A B : Type 0} (g : A → B) (f : B → B) (xs : List A) (k : ℕ) (old between new : A) → k < length xs → old ≡ get_or xs k old → g new ≡ f (g old) → at_place f k (map g xs) ≡ map g (set (set xs k between) k new)
at_place_replaced g f xs k old between new h is e = at_place_set g f xs k old new h is e ∙ ap (map g) (sym (set_twice xs k between new))

pub at_place_past : {A : Type 0} (f : A → A) (xs : List A) (k : ℕ) → length xs ≤ k → at_place f k xs ≡ xs
at_place_past f [] k h = refl
at_place_past f (x ∷ xs) zero h = absurd (omega arith)
at_place_past f (x ∷ xs) (suc k) h = ap (λ ys. x ∷ ys) (at_place_past f xs k (omega arith))

pub from_place_next : {A : Type 0} (f : A → A) (xs : List A) (k : ℕ) → k < length xs → from_place f k xs ≡ from_place f (k + 1) (at_place f k xs)
from_place_next f [] k h = absurd (omega arith)
from_place_next f (x ∷ xs) zero h = ap (λ ys. f x ∷ ys) refl
from_place_next f (x ∷ xs) (suc k) h = let e : suc (k + 1) ≡ suc k + 1 = omega arith in ap (λ ys. x ∷ ys) (from_place_next f xs k (omega arith)) ∙ ap (λ j. from_place f j (x ∷ at_place f k xs)) e

pub from_place_past : {A : Type 0} (f : A → A) (xs : List A) (k : ℕ) → length xs ≤ k → from_place f k xs ≡ xs
from_place_past f [] k h = refl
from_place_past f (x ∷ xs) zero h = absurd (omega arith)
from_place_past f (x ∷ xs) (suc k) h = ap (λ ys. x ∷ ys) (from_place_past f xs k (omega arith))

pub latest : {A B : Type 0} (g : A → B) (xs : List A) (x : A) → reverse (map g (xs ++ x ∷ [])) ≡ g x ∷ reverse (map g xs)
latest g xs x = ap reverse (map-append g xs (x ∷ [])) ∙ reverse-append (map g xs) (g x ∷ [])

pub at_place_gone : (xs : List Slot) (k : ℕ) → k < length xs → at_place (λ a. Gone) k (map slot_of xs) ≡ map slot_of (set xs k slot.Gone)
at_place_gone [] k h = absurd (omega arith)
at_place_gone (x ∷ xs) zero h = refl
at_place_gone (x ∷ xs) (suc k) h = ap (λ ys. slot_of x ∷ ys) (at_place_gone xs k (omega arith))

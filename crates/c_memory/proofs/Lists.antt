-- Lists by place, and cut in two.
use Rattle.std.proofs.Common.{◌≡◌, ◌≢◌, ℕ, zero, suc, ◌<◌, ◌≤◌, List, [], ◌∷◌, ◌++◌, length, map, Option, Some, None, refl, ◌∙◌, ap, arith}
use Rattle.std.specs.Prelude.{slice_get, slice_set}
use Rattle.c_memory.specs.Objects.{Object}
use Rattle.c_memory.specs.Blocks.{ended, leave}

-- of equal lists the fronts of one length are equal, and the rests
pub cut_same : {A : Type 0} (xs us ys ws : List A) → length xs ≡ length us → xs ++ ys ≡ us ++ ws → (xs ≡ us) × (ys ≡ ws)
cut_same [] [] ys ws e h = (refl, h)
cut_same [] (u ∷ us) ys ws e h = absurd (omega arith)
cut_same (x ∷ xs) [] ys ws e h = absurd (omega arith)
cut_same (x ∷ xs) (u ∷ us) ys ws e h =
    let p : x ≡ u = cc in
    let q : xs ++ ys ≡ us ++ ws = cc in
    let r = cut_same xs us ys ws (omega arith) q in
    (ap (λ z. z ∷ xs) p ∙ ap (λ l. u ∷ l) r.0, r.1)

pub get_append : {A : Type 0} (l m : List A) (i : ℕ) → i < length l → slice_get (l ++ m) i ≡ slice_get l i
get_append [] m i h = absurd (omega arith)
get_append (x ∷ l) m zero h = refl
get_append (x ∷ l) m (suc i) h = get_append l m i (omega arith)

pub get_last : {A : Type 0} (l : List A) (a : A) → slice_get (l ++ a ∷ []) (length l) ≡ Some a
get_last [] a = refl
get_last (x ∷ l) a = get_last l a

pub get_low : {A : Type 0} (l : List A) (i : ℕ) (a : A) → slice_get l i ≡ Some a → i < length l
get_low [] i a h = absurd (cc)
get_low (x ∷ l) zero a h = omega arith
get_low (x ∷ l) (suc i) a h = omega (arith, get_low l i a h)

pub get_set_same : {A : Type 0} (l : List A) (i : ℕ) (a b : A) → slice_get l i ≡ Some b → slice_get (slice_set l i a) i ≡ Some a
get_set_same [] i a b h = absurd (cc)
get_set_same (x ∷ l) zero a b h = refl
get_set_same (x ∷ l) (suc i) a b h = get_set_same l i a b h

pub get_set_other : {A : Type 0} (l : List A) (i j : ℕ) (a : A) → j ≢ i → slice_get (slice_set l i a) j ≡ slice_get l j
get_set_other [] i j a h = refl
get_set_other (x ∷ l) zero zero a h = absurd (h refl)
get_set_other (x ∷ l) zero (suc j) a h = refl
get_set_other (x ∷ l) (suc i) zero a h = refl
get_set_other (x ∷ l) (suc i) (suc j) a h = get_set_other l i j a (λ e. h (ap suc e))

-- ---- the end of a block

module _ {S N B : Type 0} where
  pub length_leave : (k : ℕ) (l : List (Object S N B)) → length (leave k l) ≡ length l
  length_leave zero [] = refl
  length_leave zero (x ∷ l) = ap suc (length_leave zero l)
  length_leave (suc k) [] = refl
  length_leave (suc k) (x ∷ l) = ap suc (length_leave k l)

  pub get_leave_before : (k i : ℕ) (l : List (Object S N B)) → i < k → slice_get (leave k l) i ≡ slice_get l i
  get_leave_before zero i l lt = absurd (omega arith)
  get_leave_before (suc k) i [] lt = refl
  get_leave_before (suc k) zero (x ∷ l) lt = refl
  get_leave_before (suc k) (suc i) (x ∷ l) lt = get_leave_before k i l (omega arith)

  abbrev pub ended_or_none : Option (Object S N B) → Option (Object S N B)
  ended_or_none None = None
  ended_or_none (Some x) = Some (ended x)

  get_ended : (i : ℕ) (l : List (Object S N B)) → slice_get (map ended l) i ≡ ended_or_none (slice_get l i)
  get_ended i [] = refl
  get_ended zero (x ∷ l) = refl
  get_ended (suc i) (x ∷ l) = get_ended i l

  pub get_leave_after : (k i : ℕ) (l : List (Object S N B)) → k ≤ i → slice_get (leave k l) i ≡ ended_or_none (slice_get l i)
  get_leave_after zero i l le = get_ended i l
  get_leave_after (suc k) i [] le = refl
  get_leave_after (suc k) zero (x ∷ l) le = absurd (omega arith)
  get_leave_after (suc k) (suc i) (x ∷ l) le = get_leave_after k i l (omega arith)

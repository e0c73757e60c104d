-- Lists, as a loop over them sees them.
use Rattle.std.proofs.Common.{◌≡◌, ℕ, zero, suc, ◌+◌, ◌<◌, ◌≤◌, List, [], ◌∷◌, ◌++◌, length, map, take, get_or, slice_get, None, refl, sym, ap, ◌∙◌, subst, arith}
use Rattle.std.proofs.lemmas.List.{map-append}
use Rattle.std.specs.List.{AllZip}

-- the first elements and the next one
pub taken_more : {X : Type 0} (xs : List X) (i : ℕ) (x : X) → i < length xs → x ≡ get_or xs i x → take (i + 1) xs ≡ take i xs ++ x ∷ []
taken_more [] i x h e = absurd (omega arith)
taken_more (y ∷ xs) zero x h e = ap (λ z. z ∷ []) (sym e)
taken_more (y ∷ xs) (suc i) x h e = let s : suc i + 1 ≡ suc (i + 1) = omega arith in ap (λ n. take n (y ∷ xs)) s ∙ ap (λ ys. y ∷ ys) (taken_more xs i x (omega arith) e)

-- ---- two lists, place by place; the code has the first one as `xs`, of which each is seen by `f`

each_push : {A B : Type 0} (R : A → B → Type 0) (xs : List A) (ys : List B) (x : A) (y : B) → AllZip R xs ys → R x y → AllZip R (xs ++ x ∷ []) (ys ++ y ∷ [])
each_push R [] [] x y all r = (r, tt)
each_push R [] (b ∷ ys) x y all r = absurd all
each_push R (a ∷ xs) [] x y all r = absurd all
each_push R (a ∷ xs) (b ∷ ys) x y all r = (all.0, each_push R xs ys x y all.1 r)

pub each_taken : {X A B : Type 0} (f : X → A) (R : A → B → Type 0) (xs : List X) (ys now : List B) (i : ℕ) (x : X) (y : B) → AllZip R (map f (take i xs)) ys → i < length xs → x ≡ get_or xs i x
    → R (f x) y → now ≡ ys ++ y ∷ [] → AllZip R (map f (take (i + 1) xs)) now
each_taken f R xs ys now i x y all h e r g =
    let more : map f (take (i + 1) xs) ≡ map f (take i xs) ++ f x ∷ [] = ap (map f) (taken_more xs i x h e) ∙ map-append f (take i xs) (x ∷ []) in
    subst (λ zs. AllZip R (map f (take (i + 1) xs)) zs) (sym g) (subst (λ zs. AllZip R zs (ys ++ y ∷ [])) (sym more) (each_push R (map f (take i xs)) ys (f x) y all r))

each_at : {X A B : Type 0} (f : X → A) (R : A → B → Type 0) (xs : List X) (ys : List B) (i : ℕ) (x : X) → AllZip R (map f xs) ys → i < length xs → x ≡ get_or xs i x → (y : B) × R (f x) y
each_at f R [] ys i x all h e = absurd (omega arith)
each_at f R (a ∷ xs) [] i x all h e = absurd all
each_at f R (a ∷ xs) (b ∷ ys) zero x all h e = (b, subst (λ z. R (f z) b) (sym e) all.0)
each_at f R (a ∷ xs) (b ∷ ys) (suc i) x all h e = each_at f R xs ys i x all.1 (omega arith) e

pub not_each : {X A B : Type 0} (f : X → A) (R : A → B → Type 0) (xs : List X) (i : ℕ) (x : X) → i < length xs → x ≡ get_or xs i x → ((y : B) → R (f x) y → ⊥) → (ys : List B) → AllZip R (map f xs) ys → ⊥
not_each f R xs i x h e none ys all = let w = each_at f R xs ys i x all h e in none w.0 w.1

pub get_past : {X : Type 0} (xs : List X) (i : ℕ) → length xs ≤ i → slice_get xs i ≡ None
get_past [] i h = refl
get_past (x ∷ xs) zero h = absurd (omega arith)
get_past (x ∷ xs) (suc i) h = get_past xs i (omega arith)

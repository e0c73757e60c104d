-- Lists: what holds of all elements, of pairs, and at a place.
use Rattle.std.proofs.Common.{◌≡◌, ℕ, zero, suc, List, [], ◌∷◌, ◌++◌, map, Some, subst, arith}
use Rattle.std.specs.Prelude.{slice_get, All, AllPairs}
use Rattle.std.proofs.lemmas.List.Elements.{All-nil, All-head, All-tail, All-cons}

pub some_is : {X : Type 0} (x y : X) → Some x ≡ Some y → x ≡ y
some_is x y e = cc

pub all_same : {X : Type 0} (P Q : X → Type 0) → ((x : X) → P x → Q x) → (xs : List X) → All P xs → All Q xs
all_same P Q h [] all = All-nil Q
all_same P Q h (x ∷ xs) all = All-cons Q x xs (h x (All-head P x xs all)) (all_same P Q h xs (All-tail P x xs all))

pub all_mapped : {X Y : Type 0} (P : X → Type 0) (Q : Y → Type 0) (f : X → Y) → ((x : X) → P x → Q (f x)) → (xs : List X) → All P xs → All Q (map f xs)
all_mapped P Q f h [] all = All-nil Q
all_mapped P Q f h (x ∷ xs) all = All-cons Q (f x) (map f xs) (h x (All-head P x xs all)) (all_mapped P Q f h xs (All-tail P x xs all))

-- all before, and all after
pub all_before : {X : Type 0} (P : X → Type 0) (xs ys : List X) → All P (xs ++ ys) → All P xs
all_before P [] ys all = All-nil P
all_before P (x ∷ xs) ys all = All-cons P x xs (All-head P x (xs ++ ys) all) (all_before P xs ys (All-tail P x (xs ++ ys) all))

pub all_after : {X : Type 0} (P : X → Type 0) (xs ys : List X) → All P (xs ++ ys) → All P ys
all_after P [] ys all = all
all_after P (x ∷ xs) ys all = all_after P xs ys (All-tail P x (xs ++ ys) all)

pub pairs_head : {X : Type 0} (R : X → X → Type 0) (x : X) (xs : List X) → AllPairs R (x ∷ xs) → All (R x) xs
pairs_head R x xs h k d lt = h 0 (suc k) d (omega arith) (omega (arith, lt))

pub pairs_tail : {X : Type 0} (R : X → X → Type 0) (x : X) (xs : List X) → AllPairs R (x ∷ xs) → AllPairs R xs
pairs_tail R x xs h i j d lt le = h (suc i) (suc j) d (omega (arith, lt)) (omega (arith, le))

module _ {X Y : Type 0} (f : X → Y) (rest : List Y) where
  -- what holds of all names holds of the name at a place
  pub at_place : (P : Y → Type 0) (xs : List X) → All P (map f xs ++ rest) → (k : ℕ) (x : X) → slice_get xs k ≡ Some x → P (f x)
  at_place P [] h k x e = let no : ⊥ = cc in absurd no
  at_place P (y ∷ ys) h zero x e = subst (λ z. P (f z)) (some_is y x e) (All-head P (f y) (map f ys ++ rest) h)
  at_place P (y ∷ ys) h (suc k) x e = at_place P ys (All-tail P (f y) (map f ys ++ rest) h) k x e

-- and the pairs after
pub pairs_after : {X : Type 0} (R : X → X → Type 0) (xs ys : List X) → AllPairs R (xs ++ ys) → AllPairs R ys
pairs_after R [] ys differ = differ
pairs_after R (x ∷ xs) ys differ = pairs_after R xs ys (pairs_tail R x (xs ++ ys) differ)

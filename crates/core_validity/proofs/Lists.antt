-- Searches in lists, and lists whose elements are related to those at the front of another one.
use Rattle.std.proofs.Common.{◌≡◌, ℕ, zero, suc, ◌+◌, ◌<◌, List, [], ◌∷◌, ◌++◌, map, length, slice_get, Some, option_map, Bool, true, false, cond, refl, sym, ◌∙◌, ap, subst, arith, All, length-append}
use Rattle.std.specs.List.{find, position_from}
use Rattle.std.proofs.lemmas.List.Elements.{All-head, All-tail}
use Rattle.typing_laws.proofs.Lookups.{some_same}

-- ---- searches

-- the first place of a test has what is found first
record Stood (A : Type 0) (f : A → Bool) (i k : ℕ) (xs : List A) : Type 0 where
  steps : ℕ
  place : k ≡ i + steps
  is : find f xs ≡ slice_get xs steps

stood : {A : Type 0} (f : A → Bool) (i k : ℕ) (xs : List A) → position_from f i xs ≡ Some k → Stood A f i k xs
stood f i k [] h = let no : ⊥ = cc in absurd no
stood {A} f i k (x ∷ xs) h = go (λ g. stood f (i + 1) k xs g) (f x) refl h
  where
    more : f x ≡ false → Stood A f (i + 1) k xs → Stood A f i k (x ∷ xs)
    more e s = record { steps = suc s.steps; place = omega (arith, s.place); is = ap (λ b. cond b (Some x) (find f xs)) e ∙ s.is }

    go : (position_from f (i + 1) xs ≡ Some k → Stood A f (i + 1) k xs) → (b : Bool) → f x ≡ b → cond b (Some i) (position_from f (i + 1) xs) ≡ Some k → Stood A f i k (x ∷ xs)
    go ih true e g = record { steps = zero; place = let q = some_same g in omega (arith, q); is = ap (λ b. cond b (Some x) (find f xs)) e }
    go ih false e g = more e (ih g)

pub found_at : {A : Type 0} (f : A → Bool) (k : ℕ) (xs : List A) (x : A) → position_from f 0 xs ≡ Some k → find f xs ≡ Some x → slice_get xs k ≡ Some x
found_at f k xs x h g =
    let s = stood f 0 k xs h in
    let same : k ≡ s.steps = omega (arith, s.place) in
    ap (slice_get xs) same ∙ sym s.is ∙ g

-- ---- elements

pub All-at : {A : Type 0} (P : A → Type 0) (xs : List A) (k : ℕ) (x : A) → All P xs → slice_get xs k ≡ Some x → P x
All-at P [] k x h g = let no : ⊥ = cc in absurd no
All-at P (y ∷ ys) zero x h g = subst P (some_same g) (All-head P y ys h)
All-at P (y ∷ ys) (suc k) x h g = All-at P ys k x (All-tail P y ys h) g

pub All-found : {A : Type 0} (P : A → Type 0) (f : A → Bool) (xs : List A) (x : A) → All P xs → find f xs ≡ Some x → P x
All-found P f [] x h g = let no : ⊥ = cc in absurd no
All-found P f (y ∷ ys) x h g = go (f y) (All-head P y ys h) (All-found P f ys x (All-tail P y ys h)) g
  where
    go : (b : Bool) → P y → (find f ys ≡ Some x → P x) → cond b (Some y) (find f ys) ≡ Some x → P x
    go true p ih e = subst P (some_same e) p
    go false p ih e = ih e

pub get_front : {A : Type 0} (xs ys : List A) (k : ℕ) (x : A) → slice_get xs k ≡ Some x → slice_get (xs ++ ys) k ≡ Some x
get_front [] ys k x h = let no : ⊥ = cc in absurd no
get_front (z ∷ xs) ys zero x h = h
get_front (z ∷ xs) ys (suc k) x h = get_front xs ys k x h

pub get_next : {A : Type 0} (xs : List A) (y : A) (ys : List A) → slice_get (xs ++ y ∷ ys) (length xs) ≡ Some y
get_next [] y ys = refl
get_next (x ∷ xs) y ys = get_next xs y ys

pub get_mapped : {A B : Type 0} (f : A → B) (xs : List A) (k : ℕ) → slice_get (map f xs) k ≡ option_map f (slice_get xs k)
get_mapped f [] k = refl
get_mapped f (x ∷ xs) zero = refl
get_mapped f (x ∷ xs) (suc k) = get_mapped f xs k

pub record Unmapped (A B : Type 0) (f : A → B) (xs : List A) (k : ℕ) (y : B) : Type 0 where
  pub value : A
  pub there : slice_get xs k ≡ Some value
  pub is : f value ≡ y

pub unmapped : {A B : Type 0} (f : A → B) (xs : List A) (k : ℕ) (y : B) → slice_get (map f xs) k ≡ Some y → Unmapped A B f xs k y
unmapped f [] k y h = let no : ⊥ = cc in absurd no
unmapped {A} {B} f (x ∷ xs) zero y h = record { value = x; there = refl; is = some_same h }
unmapped {A} {B} f (x ∷ xs) (suc k) y h = let u = unmapped f xs k y h in record { value = u.value; there = u.there; is = u.is }

pub get_within : {A : Type 0} (xs : List A) (k : ℕ) (x : A) → slice_get xs k ≡ Some x → k < length xs
get_within [] k x h = let no : ⊥ = cc in absurd no
get_within (y ∷ xs) zero x h = omega arith
get_within (y ∷ xs) (suc k) x h = omega (arith, get_within xs k x h)

-- ---- a list that begins another one

pub record Begins (A : Type 0) (xs ys : List A) : Type 0 where
  pub rest : List A
  pub is : ys ≡ xs ++ rest

pub begins_at : {A : Type 0} (xs ys : List A) (k : ℕ) (x : A) → Begins A xs ys → slice_get xs k ≡ Some x → slice_get ys k ≡ Some x
begins_at xs ys k x b h = ap (λ zs. slice_get zs k) b.is ∙ get_front xs b.rest k x h

pub begins_length : {A : Type 0} (xs ys : List A) (k : ℕ) → Begins A xs ys → k < length xs → k < length ys
begins_length xs ys k b h = omega (arith, ap length b.is, length-append xs b.rest, h)

-- ---- elements related to those at the front of another list

abbrev pub Front : {A B : Type 0} → (A → B → Type 0) → List A → List B → Type 0
Front R [] ys = Unit {0}
Front R (x ∷ xs) [] = ⊥
Front R (x ∷ xs) (y ∷ ys) = R x y × Front R xs ys

pub front_next : {A B : Type 0} (R : A → B → Type 0) (xs : List A) (ys : List B) (x : A) (y : B) (zs : List B) → Front R xs (ys ++ y ∷ zs) → length ys ≡ length xs → R x y → Front R (xs ++ x ∷ []) (ys ++ y ∷ zs)
front_next R [] [] x y zs f n r = (r, tt)
front_next R [] (b ∷ ys) x y zs f n r = let no : ⊥ = omega arith in absurd no
front_next R (a ∷ xs) [] x y zs f n r = let no : ⊥ = omega arith in absurd no
front_next R (a ∷ xs) (b ∷ ys) x y zs f n r = (f.0, front_next R xs ys x y zs f.1 (omega arith) r)

pub record Opposite (A B : Type 0) (R : A → B → Type 0) (x : A) (ys : List B) (k : ℕ) : Type 0 where
  pub value : B
  pub there : slice_get ys k ≡ Some value
  pub related : R x value

pub front_at : {A B : Type 0} (R : A → B → Type 0) (xs : List A) (ys : List B) (k : ℕ) (x : A) → Front R xs ys → slice_get xs k ≡ Some x → Opposite A B R x ys k
front_at R [] ys k x f h = let no : ⊥ = cc in absurd no
front_at R (a ∷ xs) [] k x f h = absurd f
front_at {A} {B} R (a ∷ xs) (b ∷ ys) zero x f h = record { value = b; there = refl; related = subst (λ z. R z b) (some_same h) f.0 }
front_at {A} {B} R (a ∷ xs) (b ∷ ys) (suc k) x f h = let o = front_at R xs ys k x f.1 h in record { value = o.value; there = o.there; related = o.related }

pub front_more : {A B : Type 0} (R : A → B → Type 0) (xs : List A) (ys zs : List B) → Front R xs ys → Front R xs (ys ++ zs)
front_more R [] ys zs f = tt
front_more R (x ∷ xs) [] zs f = absurd f
front_more R (x ∷ xs) (y ∷ ys) zs f = (f.0, front_more R xs ys zs f.1)

-- Tests and searches in lists, and options that are there.
use Rattle.std.proofs.Common.{◌≡◌, ℕ, ◌+◌, List, [], ◌∷◌, ◌++◌, map, Option, Some, None, option_map, option_and_then, Bool, true, false, cond, not, ◌&&◌, ◌||◌, refl, sym, ap, ◌∙◌, nat_eq, eqb-true}
use Rattle.std.specs.List.{list_any, find, position_from}
use Rattle.iv_words.specs.Words.{same_word}

pub some_same : {A : Type 0} {x y : A} → Some x ≡ Some y → x ≡ y
some_same h = cc

-- ---- truths

pub not_true : (b : Bool) → not b ≡ true → b ≡ false
not_true false h = refl
not_true true h = let no : ⊥ = cc in absurd no

pub or_false : (b : Bool) → b || false ≡ b
or_false true = refl
or_false false = refl

pub and_both : (a b : Bool) → a && b ≡ true → (a ≡ true) × (b ≡ true)
and_both true b h = (refl, h)
and_both false b h = let no : ⊥ = cc in absurd no

pub neither : (a b : Bool) → a || b ≡ false → (a ≡ false) × (b ≡ false)
neither false b h = (refl, h)
neither true b h = let no : ⊥ = cc in absurd no

-- ---- words

pub same_equal : (a b : List ℕ) → same_word a b ≡ true → a ≡ b
same_equal [] [] h = refl
same_equal [] (y ∷ ys) h = let no : ⊥ = cc in absurd no
same_equal (x ∷ xs) [] h = let no : ⊥ = cc in absurd no
same_equal (x ∷ xs) (y ∷ ys) h =
    let p = and_both (nat_eq x y) (same_word xs ys) h in
    ap (λ z. z ∷ xs) (eqb-true x y p.0) ∙ ap (λ zs. y ∷ zs) (same_equal xs ys p.1)

-- ---- searches

pub found_any : {A : Type 0} (f : A → Bool) (xs : List A) (x : A) → find f xs ≡ Some x → list_any f xs ≡ true
found_any f [] x h = let no : ⊥ = cc in absurd no
found_any f (y ∷ ys) x h = go (found_any f ys x) (f y) refl h
  where
    go : (find f ys ≡ Some x → list_any f ys ≡ true) → (b : Bool) → f y ≡ b → cond b (Some y) (find f ys) ≡ Some x → list_any f (y ∷ ys) ≡ true
    go ih true e g = rw e refl
    go ih false e g = rw (e, ih g) refl

pub placed_any : {A : Type 0} (f : A → Bool) (i : ℕ) (xs : List A) (k : ℕ) → position_from f i xs ≡ Some k → list_any f xs ≡ true
placed_any f i [] k h = let no : ⊥ = cc in absurd no
placed_any f i (y ∷ ys) k h = go (placed_any f (i + 1) ys k) (f y) refl h
  where
    go : (position_from f (i + 1) ys ≡ Some k → list_any f ys ≡ true) → (b : Bool) → f y ≡ b → cond b (Some i) (position_from f (i + 1) ys) ≡ Some k → list_any f (y ∷ ys) ≡ true
    go ih true e g = rw e refl
    go ih false e g = rw (e, ih g) refl

pub any_map : {A B : Type 0} (f : B → Bool) (g : A → B) (xs : List A) → list_any f (map g xs) ≡ list_any (λ x. f (g x)) xs
any_map f g [] = refl
any_map f g (x ∷ xs) = ap (λ b. f (g x) || b) (any_map f g xs)

pub any_last : {A : Type 0} (f : A → Bool) (xs : List A) (x : A) → list_any f (xs ++ x ∷ []) ≡ list_any f xs || f x
any_last f [] x = or_false (f x)
any_last f (y ∷ ys) x = ap (λ b. f y || b) (any_last f ys x) ∙ or_assoc (f y) (list_any f ys) (f x)
  where
    or_assoc : (a b c : Bool) → a || (b || c) ≡ (a || b) || c
    or_assoc true b c = refl
    or_assoc false b c = refl

pub map_last : {A B : Type 0} (f : A → B) (xs : List A) (x : A) → map f (xs ++ x ∷ []) ≡ map f xs ++ f x ∷ []
map_last f [] x = refl
map_last f (y ∷ ys) x = ap (λ zs. f y ∷ zs) (map_last f ys x)

-- ---- options

-- what a function of it gives is there, so it is
pub record Mapped (A B : Type 0) (f : A → B) (o : Option A) (b : B) : Type 0 where
  pub value : A
  pub there : o ≡ Some value
  pub is : b ≡ f value

pub mapped : {A B : Type 0} (f : A → B) (o : Option A) (b : B) → option_map f o ≡ Some b → Mapped A B f o b
mapped f (Some x) b h = record { value = x; there = refl; is = sym (some_same h) }
mapped f None b h = let no : ⊥ = cc in absurd no

pub record Bound (A B : Type 0) (f : A → Option B) (o : Option A) (b : B) : Type 0 where
  pub value : A
  pub there : o ≡ Some value
  pub is : f value ≡ Some b

pub bound : {A B : Type 0} (f : A → Option B) (o : Option A) (b : B) → option_and_then f o ≡ Some b → Bound A B f o b
bound f (Some x) b h = record { value = x; there = refl; is = h }
bound f None b h = let no : ⊥ = cc in absurd no

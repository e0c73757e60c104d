-- Rows one behind the other: their tokens, how deep they are, and where an entry of such a row stands.
use Rattle.std.proofs.Common.{◌≡◌, ℕ, false, List, [], ◌∷◌, ◌++◌, ◌⊎◌, inl, inr, refl, sym, ap, append_assoc}
use Rattle.reading.specs.Row.{Entry, Row, Signs, tokens, Shallow, Fits}

pub append_nil : {A : Type 0} (xs : List A) → xs ++ [] ≡ xs
append_nil [] = refl
append_nil (x ∷ xs) = ap (λ ys. x ∷ ys) (append_nil xs)

-- a list with an element is not empty
pub has_one : {A : Type 0} (xs : List A) (x : A) (ys : List A) → xs ++ x ∷ ys ≡ [] → ⊥
has_one [] x ys e = cc
has_one (y ∷ xs) x ys e = cc

pub front_nil : {A : Type 0} (xs ys : List A) → [] ≡ xs ++ ys → xs ≡ []
front_nil [] ys e = refl
front_nil (x ∷ xs) ys e = cc

pub back_nil : {A : Type 0} (xs ys : List A) → [] ≡ xs ++ ys → ys ≡ []
back_nil [] ys e = sym e
back_nil (x ∷ xs) ys e = cc

-- the only element of a list
pub only_one : {A : Type 0} (xs : List A) (x y : A) (ys : List A) → xs ++ x ∷ ys ≡ y ∷ [] → x ≡ y
only_one [] x y ys e = cc
only_one (a ∷ []) x y ys e = cc
only_one (a ∷ b ∷ xs) x y ys e = cc

module _ {T : Type 0} where
  pub tokens_append : (f g : Row T) → tokens (f ++ g) ≡ tokens f ++ tokens g
  tokens_append [] g = refl
  tokens_append (m ∷ f) g = ap (λ ts. m.token ∷ ts) (tokens_append f g)

  pub joined : (f g : Row T) (ts r rest : List T) → ts ≡ tokens f ++ r → r ≡ tokens g ++ rest → ts ≡ tokens (f ++ g) ++ rest
  joined f g ts r rest e h = rw (e, h, tokens_append f g) (sym (append_assoc (tokens f) (tokens g) rest))

  pub regroup : (f g : Row T) (rest : List T) → tokens (f ++ g) ++ rest ≡ tokens f ++ (tokens g ++ rest)
  regroup f g rest = rw (tokens_append f g) (append_assoc (tokens f) (tokens g) rest)

  pub shallow_append : (limit : ℕ) (f g : Row T) → Shallow limit f → Shallow limit g → Shallow limit (f ++ g)
  shallow_append limit [] g s t = t
  shallow_append limit (m ∷ f) g s t = (s.0, shallow_append limit f g s.1 t)

  pub shallow_front : (limit : ℕ) (f g : Row T) → Shallow limit (f ++ g) → Shallow limit f
  shallow_front limit [] g s = tt
  shallow_front limit (m ∷ f) g s = (s.0, shallow_front limit f g s.1)

  pub shallow_back : (limit : ℕ) (f g : Row T) → Shallow limit (f ++ g) → Shallow limit g
  shallow_back limit [] g s = s
  shallow_back limit (m ∷ f) g s = shallow_back limit f g s.1

  -- an entry of two rows stands in the second or in the first
  pub split_at : (row : Row T) (m : Entry T) (tail f g : Row T) → row ++ m ∷ tail ≡ f ++ g
      → ((h : Row T) × (row ≡ f ++ h) × (g ≡ h ++ m ∷ tail)) ⊎ ((h : Row T) × (f ≡ row ++ m ∷ h) × (tail ≡ h ++ g))
  split_at row m tail [] g e = inl (row, refl, sym e)
  split_at [] m tail (y ∷ f) g e =
      let same : m ≡ y = cc in
      let tails : tail ≡ f ++ g = cc in
      inr (f, ap (λ x. x ∷ f) (sym same), tails)
  split_at (x ∷ row) m tail (y ∷ f) g e =
      let same : x ≡ y = cc in
      let tails : row ++ m ∷ tail ≡ f ++ g = cc in
      elim (split_at row m tail f g tails) [
        | inl w ↦ inl (w.0, cc (w.1), w.2)
        | inr w ↦ inr (w.0, cc (w.1), w.2)
      ]

  pub fits_append : (signs : Signs T) (m : Entry T) (tail g : Row T) (after : List T) → (tail ≡ [] → signs.sign m.token ≡ false) → Fits signs m tail after → Fits signs m (tail ++ g) after
  fits_append signs m [] g after plain fits = λ is. let isnt : signs.sign m.token ≡ false = plain refl in cc
  fits_append signs m (x ∷ tail) g after plain fits = fits

  pub fits_front : (signs : Signs T) (m : Entry T) (tail g : Row T) (after : List T) → (tail ≡ [] → signs.sign m.token ≡ false) → Fits signs m (tail ++ g) after → Fits signs m tail after
  fits_front signs m [] g after plain fits = λ is. let isnt : signs.sign m.token ≡ false = plain refl in cc
  fits_front signs m (x ∷ tail) g after plain fits = fits

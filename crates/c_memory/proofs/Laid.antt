-- A scalar is laid out exactly where it stands among the scalars of the type; a row that ascends ascends in both parts.
use Rattle.std.proofs.Common.{◌≡◌, ℕ, ◌+◌, List, [], ◌∷◌, ◌++◌, Bool, true, false, ◌==◌, ◌||◌, ◌&&◌, refl, sym, ◌∙◌, ap, subst, arith, ◌≤◌}
use Rattle.std.proofs.lemmas.Bool.{eq-eqb, eqb-true}
use Rattle.type_trees.specs.Layouts.{Metric, Ascends, size, lay}
use Rattle.type_trees.specs.Trees.{Tree}
use Rattle.type_trees.proofs.Layouts.{lay_ascends, reaches}
use Rattle.c_memory.specs.Access.{laid_out}

-- where the first part of a row ends
pub record Cut {S : Type 0} (m : Metric S) (lo hi : ℕ) (xs ys : List (ℕ × S)) : Type 0 where
  pub mid : ℕ
  pub left : Ascends m lo xs mid
  pub right : Ascends m mid ys hi

pub cut : {S : Type 0} (m : Metric S) (lo hi : ℕ) (xs ys : List (ℕ × S)) → Ascends m lo (xs ++ ys) hi → Cut m lo hi xs ys
cut m lo hi [] ys h = record { mid = lo; left = omega arith; right = h }
cut m lo hi (x ∷ xs) ys h = let c = cut m (x.0 + m.width x.1) hi xs ys h.1 in record { mid = c.mid; left = (h.0, c.left); right = c.right }

-- a scalar ends before a later one begins
pub first_ends : {S N : Type 0} (m : Metric S) (a : Tree S N) (x y : ℕ × S) (left mid right : List (ℕ × S)) → lay m a 0 ≡ left ++ x ∷ (mid ++ y ∷ right) → x.0 + m.width x.1 ≤ y.0
first_ends m a x y left mid right is =
    let c = cut m 0 (0 + size m a) left (x ∷ (mid ++ y ∷ right)) (subst (λ l. Ascends m 0 l (0 + size m a)) is (lay_ascends m a 0)) in
    let d = cut m (x.0 + m.width x.1) (0 + size m a) mid (y ∷ right) c.right.1 in
    omega (arith, reaches m (x.0 + m.width x.1) d.mid mid d.left, d.right.0)

module _ {S : Type 0} (same : S → S → Bool) where
  pub laid_there : (x : ℕ × S) (xs ys : List (ℕ × S)) → same x.1 x.1 ≡ true → laid_out same x (xs ++ x ∷ ys) ≡ true
  laid_there x [] ys e = ap (λ b. (b && same x.1 x.1) || laid_out same x ys) (eq-eqb x.0 x.0 refl) ∙ ap (λ b. b || laid_out same x ys) e
  laid_there x (z ∷ xs) ys e = go ((x.0 == z.0) && same x.1 z.1) (laid_there x xs ys e)
    where
      go : (b : Bool) → laid_out same x (xs ++ x ∷ ys) ≡ true → (b || laid_out same x (xs ++ x ∷ ys)) ≡ true
      go true h = refl
      go false h = h

  -- where it stands
  pub record LaidAt (x : ℕ × S) (xs : List (ℕ × S)) : Type 0 where
    pub left : List (ℕ × S)
    pub right : List (ℕ × S)
    pub is : xs ≡ left ++ x ∷ right

  both : (a b : Bool) → (a && b) ≡ true → (a ≡ true) × (b ≡ true)
  both true b h = (refl, h)
  both false b h = absurd (cc)

  pub laid_stands : ((s u : S) → same s u ≡ true → s ≡ u) → (x : ℕ × S) (xs : List (ℕ × S)) → laid_out same x xs ≡ true → LaidAt x xs
  laid_stands exact x [] h = absurd (cc)
  laid_stands exact x (y ∷ ys) h = go ((x.0 == y.0) && same x.1 y.1) refl h (λ k. laid_stands exact x ys k)
    where
      go : (b : Bool) → ((x.0 == y.0) && same x.1 y.1) ≡ b → (b || laid_out same x ys) ≡ true → (laid_out same x ys ≡ true → LaidAt x ys) → LaidAt x (y ∷ ys)
      go true e h later =
          let p = both (x.0 == y.0) (same x.1 y.1) e in
          let q : x ≡ y = ap (λ n. (n, x.1)) (eqb-true x.0 y.0 p.0) ∙ ap (λ s. (y.0, s)) (exact x.1 y.1 p.1) in
          record { left = []; right = ys; is = ap (λ z. z ∷ ys) (sym q) }
      go false e h later = let s = later h in record { left = y ∷ s.left; right = s.right; is = ap (λ l. y ∷ l) s.is }

  pub unlaid : ((s u : S) → same s u ≡ true → s ≡ u) → (x : ℕ × S) (xs : List (ℕ × S)) → ((left right : List (ℕ × S)) → xs ≡ left ++ x ∷ right → ⊥) → laid_out same x xs ≡ false
  unlaid exact x xs none = go (laid_out same x xs) refl
    where
      go : (b : Bool) → laid_out same x xs ≡ b → laid_out same x xs ≡ false
      go true e = let s = laid_stands exact x xs e in absurd (none s.left s.right s.is)
      go false e = e

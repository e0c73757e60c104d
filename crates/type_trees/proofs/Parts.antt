-- A part lies within the whole, and two parts of one type are the same part or apart.
use Rattle.std.proofs.Common.{◌≡◌, ℕ, zero, suc, ◌+◌, ◌*◌, ◌<◌, ◌≤◌, List, [], ◌∷◌, length, Some, refl, sym, ◌∙◌, ap, subst, arith, ◌⊎◌, ⊎_elim, inl, inr}
use Rattle.std.proofs.lemmas.Bool.{cases_lt}
use Rattle.type_trees.specs.Trees.{Tree, Leaf, Many, Struct, Row, End, Field, count, count_row, levels, levels_row, part, part_row, first, first_row}
use Rattle.type_trees.specs.Multiples.{up}
use Rattle.type_trees.specs.Layouts.{Metric, align, size, end_row, offset, offset_row}
use Rattle.type_trees.specs.Laws.{Apart}
use Rattle.type_trees.proofs.Multiples.{up_from}
use Rattle.type_trees.proofs.Windows.{within}

module _ {S N : Type 0} where
  mutual
    pub levels_within : (a : Tree S N) (p : List ℕ) (b : Tree S N) → part a p ≡ Some b → levels b + length p ≤ levels a
    levels_within a [] b h = (let e : a ≡ b = cc in omega (arith, ap levels e))
    levels_within (Leaf s) (i ∷ p) b h = absurd (cc)
    levels_within (Many n a) (i ∷ p) b h = omega (arith, levels_within a p b (within n i a p b h).rest)
    levels_within (Struct k r) (i ∷ p) b h = omega (arith, levels_row_within r i p b h)

    levels_row_within : (r : Row S N) (i : ℕ) (p : List ℕ) (b : Tree S N) → part_row r i p ≡ Some b → levels b + length p ≤ levels_row r
    levels_row_within End i p b h = absurd (cc)
    levels_row_within (Field f a r) zero p b h = omega (arith, levels_within a p b h)
    levels_row_within (Field f a r) (suc i) p b h = omega (arith, levels_row_within r i p b h)

  -- no part of a tree but the whole is the tree
  not_itself : (a : Tree S N) (i : ℕ) (p : List ℕ) → part a (i ∷ p) ≡ Some a → ⊥
  not_itself a i p h = omega (arith, levels_within a (i ∷ p) a h)

abbrev pub Places : List ℕ → List ℕ → ℕ → ℕ → ℕ → Type 0
Places p q x y w = (p ≡ q) ⊎ Apart x y w

moved : (k x y w : ℕ) → Apart x y w → Apart (k + x) (k + y) w
moved k x y w h = ⊎_elim (λ e. inl (omega arith)) (λ e. inr (omega arith)) h

times : (i n w x : ℕ) → i < n → x ≤ w → i * w + x ≤ n * w
times i n w x lt le = grind arith

-- in an array whose elements have w bytes, at x and y of elements i and j
elements : (i j w x y z : ℕ) (p q : List ℕ) → x + z ≤ w → y + z ≤ w → Places p q x y z → Places (i ∷ p) (j ∷ q) (i * w + x) (j * w + y) z
elements i j w x y z p q h k same = ⊎_elim
    (λ lt. inr (inl (omega (arith, times i j w (x + z) lt h))))
    (λ le. ⊎_elim
    (λ lt. inr (inr (omega (arith, times j i w (y + z) lt k))))
    (λ ge.
    let e : i ≡ j = omega arith in
    ⊎_elim
    (λ f. inl (ap (λ n. n ∷ p) e ∙ ap (λ l. j ∷ l) f))
    (λ f. inr (subst (λ n. Apart (i * w + x) (n * w + y) z) e (moved (i * w) x y z f)))
    same)
    (cases_lt j i))
    (cases_lt i j)

further : (i j : ℕ) (p q : List ℕ) (x y w : ℕ) → Places (i ∷ p) (j ∷ q) x y w → Places (suc i ∷ p) (suc j ∷ q) x y w
further i j p q x y w h = ⊎_elim (λ e. inl (let n : i ≡ j = cc in let r : p ≡ q = cc in ap (λ k. suc k ∷ p) n ∙ ap (λ l. suc j ∷ l) r)) (λ f. inr f) h

pub record Inside (low place wide high : ℕ) : Type 0 where
  pub above : low ≤ place
  pub below : place + wide ≤ high

module _ {S N : Type 0} (m : Metric S) where
  pub end_from : (r : Row S N) (o : ℕ) → o ≤ end_row m r o
  end_from End o = omega arith
  end_from (Field f a r) o = omega (arith, up_from o (align m a), end_from r (up o (align m a) + size m a))

  mutual
    pub inside : (a : Tree S N) (p : List ℕ) (b : Tree S N) → part a p ≡ Some b → offset m a p + size m b ≤ size m a
    inside a [] b h = (let e : a ≡ b = cc in omega (arith, ap (size m) e))
    inside (Leaf s) (i ∷ p) b h = absurd (cc)
    inside (Many n a) (i ∷ p) b h = let w = within n i a p b h in omega (arith, times i n (size m a) (offset m a p + size m b) w.low (inside a p b w.rest))
    inside (Struct k r) (i ∷ p) b h = omega (arith, (inside_row r i p b 0 h).below, up_from (end_row m r 0) (align m (Struct k r)))

    pub inside_row : (r : Row S N) (i : ℕ) (p : List ℕ) (b : Tree S N) (o : ℕ) → part_row r i p ≡ Some b → Inside o (offset_row m r i p o) (size m b) (end_row m r o)
    inside_row End i p b o h = absurd (cc)
    inside_row (Field f a r) zero p b o h =
        record { above = omega (arith, up_from o (align m a)); below = omega (arith, inside a p b h, end_from r (up o (align m a) + size m a)) }
    inside_row (Field f a r) (suc i) p b o h =
        let q = inside_row r i p b (up o (align m a) + size m a) h in
        record { above = omega (arith, up_from o (align m a), q.above); below = q.below }

  mutual
    -- Two parts of one type are the same part, or apart.
    pub apart : (a : Tree S N) (p q : List ℕ) (b : Tree S N) → part a p ≡ Some b → part a q ≡ Some b → Places p q (offset m a p) (offset m a q) (size m b)
    apart a [] [] b h k = inl refl
    apart a [] (j ∷ q) b h k = (let e : a ≡ b = cc in absurd (not_itself a j q (k ∙ ap Some (sym e))))
    apart a (i ∷ p) [] b h k = (let e : a ≡ b = cc in absurd (not_itself a i p (h ∙ ap Some (sym e))))
    apart (Leaf s) (i ∷ p) (j ∷ q) b h k = absurd (cc)
    apart (Many n a) (i ∷ p) (j ∷ q) b h k =
        let u = within n i a p b h in
        let v = within n j a q b k in
        elements i j (size m a) (offset m a p) (offset m a q) (size m b) p q (inside a p b u.rest) (inside a q b v.rest) (apart a p q b u.rest v.rest)
    apart (Struct k r) (i ∷ p) (j ∷ q) b h l = apart_row r i j p q b 0 h l

    apart_row : (r : Row S N) (i j : ℕ) (p q : List ℕ) (b : Tree S N) (o : ℕ) → part_row r i p ≡ Some b → part_row r j q ≡ Some b → Places (i ∷ p) (j ∷ q) (offset_row m r i p o) (offset_row m r j q o) (size m b)
    apart_row End i j p q b o h k = absurd (cc)
    apart_row (Field f a r) zero zero p q b o h k = ⊎_elim
        (λ e. inl (ap (λ l. 0 ∷ l) e))
        (λ d. inr (moved (up o (align m a)) (offset m a p) (offset m a q) (size m b) d))
        (apart a p q b h k)
    apart_row (Field f a r) zero (suc j) p q b o h k = inr (inl (omega (arith, inside a p b h, (inside_row r j q b (up o (align m a) + size m a) k).above)))
    apart_row (Field f a r) (suc i) zero p q b o h k = inr (inr (omega (arith, inside a q b k, (inside_row r i p b (up o (align m a) + size m a) h).above)))
    apart_row (Field f a r) (suc i) (suc j) p q b o h k = further i j p q (offset_row m r i p (up o (align m a) + size m a)) (offset_row m r j q (up o (align m a) + size m a)) (size m b) (apart_row r i j p q b (up o (align m a) + size m a) h k)

-- ---- the scalars of a part lie within those of the whole

module _ {S N : Type 0} where
  mutual
    pub count_within : (a : Tree S N) (p : List ℕ) (b : Tree S N) → part a p ≡ Some b → first a p + count b ≤ count a
    count_within a [] b h = (let e : a ≡ b = cc in omega (arith, ap count e))
    count_within (Leaf s) (i ∷ p) b h = absurd (cc)
    count_within (Many n a) (i ∷ p) b h = let w = within n i a p b h in omega (arith, times i n (count a) (first a p + count b) w.low (count_within a p b w.rest))
    count_within (Struct k r) (i ∷ p) b h = count_row_within r i p b h

    count_row_within : (r : Row S N) (i : ℕ) (p : List ℕ) (b : Tree S N) → part_row r i p ≡ Some b → first_row r i p + count b ≤ count_row r
    count_row_within End i p b h = absurd (cc)
    count_row_within (Field f a r) zero p b h = omega (arith, count_within a p b h)
    count_row_within (Field f a r) (suc i) p b h = omega (arith, count_row_within r i p b h)

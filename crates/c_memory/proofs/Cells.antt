-- The cells of a value that fits a type fit the scalars of its layout one by one, and a list of such cells is a value's.
use Rattle.std.proofs.Common.{◌≡◌, ℕ, zero, suc, ◌+◌, ◌*◌, List, [], ◌∷◌, ◌++◌, length, map, take, drop, refl, sym, ◌∙◌, ap, arith, length-take-le, length-drop}
use Rattle.std.proofs.lemmas.List.{take-append-drop}
use Rattle.type_trees.specs.Trees.{Tree, Leaf, Many, Struct, Row, End, Field, count, count_row}
use Rattle.type_trees.specs.Multiples.{up}
use Rattle.type_trees.specs.Layouts.{Metric, align, size, rows, lay, lay_row}
use Rattle.type_trees.specs.Values.{Value, Cell, Parts, Values, Nil, Cons, cells, cells_row, EachOf, Fits, FitsRow}
use Rattle.type_trees.proofs.Layouts.{length_lay}
use Rattle.c_memory.specs.Seen.{EachFits}
use Rattle.c_memory.specs.Copies.{rows_of, rebuilt, rebuilt_row}

-- ---- from a value

module _ {S V W : Type 0} (Can : S → V → Type 0) (f : W → V) where
  each_append : (xs ys : List (ℕ × S)) (vs ws : List W) → EachFits Can xs (map f vs) → EachFits Can ys (map f ws) → EachFits Can (xs ++ ys) (map f (vs ++ ws))
  each_append [] ys [] ws h k = k
  each_append [] ys (v ∷ vs) ws h k = absurd h
  each_append (x ∷ xs) ys [] ws h k = absurd h
  each_append (x ∷ xs) ys (v ∷ vs) ws h k = (h.0, each_append xs ys vs ws h.1 k)

  each_rows : (n : ℕ) (P : Value W → Type 0) (at : ℕ → List (ℕ × S)) (w b : ℕ) (vs : Values W) → ((v : Value W) (c : ℕ) → P v → EachFits Can (at c) (map f (cells v))) → EachOf n P vs → EachFits Can (rows n at w b) (map f (cells_row vs))
  each_rows zero P at w b Nil h e = tt
  each_rows zero P at w b (Cons v vs) h e = absurd e
  each_rows (suc n) P at w b Nil h e = absurd e
  each_rows (suc n) P at w b (Cons v vs) h e = each_append (at b) (rows n at w (b + w)) (cells v) (cells_row vs) (h v b e.0) (each_rows n P at w (b + w) vs h e.1)

module _ {S N V W : Type 0} (m : Metric S) (Can : S → V → Type 0) (f : W → V) where
  mutual
    pub fits_each : (a : Tree S N) (v : Value W) (b : ℕ) → Fits (λ s w. Can s (f w)) a v → EachFits Can (lay m a b) (map f (cells v))
    fits_each (Leaf s) (Cell x) b h = (h, tt)
    fits_each (Leaf s) (Parts vs) b h = absurd h
    fits_each (Many n a) (Cell x) b h = absurd h
    fits_each (Many n a) (Parts vs) b h = each_rows Can f n (Fits (λ s w. Can s (f w)) a) (lay m a) (size m a) b vs (λ v c k. fits_each a v c k) h
    fits_each (Struct k r) (Cell x) b h = absurd h
    fits_each (Struct k r) (Parts vs) b h = fits_each_row r vs b 0 h

    fits_each_row : (r : Row S N) (vs : Values W) (b o : ℕ) → FitsRow (λ s w. Can s (f w)) r vs → EachFits Can (lay_row m r b o) (map f (cells_row vs))
    fits_each_row End Nil b o h = tt
    fits_each_row End (Cons v vs) b o h = absurd h
    fits_each_row (Field k a r) Nil b o h = absurd h
    fits_each_row (Field k a r) (Cons v vs) b o h =
        let p : ℕ = up o (align m a) in
        each_append Can f (lay m a (b + p)) (lay_row m r b (p + size m a)) (cells v) (cells_row vs) (fits_each a v (b + p) h.0) (fits_each_row r vs b (p + size m a) h.1)

-- ---- from a list

pub each_length : {S V : Type 0} (Can : S → V → Type 0) (xs : List (ℕ × S)) (vs : List V) → EachFits Can xs vs → length vs ≡ length xs
each_length Can [] [] h = refl
each_length Can [] (v ∷ vs) h = absurd h
each_length Can (x ∷ xs) [] h = absurd h
each_length Can (x ∷ xs) (v ∷ vs) h = ap suc (each_length Can xs vs h.1)

module _ {S V W : Type 0} (Can : S → V → Type 0) (f : W → V) where
  each_cut : (xs ys : List (ℕ × S)) (ws : List W) (k : ℕ) → k ≡ length xs → EachFits Can (xs ++ ys) (map f ws) → EachFits Can xs (map f (take k ws)) × EachFits Can ys (map f (drop k ws))
  each_cut [] ys ws zero e h = (tt, h)
  each_cut [] ys ws (suc k) e h = absurd (omega arith)
  each_cut (x ∷ xs) ys ws zero e h = absurd (omega (arith, e))
  each_cut (x ∷ xs) ys [] (suc k) e h = absurd h
  each_cut (x ∷ xs) ys (w ∷ ws) (suc k) e h = (let r = each_cut xs ys ws k (omega (arith, e)) h.1 in ((h.0, r.0), r.1))

  rows_fit : (n k : ℕ) (P : Value W → Type 0) (at : ℕ → List (ℕ × S)) (w b : ℕ) (g : List W → Value W) (ws : List W) → ((c : ℕ) → k ≡ length (at c)) → ((us : List W) (c : ℕ) → EachFits Can (at c) (map f us) → P (g us)) → EachFits Can (rows n at w b) (map f ws) → EachOf n P (rows_of n k g ws)
  rows_fit zero k P at w b g ws e h fits = tt
  rows_fit (suc n) k P at w b g ws e h fits = (let r = each_cut (at b) (rows n at w (b + w)) ws k (e b) fits in (h (take k ws) b r.0, rows_fit n k P at w (b + w) g (drop k ws) e h r.1))

module _ {S N V W : Type 0} (m : Metric S) (Can : S → V → Type 0) (f : W → V) where
  mutual
    pub rebuilt_fits : (a : Tree S N) (ws : List W) (b : ℕ) → EachFits Can (lay m a b) (map f ws) → Fits (λ s w. Can s (f w)) a (rebuilt a ws)
    rebuilt_fits (Leaf s) [] b h = absurd h
    rebuilt_fits (Leaf s) (w ∷ ws) b h = h.0
    rebuilt_fits (Many n a) ws b h =
        rows_fit Can f n (count a) (Fits (λ s w. Can s (f w)) a) (lay m a) (size m a) b (rebuilt a) ws (λ c. sym (length_lay m a c)) (λ us c k. rebuilt_fits a us c k) h
    rebuilt_fits (Struct k r) ws b h = rebuilt_row_fits r ws b 0 h

    rebuilt_row_fits : (r : Row S N) (ws : List W) (b o : ℕ) → EachFits Can (lay_row m r b o) (map f ws) → FitsRow (λ s w. Can s (f w)) r (rebuilt_row r ws)
    rebuilt_row_fits End ws b o h = tt
    rebuilt_row_fits (Field k a r) ws b o h =
        let p : ℕ = up o (align m a) in
        let c = each_cut Can f (lay m a (b + p)) (lay_row m r b (p + size m a)) ws (count a) (sym (length_lay m a (b + p))) h in
        (rebuilt_fits a (take (count a) ws) (b + p) c.0, rebuilt_row_fits r (drop (count a) ws) b (p + size m a) c.1)

-- the cells are those that were given
none_left : {W : Type 0} (ws : List W) → length ws ≡ 0 → [] ≡ ws
none_left [] h = refl
none_left (w ∷ ws) h = absurd (omega arith)

cells_rows : {W : Type 0} (n k : ℕ) (g : List W → Value W) (ws : List W) → ((us : List W) → length us ≡ k → cells (g us) ≡ us) → length ws ≡ n * k → cells_row (rows_of n k g ws) ≡ ws
cells_rows zero k g ws e h = none_left ws (omega (arith, h))
cells_rows (suc n) k g ws e h =
    ap (λ l. l ++ cells_row (rows_of n k g (drop k ws))) (e (take k ws) (length-take-le k ws (omega (arith, h))))
    ∙ ap (λ l. take k ws ++ l) (cells_rows n k g (drop k ws) e (omega (arith, h, length-drop k ws)))
    ∙ take-append-drop k ws

module _ {S N W : Type 0} where
  mutual
    pub cells_rebuilt : (a : Tree S N) (ws : List W) → length ws ≡ count a → cells (rebuilt a ws) ≡ ws
    cells_rebuilt (Leaf s) [] h = absurd (omega arith)
    cells_rebuilt (Leaf s) (w ∷ []) h = refl
    cells_rebuilt (Leaf s) (w ∷ y ∷ ws) h = absurd (omega arith)
    cells_rebuilt (Many n a) ws h = cells_rows n (count a) (rebuilt a) ws (λ us e. cells_rebuilt a us e) h
    cells_rebuilt (Struct k r) ws h = cells_rebuilt_row r ws h

    cells_rebuilt_row : (r : Row S N) (ws : List W) → length ws ≡ count_row r → cells_row (rebuilt_row r ws) ≡ ws
    cells_rebuilt_row End ws h = none_left ws h
    cells_rebuilt_row (Field f a r) ws h =
        ap (λ l. l ++ cells_row (rebuilt_row r (drop (count a) ws))) (cells_rebuilt a (take (count a) ws) (length-take-le (count a) ws (omega (arith, h))))
        ∙ ap (λ l. take (count a) ws ++ l) (cells_rebuilt_row r (drop (count a) ws) (omega (arith, h, length-drop (count a) ws)))
        ∙ take-append-drop (count a) ws

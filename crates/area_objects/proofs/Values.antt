-- The value of an area as one of its C type: that of an array stands in a struct of one member. It has the same cells, in the same order, and the
-- same parts, at the C paths.
use Rattle.std.proofs.Common.{◌≡◌, ℕ, zero, suc, ℤ, List, [], ◌∷◌, ◌++◌, Some, refl, ◌∙◌, ap, append-nil}
use Rattle.type_trees.specs.Trees.{Leaf, Many, Struct, End, Field, part, part_row}
use Rattle.type_trees.specs.Values.{Cell, Parts, Values, Nil, Cons, cells, cells_row, at, at_row, put, put_row, EachOf, Fits, FitsRow}
use Rattle.type_trees.proofs.Windows.{within}
use Rattle.area_types.specs.Syntax.{ValueType}
use Rattle.area_types.specs.Trees.{Written, WrittenRow}
use Rattle.c_ast.specs.declared.CScalar.{CScalar}
use Rattle.core_meaning.specs.Areas.{Held}
use Rattle.area_objects.specs.Shapes.{Naming, shape, members, c_path, c_path_row}
use Rattle.area_objects.specs.Holds.{CellsFit}

-- each of a row of values by f
abbrev pub each_value : (Held → Held) → Values ℤ → Values ℤ
each_value f Nil = Nil
each_value f (Cons v vs) = Cons (f v) (each_value f vs)

abbrev mutual
  pub c_value : Written → Held → Held
  c_value (Leaf s) v = v
  c_value (Many n a) (Cell x) = Cell x
  c_value (Many n a) (Parts vs) = Parts (Cons (Parts (each_value (c_value a) vs)) Nil)
  c_value (Struct k r) (Cell x) = Cell x
  c_value (Struct k r) (Parts vs) = Parts (c_values r vs)

  pub c_values : WrittenRow → Values ℤ → Values ℤ
  c_values End vs = vs
  c_values (Field f a r) Nil = Nil
  c_values (Field f a r) (Cons v vs) = Cons (c_value a v) (c_values r vs)

-- ---- cells

each_cells : (f : Held → Held) (vs : Values ℤ) → ((v : Held) → cells (f v) ≡ cells v) → cells_row (each_value f vs) ≡ cells_row vs
each_cells f Nil h = refl
each_cells f (Cons v vs) h = ap (λ l. l ++ cells_row (each_value f vs)) (h v) ∙ ap (λ l. cells v ++ l) (each_cells f vs h)

mutual
  pub cells_c : (a : Written) (v : Held) → cells (c_value a v) ≡ cells v
  cells_c (Leaf s) v = refl
  cells_c (Many n a) (Cell x) = refl
  cells_c (Many n a) (Parts vs) = append-nil (cells_row (each_value (c_value a) vs)) ∙ each_cells (c_value a) vs (cells_c a)
  cells_c (Struct k r) (Cell x) = refl
  cells_c (Struct k r) (Parts vs) = cells_c_row r vs

  cells_c_row : (r : WrittenRow) (vs : Values ℤ) → cells_row (c_values r vs) ≡ cells_row vs
  cells_c_row End vs = refl
  cells_c_row (Field f a r) Nil = refl
  cells_c_row (Field f a r) (Cons v vs) = ap (λ l. l ++ cells_row (c_values r vs)) (cells_c a v) ∙ ap (λ l. cells v ++ l) (cells_c_row r vs)

-- ---- form

each_fits : (f : Held → Held) (P Q : Held → Type 0) (n : ℕ) (vs : Values ℤ) → ((v : Held) → P v → Q (f v)) → EachOf n P vs → EachOf n Q (each_value f vs)
each_fits f P Q zero Nil h e = tt
each_fits f P Q zero (Cons v vs) h e = absurd e
each_fits f P Q (suc n) Nil h e = absurd e
each_fits f P Q (suc n) (Cons v vs) h e = (h v e.0, each_fits f P Q n vs h e.1)

module _ (Can : CScalar → ℤ → Type 0) (g : Naming) where
  abbrev Cells : ValueType → ℤ → Type 0
  Cells s n = Can (g.scalar s) n

  mutual
    pub fits_c : (a : Written) (v : Held) → CellsFit Can g a v → Fits Can (shape g a) (c_value a v)
    fits_c (Leaf s) (Cell x) h = h
    fits_c (Leaf s) (Parts vs) h = absurd h
    fits_c (Many n a) (Cell x) h = absurd h
    fits_c (Many n a) (Parts vs) h = (each_fits (c_value a) (CellsFit Can g a) (Fits Can (shape g a)) n vs (fits_c a) h, tt)
    fits_c (Struct k r) (Cell x) h = absurd h
    fits_c (Struct k r) (Parts vs) h = fits_c_row r k vs h

    fits_c_row : (r : WrittenRow) (k : ℕ) (vs : Values ℤ) → FitsRow Cells r vs → FitsRow Can (members g r k) (c_values r vs)
    fits_c_row End k Nil h = tt
    fits_c_row End k (Cons v vs) h = absurd h
    fits_c_row (Field f a r) k Nil h = absurd h
    fits_c_row (Field f a r) k (Cons v vs) h = (fits_c a v h.0, fits_c_row r k vs h.1)

-- ---- parts

each_at : (f e : Held → Held) (vs : Values ℤ) (i : ℕ) (p q : List ℕ) (w : Held) → ((v : Held) → at v p ≡ Some w → at (f v) q ≡ Some (e w)) → at_row vs i p ≡ Some w → at_row (each_value f vs) i q ≡ Some (e w)
each_at f e Nil i p q w h is = absurd (cc)
each_at f e (Cons v vs) zero p q w h is = h v is
each_at f e (Cons v vs) (suc i) p q w h is = each_at f e vs i p q w h is

mutual
  pub at_c : (a : Written) (p : List ℕ) (b : Written) (v w : Held) → part a p ≡ Some b → at v p ≡ Some w → at (c_value a v) (c_path a p) ≡ Some (c_value b w)
  at_c a [] b v w h is = (let e : a ≡ b = cc in let d : v ≡ w = cc in ap (λ x. Some (c_value x v)) e ∙ ap (λ x. Some (c_value b x)) d)
  at_c (Leaf s) (i ∷ p) b v w h is = absurd (cc)
  at_c (Many n a) (i ∷ p) b (Cell x) w h is = absurd (cc)
  at_c (Many n a) (i ∷ p) b (Parts vs) w h is = each_at (c_value a) (c_value b) vs i p (c_path a p) w (λ v e. at_c a p b v w (within n i a p b h).rest e) is
  at_c (Struct k r) (i ∷ p) b (Cell x) w h is = absurd (cc)
  at_c (Struct k r) (i ∷ p) b (Parts vs) w h is = at_c_row r i p b vs w h is

  at_c_row : (r : WrittenRow) (i : ℕ) (p : List ℕ) (b : Written) (vs : Values ℤ) (w : Held) → part_row r i p ≡ Some b → at_row vs i p ≡ Some w → at_row (c_values r vs) i (c_path_row r i p) ≡ Some (c_value b w)
  at_c_row End i p b vs w h is = absurd (cc)
  at_c_row (Field f a r) i p b Nil w h is = absurd (cc)
  at_c_row (Field f a r) zero p b (Cons v vs) w h is = at_c a p b v w h is
  at_c_row (Field f a r) (suc i) p b (Cons v vs) w h is = at_c_row r i p b vs w h is

each_put : (f : Held → Held) (vs : Values ℤ) (i : ℕ) (p q : List ℕ) (w x : Held) → ((v : Held) → put (f v) q x ≡ f (put v p w)) → put_row (each_value f vs) i q x ≡ each_value f (put_row vs i p w)
each_put f Nil i p q w x h = refl
each_put f (Cons v vs) zero p q w x h = ap (λ y. Cons y (each_value f vs)) (h v)
each_put f (Cons v vs) (suc i) p q w x h = ap (λ y. Cons (f v) y) (each_put f vs i p q w x h)

mutual
  pub put_c : (a : Written) (p : List ℕ) (b : Written) (v w : Held) → part a p ≡ Some b → put (c_value a v) (c_path a p) (c_value b w) ≡ c_value a (put v p w)
  put_c a [] b v w h = (let e : b ≡ a = cc in ap (λ x. c_value x w) e)
  put_c (Leaf s) (i ∷ p) b v w h = absurd (cc)
  put_c (Many n a) (i ∷ p) b (Cell x) w h = refl
  put_c (Many n a) (i ∷ p) b (Parts vs) w h =
      ap (λ y. Parts (Cons (Parts y) Nil)) (each_put (c_value a) vs i p (c_path a p) w (c_value b w) (λ v. put_c a p b v w (within n i a p b h).rest))
  put_c (Struct k r) (i ∷ p) b (Cell x) w h = refl
  put_c (Struct k r) (i ∷ p) b (Parts vs) w h = ap Parts (put_c_row r i p b vs w h)

  put_c_row : (r : WrittenRow) (i : ℕ) (p : List ℕ) (b : Written) (vs : Values ℤ) (w : Held) → part_row r i p ≡ Some b → put_row (c_values r vs) i (c_path_row r i p) (c_value b w) ≡ c_values r (put_row vs i p w)
  put_c_row End i p b vs w h = absurd (cc)
  put_c_row (Field f a r) zero p b Nil w h = refl
  put_c_row (Field f a r) (suc i) p b Nil w h = refl
  put_c_row (Field f a r) zero p b (Cons v vs) w h = ap (λ y. Cons y (c_values r vs)) (put_c a p b v w h)
  put_c_row (Field f a r) (suc i) p b (Cons v vs) w h = ap (λ y. Cons (c_value a v) y) (put_c_row r i p b vs w h)

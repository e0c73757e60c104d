-- The cells of a part of a value stand in a row among those of the whole, and a part is put there without a change of the others.
use Rattle.std.proofs.Common.{◌≡◌, ℕ, zero, suc, ◌+◌, ◌*◌, ◌<◌, List, [], ◌∷◌, ◌++◌, length, Option, Some, refl, sym, ◌∙◌, ap, subst, arith, length-append, append_assoc, append-nil}
use Rattle.type_trees.specs.Trees.{Tree, Leaf, Many, Struct, Row, End, Field, count, count_row, first, first_row, part, part_row}
use Rattle.type_trees.specs.Values.{Value, Cell, Parts, Values, Nil, Cons, cells, cells_row, at, at_row, put, put_row, EachOf, Fits, FitsRow, HasForm}
use Rattle.type_trees.specs.Windows.{Replaced}
use Rattle.type_trees.proofs.Windows.{within}

-- `v` has a part with P, whose cells stand in a row among its own, and any other with P can be put there
pub record Lens {A V : Type 0} (Whole : A → Type 0) (P : Value V → Type 0) (cells_of : A → List V) (get : A → Option (Value V)) (set : A → Value V → A) (v : A) (n : ℕ) : Type 0 where
  pub value : Value V
  pub is : get v ≡ Some value
  pub fits : P value
  pub before : List V
  pub after : List V
  pub number : length before ≡ n
  pub cells_are : cells_of v ≡ before ++ (cells value ++ after)
  pub puts : (w : Value V) → P w → Whole (set v w)
  pub cells_put : (w : Value V) → P w → cells_of (set v w) ≡ before ++ (cells w ++ after)

module _ {V : Type 0} where
  length_each : (n k : ℕ) (P : Value V → Type 0) (vs : Values V) → ((v : Value V) → P v → length (cells v) ≡ k) → EachOf n P vs → length (cells_row vs) ≡ n * k
  length_each zero k P Nil h f = omega arith
  length_each zero k P (Cons v vs) h f = absurd f
  length_each (suc n) k P Nil h f = absurd f
  length_each (suc n) k P (Cons v vs) h f = omega (arith, length-append (cells v) (cells_row vs), h v f.0, length_each n k P vs h f.1)

  -- a part of the first value of a row
  lens_here : (Whole : Values V → Type 0) (Q P : Value V → Type 0) (p : List ℕ) (v : Value V) (vs : Values V) (n : ℕ) → ((w : Value V) → Q w → Whole (Cons w vs)) → Lens Q P cells (λ x. at x p) (λ x w. put x p w) v n → Lens Whole P cells_row (λ x. at_row x 0 p) (λ x w. put_row x 0 p w) (Cons v vs) n
  lens_here Whole Q P p v vs n h l = record {
    value = l.value;
    is = l.is;
    fits = l.fits;
    before = l.before;
    after = l.after ++ cells_row vs;
    number = l.number;
    cells_are = ap (λ c. c ++ cells_row vs) l.cells_are ∙ append_assoc l.before (cells l.value ++ l.after) (cells_row vs) ∙ ap (λ c. l.before ++ c) (append_assoc (cells l.value) l.after (cells_row vs));
    puts = λ w f. h (put v p w) (l.puts w f);
    cells_put = λ w f. ap (λ c. c ++ cells_row vs) (l.cells_put w f) ∙ append_assoc l.before (cells w ++ l.after) (cells_row vs) ∙ ap (λ c. l.before ++ c) (append_assoc (cells w) l.after (cells_row vs));
  }

  -- a part of another
  lens_past : (Whole Less : Values V → Type 0) (P : Value V → Type 0) (i : ℕ) (p : List ℕ) (v : Value V) (vs : Values V) (k n : ℕ) → length (cells v) ≡ k → ((ws : Values V) → Less ws → Whole (Cons v ws)) → Lens Less P cells_row (λ x. at_row x i p) (λ x w. put_row x i p w) vs n → Lens Whole P cells_row (λ x. at_row x (suc i) p) (λ x w. put_row x (suc i) p w) (Cons v vs) (k + n)
  lens_past Whole Less P i p v vs k n e h l = record {
    value = l.value;
    is = l.is;
    fits = l.fits;
    before = cells v ++ l.before;
    after = l.after;
    number = omega (arith, length-append (cells v) l.before, l.number, e);
    cells_are = ap (λ c. cells v ++ c) l.cells_are ∙ sym (append_assoc (cells v) l.before (cells l.value ++ l.after));
    puts = λ w f. h (put_row vs i p w) (l.puts w f);
    cells_put = λ w f. ap (λ c. cells v ++ c) (l.cells_put w f) ∙ sym (append_assoc (cells v) l.before (cells w ++ l.after));
  }

  lens_each : (n i k m : ℕ) (Q P : Value V → Type 0) (p : List ℕ) (vs : Values V) → i < n → ((v : Value V) → Q v → length (cells v) ≡ k) → ((v : Value V) → Q v → Lens Q P cells (λ x. at x p) (λ x w. put x p w) v m) → EachOf n Q vs → Lens (EachOf n Q) P cells_row (λ x. at_row x i p) (λ x w. put_row x i p w) vs (i * k + m)
  lens_each zero i k m Q P p vs lt e h f = absurd (omega arith)
  lens_each (suc n) i k m Q P p Nil lt e h f = absurd f
  lens_each (suc n) zero k m Q P p (Cons v vs) lt e h f =
      let same : m ≡ 0 * k + m = omega arith in
      subst (λ x. Lens (EachOf (suc n) Q) P cells_row (λ y. at_row y 0 p) (λ y w. put_row y 0 p w) (Cons v vs) x) same (lens_here (EachOf (suc n) Q) Q P p v vs m (λ w g. (g, f.1)) (h v f.0))
  lens_each (suc n) (suc i) k m Q P p (Cons v vs) lt e h f =
      let same : k + (i * k + m) ≡ suc i * k + m = omega arith in
      subst (λ x. Lens (EachOf (suc n) Q) P cells_row (λ y. at_row y (suc i) p) (λ y w. put_row y (suc i) p w) (Cons v vs) x) same (lens_past (EachOf (suc n) Q) (EachOf n Q) P i p v vs k (i * k + m) (e v f.0) (λ ws g. (f.0, g)) (lens_each n i k m Q P p vs (omega arith) e h f.1))

  -- a lens into a row is one into the value that has it
  lens_parts : (Whole : Value V → Type 0) (Less : Values V → Type 0) (P : Value V → Type 0) (i : ℕ) (p : List ℕ) (vs : Values V) (n : ℕ) → ((ws : Values V) → Less ws → Whole (Parts ws)) → Lens Less P cells_row (λ x. at_row x i p) (λ x w. put_row x i p w) vs n → Lens Whole P cells (λ x. at x (i ∷ p)) (λ x w. put x (i ∷ p) w) (Parts vs) n
  lens_parts Whole Less P i p vs n h l = record { value = l.value; is = l.is; fits = l.fits; before = l.before; after = l.after; number = l.number; cells_are = l.cells_are; puts = λ w f. h (put_row vs i p w) (l.puts w f); cells_put = l.cells_put }

module _ {S N V : Type 0} (Holds : S → V → Type 0) where
  mutual
    pub length_cells : (a : Tree S N) (v : Value V) → Fits Holds a v → length (cells v) ≡ count a
    length_cells (Leaf s) (Cell x) f = refl
    length_cells (Leaf s) (Parts vs) f = absurd f
    length_cells (Many n a) (Cell x) f = absurd f
    length_cells (Many n a) (Parts vs) f = length_each n (count a) (Fits Holds a) vs (λ v h. length_cells a v h) f
    length_cells (Struct k r) (Cell x) f = absurd f
    length_cells (Struct k r) (Parts vs) f = length_cells_row r vs f

    length_cells_row : (r : Row S N) (vs : Values V) → FitsRow Holds r vs → length (cells_row vs) ≡ count_row r
    length_cells_row End Nil f = refl
    length_cells_row End (Cons v vs) f = absurd f
    length_cells_row (Field g a r) Nil f = absurd f
    length_cells_row (Field g a r) (Cons v vs) f = omega (arith, length-append (cells v) (cells_row vs), length_cells a v f.0, length_cells_row r vs f.1)

  mutual
    -- the part to which p leads: its cells are those of the whole from number `first a p` on
    pub lens : (a : Tree S N) (p : List ℕ) (b : Tree S N) (v : Value V) → part a p ≡ Some b → Fits Holds a v → Lens (Fits Holds a) (Fits Holds b) cells (λ x. at x p) (λ x w. put x p w) v (first a p)
    lens a [] b v h f =
        let e : a ≡ b = cc in
        record {
          value = v;
          is = refl;
          fits = subst (λ x. Fits Holds x v) e f;
          before = [];
          after = [];
          number = refl;
          cells_are = sym (append-nil (cells v));
          puts = λ w g. subst (λ x. Fits Holds x w) (sym e) g;
          cells_put = λ w g. sym (append-nil (cells w));
        }
    lens (Leaf s) (i ∷ p) b v h f = absurd (cc)
    lens (Many n a) (i ∷ p) b (Cell x) h f = absurd f
    lens (Many n a) (i ∷ p) b (Parts vs) h f =
        let w = within n i a p b h in
        lens_parts (Fits Holds (Many n a)) (EachOf n (Fits Holds a)) (Fits Holds b) i p vs (i * count a + first a p) (λ ws g. g)
        (lens_each n i (count a) (first a p) (Fits Holds a) (Fits Holds b) p vs w.low (length_cells a) (λ v g. lens a p b v w.rest g) f)
    lens (Struct k r) (i ∷ p) b (Cell x) h f = absurd f
    lens (Struct k r) (i ∷ p) b (Parts vs) h f = lens_parts (Fits Holds (Struct k r)) (FitsRow Holds r) (Fits Holds b) i p vs (first_row r i p) (λ ws g. g) (lens_row r i p b vs h f)

    lens_row : (r : Row S N) (i : ℕ) (p : List ℕ) (b : Tree S N) (vs : Values V) → part_row r i p ≡ Some b → FitsRow Holds r vs → Lens (FitsRow Holds r) (Fits Holds b) cells_row (λ x. at_row x i p) (λ x w. put_row x i p w) vs (first_row r i p)
    lens_row End i p b vs h f = absurd (cc)
    lens_row (Field g a r) i p b Nil h f = absurd f
    lens_row (Field g a r) zero p b (Cons v vs) h f = lens_here (FitsRow Holds (Field g a r)) (Fits Holds a) (Fits Holds b) p v vs (first a p) (λ w x. (x, f.1)) (lens a p b v h f.0)
    lens_row (Field g a r) (suc i) p b (Cons v vs) h f = lens_past (FitsRow Holds (Field g a r)) (FitsRow Holds r) (Fits Holds b) i p v vs (count a) (first_row r i p) (length_cells a v f.0) (λ ws x. (f.0, x)) (lens_row r i p b vs h f.1)

-- the same for values of a form
pub put_replaces : {S N V : Type 0} (a : Tree S N) (p : List ℕ) (b : Tree S N) (v w : Value V) → part a p ≡ Some b → HasForm a v → HasForm b w
    → (x : Value V) × (at v p ≡ Some x) × HasForm b x × HasForm a (put v p w) × Replaced (cells v) (cells x) (cells w) (cells (put v p w)) (first a p)
put_replaces a p b v w h f g =
    let l = lens (λ s x. Unit {0}) a p b v h f in
    (l.value, l.is, l.fits, l.puts w g, record { before = l.before; after = l.after; was = l.cells_are; is = l.cells_put w g; number = l.number })

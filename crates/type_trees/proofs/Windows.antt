-- The scalars of a part of a tree stand in a row among those of the tree.
use Rattle.std.proofs.Common.{◌≡◌, ℕ, zero, suc, ◌+◌, ◌*◌, ◌<◌, List, [], ◌∷◌, ◌++◌, length, Some, None, Bool, true, false, if◌then◌else◌, nat_lt, refl, sym, ◌∙◌, ap, subst, arith, length-append, append_assoc, append-nil}
use Rattle.std.proofs.lemmas.Bool.{ltb-true}
use Rattle.type_trees.specs.Trees.{Tree, Leaf, Many, Struct, Row, End, Field, count, first, first_row, part, part_row}
use Rattle.type_trees.specs.Multiples.{up}
use Rattle.type_trees.specs.Layouts.{Metric, align, size, rows, lay, lay_row, offset, offset_row}
use Rattle.type_trees.specs.Windows.{Window}
use Rattle.type_trees.proofs.Layouts.{length_lay}

pub window_whole : {A : Type 0} (xs : List A) → Window xs xs 0
window_whole xs = record { before = []; after = []; is = sym (append-nil xs); number = refl }

-- behind k others
pub window_behind : {A : Type 0} (xs ys part : List A) (k n : ℕ) → length xs ≡ k → Window ys part n → Window (xs ++ ys) part (k + n)
window_behind xs ys part k n h w = record {
  before = xs ++ w.before;
  after = w.after;
  is = ap (λ l. xs ++ l) w.is ∙ sym (append_assoc xs w.before (part ++ w.after));
  number = omega (arith, length-append xs w.before, h, w.number);
}

-- before others
pub window_before : {A : Type 0} (xs ys part : List A) (n : ℕ) → Window xs part n → Window (xs ++ ys) part n
window_before xs ys part n w = record {
  before = w.before;
  after = w.after ++ ys;
  is = ap (λ l. l ++ ys) w.is ∙ append_assoc w.before (part ++ w.after) ys ∙ ap (λ l. w.before ++ l) (append_assoc part w.after ys);
  number = w.number;
}

pub window_in : {A : Type 0} (xs ys part : List A) (k n : ℕ) → Window xs ys k → Window ys part n → Window xs part (k + n)
window_in xs ys part k n w v = record {
  before = w.before ++ v.before;
  after = v.after ++ w.after;
  is = w.is ∙ ap (λ l. w.before ++ (l ++ w.after)) v.is ∙ ap (λ l. w.before ++ l) (append_assoc v.before (part ++ v.after) w.after ∙ ap (λ l. v.before ++ l) (append_assoc part v.after w.after)) ∙ sym (append_assoc w.before v.before (part ++ (v.after ++ w.after)));
  number = omega (arith, length-append w.before v.before, w.number, v.number);
}

rows_window : {A : Type 0} (n i k : ℕ) (f : ℕ → List A) (w b c : ℕ) → ((d : ℕ) → length (f d) ≡ k) → i < n → c ≡ b + i * w → Window (rows n f w b) (f c) (i * k)
rows_window zero i k f w b c h lt e = absurd (omega arith)
rows_window (suc n) zero k f w b c h lt e =
    let same : c ≡ b = omega (arith, e) in
    let none : 0 * k ≡ 0 = omega arith in
    subst (λ x. Window (f b ++ rows n f w (b + w)) (f x) (0 * k)) (sym same) (subst (λ x. Window (f b ++ rows n f w (b + w)) (f b) x) (sym none) (window_before (f b) (rows n f w (b + w)) (f b) 0 (window_whole (f b))))
rows_window (suc n) (suc i) k f w b c h lt e =
    let sum : k + i * k ≡ suc i * k = omega arith in
    subst (λ x. Window (f b ++ rows n f w (b + w)) (f c) x) sum (window_behind (f b) (rows n f w (b + w)) (f c) k (i * k) (h b) (rows_window n i k f w (b + w) c h (omega arith) (omega (arith, e))))

-- what an element's path says of its number
pub record Within {S N : Type 0} (n i : ℕ) (a : Tree S N) (p : List ℕ) (b : Tree S N) : Type 0 where
  pub low : i < n
  pub rest : part a p ≡ Some b

pub within : {S N : Type 0} (n i : ℕ) (a : Tree S N) (p : List ℕ) (b : Tree S N) → (if nat_lt i n then part a p else None) ≡ Some b → Within n i a p b
within n i a p b = go (nat_lt i n) refl
  where
    go : (x : Bool) → nat_lt i n ≡ x → (if x then part a p else None) ≡ Some b → Within n i a p b
    go true e h = record { low = ltb-true i n e; rest = h }
    go false e h = absurd (cc)

module _ {S N : Type 0} (m : Metric S) where
  mutual
    -- The scalars of the part to which p leads, at its offset, are those of the whole from number `first a p` on.
    pub lay_window : (a : Tree S N) (p : List ℕ) (b : Tree S N) (base c : ℕ) → part a p ≡ Some b → c ≡ base + offset m a p → Window (lay m a base) (lay m b c) (first a p)
    lay_window a [] b base c h e =
        let same : a ≡ b = cc in
        let at : base ≡ c = omega (arith, e) in
        subst (λ x. Window (lay m a base) (lay m x c) 0) same (subst (λ x. Window (lay m a base) (lay m a x) 0) at (window_whole (lay m a base)))
    lay_window (Leaf s) (i ∷ p) b base c h e = absurd (cc)
    lay_window (Many n a) (i ∷ p) b base c h e =
        let w = within n i a p b h in
        window_in (lay m (Many n a) base) (lay m a (base + i * size m a)) (lay m b c) (i * count a) (first a p)
        (rows_window n i (count a) (lay m a) (size m a) base (base + i * size m a) (length_lay m a) w.low refl)
        (lay_window a p b (base + i * size m a) c w.rest (omega (arith, e)))
    lay_window (Struct k r) (i ∷ p) b base c h e = lay_row_window r i p b base 0 c h e

    pub lay_row_window : (r : Row S N) (i : ℕ) (p : List ℕ) (b : Tree S N) (base o c : ℕ) → part_row r i p ≡ Some b → c ≡ base + offset_row m r i p o → Window (lay_row m r base o) (lay m b c) (first_row r i p)
    lay_row_window End i p b base o c h e = absurd (cc)
    lay_row_window (Field f a r) zero p b base o c h e =
        let at : ℕ = up o (align m a) in
        window_before (lay m a (base + at)) (lay_row m r base (at + size m a)) (lay m b c) (first a p)
        (lay_window a p b (base + at) c h (omega (arith, e)))
    lay_row_window (Field f a r) (suc i) p b base o c h e =
        let at : ℕ = up o (align m a) in
        window_behind (lay m a (base + at)) (lay_row m r base (at + size m a)) (lay m b c) (count a) (first_row r i p) (length_lay m a (base + at))
        (lay_row_window r i p b base (at + size m a) c h e)

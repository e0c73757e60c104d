-- Where the scalars of arrays and structs stand: an offset is in one element, or in one member.
use Rattle.std.proofs.Common.{◌≡◌, ℕ, zero, suc, ◌+◌, ◌-◌, ◌*◌, ◌<◌, ◌≤◌, ◌/◌, ◌%◌, List, [], ◌∷◌, ◌++◌, Bool, true, false, ◌&&◌, ◌||◌, ◌==◌, refl, sym, ◌∙◌, ap, arith}
use Rattle.std.proofs.lemmas.Bool.{eq-eqb, eqb-true}
use Rattle.type_trees.specs.Multiples.{up}
use Rattle.type_trees.specs.Trees.{Tree, Leaf, Many, Struct, Row, End, Field}
use Rattle.type_trees.specs.Layouts.{Metric, align, size, rows, lay, lay_row, Ascends, end_row}
use Rattle.type_trees.proofs.Layouts.{rows_ascend, lay_ascends, lay_row_ascends, reaches}
use Rattle.c_memory.specs.Access.{laid_out}

or_assoc : (a b c : Bool) → ((a || b) || c) ≡ (a || (b || c))
or_assoc true b c = refl
or_assoc false b c = refl

or_none : (b : Bool) → (b || false) ≡ b
or_none true = refl
or_none false = refl

same_moved : (k a b : ℕ) → ((k + a) == (k + b)) ≡ (a == b)
same_moved k a b = go (a == b) ((k + a) == (k + b)) refl refl
  where
    go : (x y : Bool) → (a == b) ≡ x → ((k + a) == (k + b)) ≡ y → y ≡ x
    go true true e f = refl
    go false false e f = refl
    go true false e f = absurd (let h : a ≡ b = eqb-true a b e in let g : ((k + a) == (k + b)) ≡ true = eq-eqb (k + a) (k + b) (ap (λ n. k + n) h) in let no : true ≡ false = sym g ∙ f in cc)
    go false true e f = absurd (let h : k + a ≡ k + b = eqb-true (k + a) (k + b) f in let l : a ≡ b = omega (arith, h) in let g : (a == b) ≡ true = eq-eqb a b l in let no : true ≡ false = sym g ∙ e in cc)

unequal : (a b : ℕ) → a < b → (a == b) ≡ false
unequal a b lt = go (a == b) refl
  where
    go : (x : Bool) → (a == b) ≡ x → x ≡ false
    go true e = absurd (omega (arith, eqb-true a b e))
    go false e = refl

unequal_above : (a b : ℕ) → b < a → (a == b) ≡ false
unequal_above a b lt = go (a == b) refl
  where
    go : (x : Bool) → (a == b) ≡ x → x ≡ false
    go true e = absurd (omega (arith, eqb-true a b e))
    go false e = refl

module _ {S : Type 0} (same : S → S → Bool) where
  pub laid_append : (x : ℕ × S) (xs ys : List (ℕ × S)) → laid_out same x (xs ++ ys) ≡ (laid_out same x xs || laid_out same x ys)
  laid_append x [] ys = refl
  laid_append x (y ∷ xs) ys = ap (λ b. ((x.0 == y.0) && same x.1 y.1) || b) (laid_append x xs ys) ∙ sym (or_assoc ((x.0 == y.0) && same x.1 y.1) (laid_out same x xs) (laid_out same x ys))

module _ {S : Type 0} (m : Metric S) (same : S → S → Bool) where
  -- what begins below the first is not there
  pub laid_below : (x : ℕ × S) (lo hi : ℕ) (xs : List (ℕ × S)) → Ascends m lo xs hi → x.0 < lo → laid_out same x xs ≡ false
  laid_below x lo hi [] h lt = refl
  laid_below x lo hi (y ∷ ys) h lt = ap (λ b. (b && same x.1 y.1) || laid_out same x ys) (unequal x.0 y.0 (omega (arith, h.0))) ∙ laid_below x (y.0 + m.width y.1) hi ys h.1 (omega (arith, h.0))

module _ {S : Type 0} (m : Metric S) (same : S → S → Bool) (some : (s : S) → 1 ≤ m.width s) where
  -- nor what begins where all have ended
  pub laid_above : (x : ℕ × S) (lo hi : ℕ) (xs : List (ℕ × S)) → Ascends m lo xs hi → hi ≤ x.0 → laid_out same x xs ≡ false
  laid_above x lo hi [] h le = refl
  laid_above x lo hi (y ∷ ys) h le =
      ap (λ b. (b && same x.1 y.1) || laid_out same x ys) (unequal_above x.0 y.0 (omega (arith, some y.1, reaches m (y.0 + m.width y.1) hi ys h.1))) ∙ laid_above x (y.0 + m.width y.1) hi ys h.1 le

module _ {S : Type 0} (same : S → S → Bool) where
  rows_moved : (n : ℕ) (f : ℕ → List (ℕ × S)) (w k b : ℕ) (x y : ℕ × S) → ((c : ℕ) → laid_out same x (f (k + c)) ≡ laid_out same y (f c))
      → laid_out same x (rows n f w (k + b)) ≡ laid_out same y (rows n f w b)
  rows_moved zero f w k b x y h = refl
  rows_moved (suc n) f w k b x y h =
      laid_append same x (f (k + b)) (rows n f w (k + b + w))
      ∙ ap (λ c. c || laid_out same x (rows n f w (k + b + w))) (h b)
      ∙ ap (λ c. laid_out same y (f b) || laid_out same x (rows n f w c)) (let e : k + b + w ≡ k + (b + w) = omega arith in e)
      ∙ ap (λ c. laid_out same y (f b) || c) (rows_moved n f w k (b + w) x y h)
      ∙ sym (laid_append same y (f b) (rows n f w (b + w)))

module _ {S N : Type 0} (m : Metric S) (same : S → S → Bool) where
  mutual
    -- a type that begins later has its scalars as much later
    pub laid_moved : (a : Tree S N) (k b o : ℕ) (s : S) → laid_out same (k + o, s) (lay m a (k + b)) ≡ laid_out same (o, s) (lay m a b)
    laid_moved (Leaf u) k b o s = ap (λ c. (c && same s u) || false) (same_moved k o b)
    laid_moved (Many n a) k b o s = rows_moved same n (lay m a) (size m a) k b (k + o, s) (o, s) (λ c. laid_moved a k c o s)
    laid_moved (Struct w r) k b o s = row_moved r k b 0 o s

    row_moved : (r : Row S N) (k b z o : ℕ) (s : S) → laid_out same (k + o, s) (lay_row m r (k + b) z) ≡ laid_out same (o, s) (lay_row m r b z)
    row_moved End k b z o s = refl
    row_moved (Field f a r) k b z o s =
        let at : ℕ = up z (align m a) in
        laid_append same (k + o, s) (lay m a (k + b + at)) (lay_row m r (k + b) (at + size m a))
        ∙ ap (λ c. laid_out same (k + o, s) (lay m a c) || laid_out same (k + o, s) (lay_row m r (k + b) (at + size m a))) (let e : k + b + at ≡ k + (b + at) = omega arith in e)
        ∙ ap (λ c. c || laid_out same (k + o, s) (lay_row m r (k + b) (at + size m a))) (laid_moved a k (b + at) o s)
        ∙ ap (λ c. laid_out same (o, s) (lay m a (b + at)) || c) (row_moved r k b (at + size m a) o s)
        ∙ sym (laid_append same (o, s) (lay m a (b + at)) (lay_row m r b (at + size m a)))

module _ {S : Type 0} (m : Metric S) (same : S → S → Bool) (some : (s : S) → 1 ≤ m.width s) where
  rows_at : (n i : ℕ) (f : ℕ → List (ℕ × S)) (w b c : ℕ) (x : ℕ × S) → ((c : ℕ) → Ascends m c (f c) (c + w)) → i < n → c ≡ b + i * w → c ≤ x.0 → x.0 < c + w
      → laid_out same x (rows n f w b) ≡ laid_out same x (f c)
  rows_at zero i f w b c x h lt e le below = absurd (omega arith)
  rows_at (suc n) zero f w b c x h lt e le below =
      laid_append same x (f b) (rows n f w (b + w))
      ∙ ap (λ v. laid_out same x (f b) || v) (laid_below m same x (b + w) (b + w + n * w) (rows n f w (b + w)) (rows_ascend m n f w (b + w) h) (omega (arith, e)))
      ∙ or_none (laid_out same x (f b))
      ∙ ap (λ v. laid_out same x (f v)) (let same_place : b ≡ c = omega (arith, e) in same_place)
  rows_at (suc n) (suc i) f w b c x h lt e le below =
      laid_append same x (f b) (rows n f w (b + w))
      ∙ ap (λ v. v || laid_out same x (rows n f w (b + w))) (laid_above m same some x b (b + w) (f b) (h b) (let far : b + suc i * w ≡ b + w + i * w = grind arith in omega (arith, e, far)))
      ∙ rows_at n i f w (b + w) c x h (omega arith) (let far : b + suc i * w ≡ b + w + i * w = grind arith in omega (arith, e, far)) le below

module _ {S N : Type 0} (m : Metric S) (same : S → S → Bool) (some : (s : S) → 1 ≤ m.width s) where
  -- in an array the scalar is in the element at the quotient
  pub elements_laid : (n at : ℕ) (s : S) (a : Tree S N) (w : ℕ) → w ≡ size m a → 0 < w → at / w < n → laid_out same (at, s) (rows n (lay m a) (size m a) 0) ≡ laid_out same (at % w, s) (lay m a 0)
  elements_laid n at s a w e positive lt =
      let whole : w * (at / w) + at % w ≡ at = omega (arith, positive) in
      let c : ℕ = at / w * w in
      let split : c + at % w ≡ at = grind arith in
      let low : at % w < w = omega (arith, positive) in
      rows_at m same some n (at / w) (lay m a) (size m a) 0 c (at, s) (λ b. lay_ascends m a b) lt (let z : c ≡ 0 + c = omega arith in z ∙ ap (λ v. 0 + at / w * v) e) (omega (arith, split)) (omega (arith, split, low, e))
      ∙ ap (λ v. laid_out same (v, s) (lay m a c)) (sym split)
      ∙ ap (λ v. laid_out same (c + at % w, s) (lay m a v)) (let p : c ≡ c + 0 = omega arith in p)
      ∙ laid_moved m same a c 0 (at % w) s

  pub elements_past : (n at : ℕ) (s : S) (a : Tree S N) (w : ℕ) → w ≡ size m a → 0 < w → n ≤ at / w → laid_out same (at, s) (rows n (lay m a) (size m a) 0) ≡ false
  elements_past n at s a w e positive le =
      let whole : w * (at / w) + at % w ≡ at = omega (arith, positive) in
      let far : n * w ≤ at / w * w = grind arith in
      let c : at / w * w ≤ at = grind arith in
      laid_above m same some (at, s) 0 (0 + n * size m a) (rows n (lay m a) (size m a) 0) (rows_ascend m n (lay m a) (size m a) 0 (λ b. lay_ascends m a b)) (omega (arith, far, c, ap (λ v. n * v) e))

  pub elements_none : (n at : ℕ) (s : S) (a : Tree S N) → 0 ≡ size m a → laid_out same (at, s) (rows n (lay m a) (size m a) 0) ≡ false
  elements_none n at s a e =
      let none : n * size m a ≡ 0 = ap (λ v. n * v) (sym e) ∙ (omega arith) in
      laid_above m same some (at, s) 0 (0 + n * size m a) (rows n (lay m a) (size m a) 0) (rows_ascend m n (lay m a) (size m a) 0 (λ b. lay_ascends m a b)) (omega (arith, none))

  -- ---- in a struct, where the next member may begin at o

  pub member_above : (f : N) (a : Tree S N) (r : Row S N) (o begin at : ℕ) (s : S) → begin ≡ up o (align m a) → at < begin → false ≡ laid_out same (at, s) (lay_row m (Field f a r) 0 o)
  member_above f a r o begin at s e lt =
      let c : ℕ = up o (align m a) in
      sym (laid_append same (at, s) (lay m a (0 + c)) (lay_row m r 0 (c + size m a))
      ∙ ap (λ v. v || laid_out same (at, s) (lay_row m r 0 (c + size m a))) (laid_below m same (at, s) (0 + c) (0 + c + size m a) (lay m a (0 + c)) (lay_ascends m a (0 + c)) (omega (arith, e)))
      ∙ laid_below m same (at, s) (0 + (c + size m a)) (0 + end_row m r (c + size m a)) (lay_row m r 0 (c + size m a)) (lay_row_ascends m r 0 (c + size m a)) (omega (arith, e)))

  pub member_within : (f : N) (a : Tree S N) (r : Row S N) (o begin wide at : ℕ) (s : S) → begin ≡ up o (align m a) → wide ≡ size m a → begin ≤ at → at - begin < wide
      → laid_out same (at - begin, s) (lay m a 0) ≡ laid_out same (at, s) (lay_row m (Field f a r) 0 o)
  member_within f a r o begin wide at s e w le lt =
      let c : ℕ = up o (align m a) in
      let split : c + (at - begin) ≡ at = omega (arith, e) in
      sym (laid_append same (at, s) (lay m a (0 + c)) (lay_row m r 0 (c + size m a))
      ∙ ap (λ v. laid_out same (at, s) (lay m a (0 + c)) || v) (laid_below m same (at, s) (0 + (c + size m a)) (0 + end_row m r (c + size m a)) (lay_row m r 0 (c + size m a)) (lay_row_ascends m r 0 (c + size m a)) (omega (arith, e, w)))
      ∙ or_none (laid_out same (at, s) (lay m a (0 + c)))
      ∙ ap (λ v. laid_out same (v, s) (lay m a (0 + c))) (sym split)
      ∙ ap (λ v. laid_out same (c + (at - begin), s) (lay m a v)) (let p : 0 + c ≡ c + 0 = omega arith in p)
      ∙ laid_moved m same a c 0 (at - begin) s)

  pub member_below : (f : N) (a : Tree S N) (r : Row S N) (o begin wide at : ℕ) (s : S) → begin ≡ up o (align m a) → wide ≡ size m a → begin ≤ at → wide ≤ at - begin
      → laid_out same (at, s) (lay_row m (Field f a r) 0 o) ≡ laid_out same (at, s) (lay_row m r 0 (begin + wide))
  member_below f a r o begin wide at s e w le far =
      let c : ℕ = up o (align m a) in
      laid_append same (at, s) (lay m a (0 + c)) (lay_row m r 0 (c + size m a))
      ∙ ap (λ v. v || laid_out same (at, s) (lay_row m r 0 (c + size m a))) (laid_above m same some (at, s) (0 + c) (0 + c + size m a) (lay m a (0 + c)) (lay_ascends m a (0 + c)) (omega (arith, e, w)))
      ∙ ap (λ v. laid_out same (at, s) (lay_row m r 0 v)) (let p : c + size m a ≡ begin + wide = omega (arith, e, w) in p)

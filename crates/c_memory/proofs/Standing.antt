-- A wanted part begins at an offset exactly where a path leads to one there.
use Rattle.std.proofs.Common.{◌≡◌, ℕ, zero, suc, ◌+◌, ◌*◌, ◌<◌, List, [], ◌∷◌, Some, None, Bool, true, false, ◌&&◌, ◌||◌, ◌==◌, ◌⊎◌, inl, inr, ⊎_elim, if◌then◌else◌, refl, sym, ◌∙◌, ap, arith}
use Rattle.std.proofs.lemmas.Bool.{eq-eqb, eqb-true, lt-ltb}
use Rattle.type_trees.specs.Trees.{Tree, Leaf, Many, Struct, Row, End, Field, part, part_row}
use Rattle.type_trees.specs.Multiples.{up}
use Rattle.type_trees.specs.Layouts.{Metric, align, size, offset, offset_row}
use Rattle.type_trees.proofs.Windows.{within}
use Rattle.c_memory.specs.Standing.{any_of, stands, stands_row, StandsAt}

or_right : (a b : Bool) → b ≡ true → (a || b) ≡ true
or_right true b h = refl
or_right false b h = h

or_left : (a b : Bool) → a ≡ true → (a || b) ≡ true
or_left a b h = ap (λ x. x || b) h

or_cases : (a b : Bool) → (a || b) ≡ true → (a ≡ true) ⊎ (b ≡ true)
or_cases true b h = inl refl
or_cases false b h = inr h

and_both : (a b : Bool) → (a && b) ≡ true → (a ≡ true) × (b ≡ true)
and_both true b h = (refl, h)
and_both false b h = absurd (cc)

-- ---- where a path leads

any_there : (n i : ℕ) (f : ℕ → Bool) (w b c : ℕ) → i < n → c ≡ b + i * w → f c ≡ true → any_of n f w b ≡ true
any_there zero i f w b c lt e h = absurd (omega arith)
any_there (suc n) zero f w b c lt e h = (let same : c ≡ b = omega (arith, e) in or_left (f b) (any_of n f w (b + w)) (ap f (sym same) ∙ h))
any_there (suc n) (suc i) f w b c lt e h = or_right (f b) (any_of n f w (b + w)) (any_there n i f w (b + w) c (omega arith) (omega (arith, e)) h)

module _ {S N : Type 0} (m : Metric S) (wanted : Tree S N → Bool) (o : ℕ) where
  itself : (a : Tree S N) (b : ℕ) → wanted a ≡ true → o ≡ b + 0 → stands m wanted o a b ≡ true
  itself (Leaf s) b h e = ap (λ x. x && (b == o)) h ∙ eq-eqb b o (omega (arith, e))
  itself (Many n a) b h e = or_left (wanted (Many n a) && (b == o)) (any_of n (stands m wanted o a) (size m a) b) (ap (λ x. x && (b == o)) h ∙ eq-eqb b o (omega (arith, e)))
  itself (Struct k r) b h e = or_left (wanted (Struct k r) && (b == o)) (stands_row m wanted o r b 0) (ap (λ x. x && (b == o)) h ∙ eq-eqb b o (omega (arith, e)))

  mutual
    part_stands : (a : Tree S N) (p : List ℕ) (c : Tree S N) (b : ℕ) → part a p ≡ Some c → wanted c ≡ true → o ≡ b + offset m a p → stands m wanted o a b ≡ true
    part_stands a [] c b h t e = (let same : a ≡ c = cc in itself a b (ap wanted same ∙ t) e)
    part_stands (Leaf s) (i ∷ p) c b h t e = absurd (cc)
    part_stands (Many n a) (i ∷ p) c b h t e =
        let w = within n i a p c h in
        or_right (wanted (Many n a) && (b == o)) (any_of n (stands m wanted o a) (size m a) b) (any_there n i (stands m wanted o a) (size m a) b (b + i * size m a) w.low refl (part_stands a p c (b + i * size m a) w.rest t (omega (arith, e))))
    part_stands (Struct k r) (i ∷ p) c b h t e = or_right (wanted (Struct k r) && (b == o)) (stands_row m wanted o r b 0) (part_stands_row r i p c b 0 h t e)

    part_stands_row : (r : Row S N) (i : ℕ) (p : List ℕ) (c : Tree S N) (b z : ℕ) → part_row r i p ≡ Some c → wanted c ≡ true → o ≡ b + offset_row m r i p z → stands_row m wanted o r b z ≡ true
    part_stands_row End i p c b z h t e = absurd (cc)
    part_stands_row (Field f a r) zero p c b z h t e = or_left (stands m wanted o a (b + up z (align m a))) (stands_row m wanted o r b (up z (align m a) + size m a)) (part_stands a p c (b + up z (align m a)) h t (omega (arith, e)))
    part_stands_row (Field f a r) (suc i) p c b z h t e = or_right (stands m wanted o a (b + up z (align m a))) (stands_row m wanted o r b (up z (align m a) + size m a)) (part_stands_row r i p c b (up z (align m a) + size m a) h t e)

  pub path_stands : (a : Tree S N) (b : ℕ) → StandsAt m wanted o a b → stands m wanted o a b ≡ true
  path_stands a b s = part_stands a s.path s.content b s.leads s.is s.place

-- ---- a path from what stands

record Which (n w b : ℕ) (f : ℕ → Bool) : Type 0 where
  number : ℕ
  low : number < n
  is : f (b + number * w) ≡ true

which : (n : ℕ) (f : ℕ → Bool) (w b : ℕ) → any_of n f w b ≡ true → Which n w b f
which zero f w b h = absurd (cc)
which (suc n) f w b h = ⊎_elim
    (λ e. let same : b + 0 * w ≡ b = omega arith in record { number = 0; low = omega arith; is = ap f same ∙ e })
    (λ e. let r = which n f w (b + w) e in let same : b + suc r.number * w ≡ b + w + r.number * w = omega arith in record { number = suc r.number; low = omega (arith, r.low); is = ap f same ∙ r.is })
    (or_cases (f b) (any_of n f w (b + w)) h)

module _ {S N : Type 0} (m : Metric S) (wanted : Tree S N → Bool) (o : ℕ) where
  record StandsIn (r : Row S N) (b z : ℕ) : Type 0 where
    index : ℕ
    path : List ℕ
    content : Tree S N
    leads : part_row r index path ≡ Some content
    is : wanted content ≡ true
    place : o ≡ b + offset_row m r index path z

  whole : (a : Tree S N) (b : ℕ) → (wanted a && (b == o)) ≡ true → StandsAt m wanted o a b
  whole a b h = (let p = and_both (wanted a) (b == o) h in record { path = []; content = a; leads = refl; is = p.0; place = omega (arith, eqb-true b o p.1) })

  mutual
    pub stands_path : (a : Tree S N) (b : ℕ) → stands m wanted o a b ≡ true → StandsAt m wanted o a b
    stands_path (Leaf s) b h = whole (Leaf s) b h
    stands_path (Many n a) b h = ⊎_elim
        (λ e. whole (Many n a) b e)
        (λ e.
        let i = which n (stands m wanted o a) (size m a) b e in
        let s = stands_path a (b + i.number * size m a) i.is in
        record {
          path = i.number ∷ s.path;
          content = s.content;
          leads = ap (λ z. if z then part a s.path else None) (lt-ltb i.number n i.low) ∙ s.leads;
          is = s.is;
          place = omega (arith, s.place);
        })
        (or_cases (wanted (Many n a) && (b == o)) (any_of n (stands m wanted o a) (size m a) b) h)
    stands_path (Struct k r) b h = ⊎_elim
        (λ e. whole (Struct k r) b e)
        (λ e. let s = stands_row_path r b 0 e in record { path = s.index ∷ s.path; content = s.content; leads = s.leads; is = s.is; place = s.place })
        (or_cases (wanted (Struct k r) && (b == o)) (stands_row m wanted o r b 0) h)

    stands_row_path : (r : Row S N) (b z : ℕ) → stands_row m wanted o r b z ≡ true → StandsIn r b z
    stands_row_path End b z h = absurd (cc)
    stands_row_path (Field f a r) b z h = ⊎_elim
        (λ e. let s = stands_path a (b + up z (align m a)) e in record { index = 0; path = s.path; content = s.content; leads = s.leads; is = s.is; place = omega (arith, s.place) })
        (λ e. let s = stands_row_path r b (up z (align m a) + size m a) e in record { index = suc s.index; path = s.path; content = s.content; leads = s.leads; is = s.is; place = s.place })
        (or_cases (stands m wanted o a (b + up z (align m a))) (stands_row m wanted o r b (up z (align m a) + size m a)) h)

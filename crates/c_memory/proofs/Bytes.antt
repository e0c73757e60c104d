-- A read of a scalar gives what was last written to it, and a write changes no scalar before or behind it.
use Rattle.std.proofs.Common.{◌≡◌, ℕ, zero, suc, ◌+◌, ◌-◌, ◌≤◌, List, [], ◌∷◌, length, take, drop, map, replicate, Some, None, refl, ◌∙◌, ap, arith}
use Rattle.std.proofs.lemmas.List.{take-replicate, drop-replicate}
use Rattle.type_trees.specs.Layouts.{Ascends}
use Rattle.type_trees.proofs.Layouts.{reaches}
use Rattle.c_memory.specs.Representations.{Representation}
use Rattle.c_memory.specs.Faithful.{Faithful}
use Rattle.c_memory.specs.Seen.{over, scalar_in, seen, with_scalar, with_scalars, EachFits}

module _ {B : Type 0} where
  pub length_over : (o : ℕ) (es bs : List B) → length (over o es bs) ≡ length bs
  length_over zero [] bs = refl
  length_over zero (e ∷ es) [] = refl
  length_over zero (e ∷ es) (b ∷ bs) = ap suc (length_over zero es bs)
  length_over (suc o) es [] = refl
  length_over (suc o) es (b ∷ bs) = ap suc (length_over o es bs)

  over_same : (o k : ℕ) (es bs : List B) → length es ≡ k → o + k ≤ length bs → take k (drop o (over o es bs)) ≡ es
  over_same zero zero [] bs e h = refl
  over_same zero (suc k) [] bs e h = absurd (omega arith)
  over_same zero zero (x ∷ es) bs e h = absurd (omega arith)
  over_same zero (suc k) (x ∷ es) [] e h = absurd (omega arith)
  over_same zero (suc k) (x ∷ es) (b ∷ bs) e h = ap (λ l. x ∷ l) (over_same zero k es bs (omega (arith, e)) (omega arith))
  over_same (suc o) zero [] [] e h = refl
  over_same (suc o) zero (x ∷ es) [] e h = absurd (omega arith)
  over_same (suc o) (suc k) es [] e h = absurd (omega arith)
  over_same (suc o) zero es (b ∷ bs) e h = over_same o zero es bs e (omega arith)
  over_same (suc o) (suc k) es (b ∷ bs) e h = over_same o (suc k) es bs e (omega arith)

  -- what stands before is kept
  over_before : (p k o : ℕ) (es bs : List B) → p + k ≤ o → take k (drop p (over o es bs)) ≡ take k (drop p bs)
  over_before p zero o es bs h = refl
  over_before zero (suc k) zero es bs h = absurd (omega arith)
  over_before zero (suc k) (suc o) es [] h = refl
  over_before zero (suc k) (suc o) es (b ∷ bs) h = ap (λ l. b ∷ l) (over_before zero k o es bs (omega arith))
  over_before (suc p) (suc k) zero es bs h = absurd (omega arith)
  over_before (suc p) (suc k) (suc o) es [] h = refl
  over_before (suc p) (suc k) (suc o) es (b ∷ bs) h = over_before p (suc k) o es bs (omega arith)

  -- what stands behind too
  over_behind : (p k o : ℕ) (es bs : List B) → length es ≡ k → o + k ≤ p → drop p (over o es bs) ≡ drop p bs
  over_behind p k zero [] bs e h = refl
  over_behind zero k zero (x ∷ es) bs e h = absurd (omega (arith, e, h))
  over_behind (suc p) k zero (x ∷ es) [] e h = refl
  over_behind (suc p) zero zero (x ∷ es) (b ∷ bs) e h = absurd (omega arith)
  over_behind (suc p) (suc k) zero (x ∷ es) (b ∷ bs) e h = over_behind p k zero es bs (omega (arith, e)) (omega arith)
  over_behind zero k (suc o) es bs e h = absurd (omega arith)
  over_behind (suc p) k (suc o) es [] e h = refl
  over_behind (suc p) k (suc o) es (b ∷ bs) e h = over_behind p k o es bs e (omega arith)

module _ {S V B : Type 0} (r : Representation S V B) (Can : S → V → Type 0) (faithful : Faithful r Can) where
  pub read_same : (bs : List B) (x : ℕ × S) (v : V) → x.0 + r.metric.width x.1 ≤ length bs → Can x.1 v → scalar_in r (with_scalar r bs x v) x ≡ Some v
  read_same bs x v h ok = ap (r.codec.decode x.1) (over_same x.0 (r.metric.width x.1) (r.codec.encode x.1 v) bs (faithful.long x.1 v) h) ∙ faithful.back x.1 v ok

  pub read_before : (bs : List B) (x y : ℕ × S) (v : V) → y.0 + r.metric.width y.1 ≤ x.0 → scalar_in r (with_scalar r bs x v) y ≡ scalar_in r bs y
  read_before bs x y v h = ap (r.codec.decode y.1) (over_before y.0 (r.metric.width y.1) x.0 (r.codec.encode x.1 v) bs h)

  pub read_behind : (bs : List B) (x y : ℕ × S) (v : V) → x.0 + r.metric.width x.1 ≤ y.0 → scalar_in r (with_scalar r bs x v) y ≡ scalar_in r bs y
  read_behind bs x y v h = ap (λ l. r.codec.decode y.1 (take (r.metric.width y.1) l)) (over_behind y.0 (r.metric.width x.1) x.0 (r.codec.encode x.1 v) bs (faithful.long x.1 v) h)

  pub length_scalars : (bs : List B) (xs : List (ℕ × S)) (vs : List V) → length (with_scalars r bs xs vs) ≡ length bs
  length_scalars bs [] vs = refl
  length_scalars bs (x ∷ xs) [] = refl
  length_scalars bs (x ∷ xs) (v ∷ vs) = length_scalars (with_scalar r bs x v) xs vs ∙ length_over x.0 (r.codec.encode x.1 v) bs

  -- scalars that stand before one that is written, or behind it
  pub seen_before : (bs : List B) (lo hi : ℕ) (x : ℕ × S) (v : V) (ys : List (ℕ × S)) → Ascends r.metric lo ys hi → hi ≤ x.0 → seen r (with_scalar r bs x v) ys ≡ seen r bs ys
  seen_before bs lo hi x v [] a h = refl
  seen_before bs lo hi x v (y ∷ ys) a h =
      ap (λ z. z ∷ seen r (with_scalar r bs x v) ys) (read_before bs x y v (omega (arith, h, reaches r.metric (y.0 + r.metric.width y.1) hi ys a.1)))
      ∙ ap (λ l. scalar_in r bs y ∷ l) (seen_before bs (y.0 + r.metric.width y.1) hi x v ys a.1 h)

  pub seen_behind : (bs : List B) (lo hi : ℕ) (x : ℕ × S) (v : V) (ys : List (ℕ × S)) → Ascends r.metric lo ys hi → x.0 + r.metric.width x.1 ≤ lo → seen r (with_scalar r bs x v) ys ≡ seen r bs ys
  seen_behind bs lo hi x v [] a h = refl
  seen_behind bs lo hi x v (y ∷ ys) a h =
      ap (λ z. z ∷ seen r (with_scalar r bs x v) ys) (read_behind bs x y v (omega (arith, h, a.0)))
      ∙ ap (λ l. scalar_in r bs y ∷ l) (seen_behind bs (y.0 + r.metric.width y.1) hi x v ys a.1 (omega (arith, h, a.0)))

  -- a scalar before those that are written
  below_scalars : (bs : List B) (lo hi : ℕ) (xs : List (ℕ × S)) (vs : List V) (y : ℕ × S) → Ascends r.metric lo xs hi → y.0 + r.metric.width y.1 ≤ lo → scalar_in r (with_scalars r bs xs vs) y ≡ scalar_in r bs y
  below_scalars bs lo hi [] vs y a h = refl
  below_scalars bs lo hi (x ∷ xs) [] y a h = refl
  below_scalars bs lo hi (x ∷ xs) (v ∷ vs) y a h =
      below_scalars (with_scalar r bs x v) (x.0 + r.metric.width x.1) hi xs vs y a.1 (omega (arith, h, a.0)) ∙ read_before bs x y v (omega (arith, h, a.0))

  -- what was written is read
  pub seen_scalars : (bs : List B) (lo hi : ℕ) (xs : List (ℕ × S)) (vs : List V) → Ascends r.metric lo xs hi → hi ≤ length bs → EachFits Can xs vs → seen r (with_scalars r bs xs vs) xs ≡ map Some vs
  seen_scalars bs lo hi [] [] a h f = refl
  seen_scalars bs lo hi [] (v ∷ vs) a h f = absurd f
  seen_scalars bs lo hi (x ∷ xs) [] a h f = absurd f
  seen_scalars bs lo hi (x ∷ xs) (v ∷ vs) a h f =
      let next : List B = with_scalar r bs x v in
      ap (λ z. z ∷ seen r (with_scalars r next xs vs) xs) (below_scalars next (x.0 + r.metric.width x.1) hi xs vs x a.1 (omega arith) ∙ read_same bs x v (omega (arith, h, reaches r.metric (x.0 + r.metric.width x.1) hi xs a.1)) f.0)
      ∙ ap (λ l. Some v ∷ l) (seen_scalars next (x.0 + r.metric.width x.1) hi xs vs a.1 (omega (arith, h, length_over x.0 (r.codec.encode x.1 v) bs)) f.1)

  -- bytes to which nothing was written show nothing
  pub seen_blank : (n lo hi : ℕ) (xs : List (ℕ × S)) → Ascends r.metric lo xs hi → hi ≤ n → seen r (replicate n r.codec.blank) xs ≡ map (λ y. None) xs
  seen_blank n lo hi [] h le = refl
  seen_blank n lo hi (y ∷ xs) h le =
      let top : y.0 + r.metric.width y.1 ≤ n = omega (arith, reaches r.metric (y.0 + r.metric.width y.1) hi xs h.1) in
      let none : scalar_in r (replicate n r.codec.blank) y ≡ None =
      ap (λ l. r.codec.decode y.1 (take (r.metric.width y.1) l)) (drop-replicate y.0 n r.codec.blank) ∙ ap (λ l. r.codec.decode y.1 l) (take-replicate (r.metric.width y.1) (n - y.0) r.codec.blank (omega arith)) ∙ faithful.fresh y.1 in
      ap (λ z. z ∷ seen r (replicate n r.codec.blank) xs) none ∙ ap (λ l. None ∷ l) (seen_blank n (y.0 + r.metric.width y.1) hi xs h.1 le)

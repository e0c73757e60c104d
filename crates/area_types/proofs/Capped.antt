-- Numbers that stop at the greatest `u32`: a bound taken of the parts changes nothing once the whole is bounded.
use Rattle.std.proofs.Common.{◌≡◌, ℕ, zero, suc, ◌+◌, ◌*◌, ◌≤◌, ◌<◌, ◌⊎◌, inl, inr, arith, refl, ap, sym, ◌∙◌}
use Rattle.std.specs.Prelude.{max, nat_le}
use Rattle.std.proofs.lemmas.Bool.{lt-leb}
use Rattle.std.proofs.Math.Nat.{min-eq_left, min-eq_right}
use Rattle.std.proofs.lemmas.Bool.{cases_lt}
use Rattle.area_types.specs.Extents.{capped}
use Rattle.type_trees.specs.Multiples.{up}
use Rattle.type_trees.proofs.Multiples.{up_from}

abbrev top : ℕ
top = 4_294_967_295

pub capped_below : (n : ℕ) → n ≤ 4_294_967_295 → capped n ≡ n
capped_below n h = min-eq_left h

pub capped_above : (n : ℕ) → 4_294_967_295 ≤ n → capped n ≡ 4_294_967_295
capped_above n h = min-eq_right h

-- a number is its own bound, or both pass it
abbrev Cases : ℕ → Type 0
Cases n = (capped n ≡ n) ⊎ ((capped n ≡ top) × (top ≤ n))

cases : (n : ℕ) → Cases n
cases n = elim (cases_lt n top) [ inl h ↦ inl (capped_below n (omega arith)) | inr h ↦ inr (capped_above n h, h) ]

pub capped_sum : (m n : ℕ) → capped (capped m + capped n) ≡ capped (m + n)
capped_sum m n = go (cases m) (cases n)
  where
    go : Cases m → Cases n → capped (capped m + capped n) ≡ capped (m + n)
    go (inl h) (inl k) = rw (h, k) refl
    go (inl h) (inr k) = let a = capped_above (capped m + capped n) (omega arith) in let b = capped_above (m + n) (omega arith) in cc
    go (inr h) k = let a = capped_above (capped m + capped n) (omega arith) in let b = capped_above (m + n) (omega arith) in cc

pub capped_more : (m n : ℕ) → capped (m + capped n) ≡ capped (m + n)
capped_more m n = go (cases n)
  where
    go : Cases n → capped (m + capped n) ≡ capped (m + n)
    go (inl h) = rw h refl
    go (inr h) = let a = capped_above (m + capped n) (omega arith) in let b = capped_above (m + n) (omega arith) in cc

pub capped_product : (m n : ℕ) → capped (m * capped n) ≡ capped (m * n)
capped_product zero n = let e : 0 * capped n ≡ 0 * n = omega arith in ap capped e
capped_product (suc m) n = go (cases n)
  where
    go : Cases n → capped (suc m * capped n) ≡ capped (suc m * n)
    go (inl h) = rw h refl
    go (inr h) =
        let a = capped_above (suc m * capped n) (omega arith) in
        let b = capped_above (suc m * n) (omega arith) in
        cc

pub capped_max : (m n : ℕ) → max (capped m) (capped n) ≡ capped (max m n)
capped_max m n = omega arith

pub capped_up : (o a : ℕ) → capped (up (capped o) a) ≡ capped (up o a)
capped_up o a = go (cases o)
  where
    go : Cases o → capped (up (capped o) a) ≡ capped (up o a)
    go (inl h) = rw h refl
    go (inr h) = let b = capped_above (up (capped o) a) (omega (arith, up_from (capped o) a)) in let c = capped_above (up o a) (omega (arith, up_from o a)) in cc

pub at_most_capped : (m n : ℕ) → n < 4_294_967_295 → nat_le (capped m) n ≡ nat_le m n
at_most_capped m n h = go (cases m)
  where
    go : Cases m → nat_le (capped m) n ≡ nat_le m n
    go (inl e) = ap (λ x. nat_le x n) e
    go (inr e) = lt-leb (capped m) n (omega arith) ∙ sym (lt-leb m n (omega arith))

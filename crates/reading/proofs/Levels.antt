-- What may stand one level deeper, by the number of levels that are left, as the code counts them.
use Rattle.std.proofs.Common.{◌≡◌, ◌≢◌, ℕ, zero, suc, ◌-◌, refl, sym, ap, arith, Some, None}
use Rattle.reading.specs.Reader.{below}

pub below-zero : {A : Type 0} (p : ℕ → A) (k : ℕ) → k ≡ 0 → below p k ≡ None
unfolding below
below-zero p zero h = refl
below-zero p (suc k) h = absurd (omega arith)

pub below-suc : {A : Type 0} (p : ℕ → A) (k : ℕ) → k ≢ 0 → below p k ≡ Some (p (k - 1))
unfolding below
below-suc p zero h = absurd (h refl)
below-suc p (suc k) h = let e : suc k - 1 ≡ k = omega arith in ap (λ x. Some (p x)) (sym e)

pub ruleset levels = (below-zero, below-suc)

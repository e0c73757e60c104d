-- How stretches of steps of two parts, the second of which leads to the result of the first, are put together.
use Rattle.std.proofs.Common.{◌≡◌, ℕ, suc, ◌+◌, ◌*◌, ◌<◌, ◌≤◌, refl, ◌∙◌, ap, arith}
use Rattle.step_semantics.specs.Follows.{Leads}

pub leads_refl : {R : Type 0} (x n : ℕ) (f : ℕ → R) → Leads x x n n f f
leads_refl x n f = record { fewer = omega arith; by = λ k. (k, omega arith, omega arith, refl) }

pub leads_trans : {R : Type 0} (x y z n m i : ℕ) (f g h : ℕ → R) → Leads x y n m f g → Leads y z m i g h → Leads x z n i f h
leads_trans x y z n m i f g h p q =
    record { fewer = omega (arith, p.fewer, q.fewer); by = λ k. let b = q.by k in let a = p.by b.0 in (a.0, omega (arith, a.1, b.1), omega (arith, a.2, b.2), a.3 ∙ b.3) }

-- at least one step of the second, for one step of the first
pub leads_step : {R : Type 0} (x y n : ℕ) (f g : ℕ → R) → ((k : ℕ) → (j : ℕ) × (k < j) × (j + y ≤ k + 16 + x) × (f j ≡ g k)) → Leads x y (suc n) n f g
leads_step x y n f g p = record { fewer = omega arith; by = λ k. let a = p k in (a.0, omega (arith, a.1), omega (arith, a.2), a.3) }

-- at least d steps of the second, for d steps of the first
pub leads_steps : {R : Type 0} (d x y n : ℕ) (f g : ℕ → R) → ((k : ℕ) → (j : ℕ) × (d + k ≤ j) × (j + y ≤ k + 16 * d + x) × (f j ≡ g k)) → Leads x y (d + n) n f g
leads_steps d x y n f g p = record { fewer = omega arith; by = λ k. let a = p k in (a.0, omega (arith, a.1), omega (arith, a.2), a.3) }

-- a stretch of the second alone, which its credit pays
pub leads_free : {R : Type 0} (x y n : ℕ) (f g : ℕ → R) → ((k : ℕ) → (j : ℕ) × (k ≤ j) × (j + y ≤ k + x) × (f j ≡ g k)) → Leads x y n n f g
leads_free x y n f g p = record { fewer = omega arith; by = λ k. let a = p k in (a.0, omega (arith, a.1), omega (arith, a.2), a.3) }

-- the second is written in another way
pub leads_equal : {R : Type 0} (x n : ℕ) (f g : ℕ → R) → ((k : ℕ) → f k ≡ g k) → Leads x x n n f g
leads_equal x n f g e = leads_free x x n f g (λ k. (k, omega arith, omega arith, e k))

-- more credit before, and as much more, or less, after
pub leads_eased : {R : Type 0} (x y x' y' n m : ℕ) (f g : ℕ → R) → x + y' ≤ x' + y → Leads x y n m f g → Leads x' y' n m f g
leads_eased x y x' y' n m f g le p = record { fewer = p.fewer; by = λ k. let a = p.by k in (a.0, a.1, omega (arith, le, a.2), a.3) }

-- what is done to each result of the second
pub leads_on : {R Q : Type 0} (h : R → Q) (x y n m : ℕ) (f g : ℕ → R) → Leads x y n m f g → Leads x y n m (λ j. h (f j)) (λ j. h (g j))
leads_on h x y n m f g p = record { fewer = p.fewer; by = λ k. let a = p.by k in (a.0, a.1, a.2, ap h a.3) }

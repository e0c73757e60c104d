-- `up o a` is the least multiple of a that is not below o.
use Rattle.std.proofs.Common.{◌≡◌, ℕ, ◌+◌, ◌*◌, ◌-◌, ◌/◌, ◌%◌, ◌<◌, ◌≤◌, ◌∙◌, ap, arith, ⊎_elim}
use Rattle.std.proofs.Math.Nat.{zero-mod, mod_self, mod-eq_of_lt, mod-lt, div-add-mod', mul-le-mul_right, mul-mod_left}
use Rattle.std.proofs.lemmas.Bool.{cases_lt}
use Rattle.type_trees.specs.Multiples.{up, LeastMultiple}

pub up_from : (o a : ℕ) → o ≤ up o a
unfolding up
up_from o a = omega arith

pub up_none : (a : ℕ) → up 0 a ≡ 0
unfolding up
up_none a =
    let none : 0 % a ≡ 0 = zero-mod a in
    let whole : (a - 0 % a) % a ≡ 0 = ap (λ x. x % a) (omega arith) ∙ mod_self a in
    omega (arith, whole)

pub up_least : (o a : ℕ) → 0 < a → LeastMultiple o a (up o a)
unfolding up
up_least o a pos = ⊎_elim
    (λ lt.
    let low : o % a < a = mod-lt o pos in
    let pad : (a - o % a) % a ≡ a - o % a = mod-eq_of_lt (omega arith) in
    let split : o / a * a + o % a ≡ o = div-add-mod' o a in
    let is : o + (a - o % a) % a ≡ (o / a + 1) * a = omega arith in
    record {
      multiple = ap (λ x. x % a) is ∙ mul-mod_left (o / a + 1) a;
      reached = omega arith;
      least = λ n h e.
          let whole : n / a * a + n % a ≡ n = div-add-mod' n a in
          let more : o / a + 1 ≤ n / a = ⊎_elim (λ k. absurd (omega (arith, mul-le-mul_right a (le_down k)))) (λ k. k) (cases_lt (n / a) (o / a + 1)) in
          omega (arith, is, mul-le-mul_right a more);
    })
    (λ le.
    let none : o % a ≡ 0 = omega arith in
    let pad : (a - o % a) % a ≡ 0 = ap (λ x. x % a) (omega arith) ∙ mod_self a in
    record {
      multiple = ap (λ x. (o + x) % a) pad ∙ ap (λ x. x % a) (omega arith) ∙ none;
      reached = omega arith;
      least = λ n h e. omega (arith, pad);
    })
    (cases_lt 0 (o % a))
  where
    le_down : {x y : ℕ} → x < y + 1 → x ≤ y
    le_down h = omega arith

-- Numbers modulo 2 ^ bits: the remainder is a number of the unsigned type, a number of the type stays, and what is taken modulo on
-- the way to a sum, a difference or a product changes nothing at its end.
use Rattle.std.proofs.Common.{◌≡◌, ℕ, ◌-◌, ◌+◌, ◌*◌, ◌/◌, ◌%◌, ◌^◌, ◌≤◌, ℤ, pos, negsuc, ◌+ℤ◌, ◌-ℤ◌, ◌*ℤ◌, IsTrue, false, arith, refl, sym, ap, ◌∙◌}
use Rattle.std.proofs.lemmas.Int.{ints, int_rem_euclid_is}
use Rattle.std.proofs.lemmas.Nat.{pow_pos, mod_below, pow-add}
use Rattle.std.proofs.Math.Nat.{mod-eq_of_lt, div-add-mod', mul-le-mul_left}
use Rattle.std.proofs.Math.IntN.{*ℤ_comm, +ℤ_comm}
use borrow.Author.Differences.{up, down, same_in, same_out, sum_is_lem, neg_is, product_is}
use Rattle.iv_words.specs.Kinds.{in_range_of}
use Rattle.iv_words.specs.Bits.{modulo}

-- they differ by a multiple of 2 ^ bits
pub record Congruent (bits : ℕ) (a b : ℤ) : Type 0 where
  pub up : ℕ
  pub down : ℕ
  pub same : a +ℤ pos (up * 2 ^ bits) ≡ b +ℤ pos (down * 2 ^ bits)

pub modulo_same : (bits : ℕ) (a b : ℤ) → Congruent bits a b → modulo bits a ≡ modulo bits b
modulo_same bits a b c =
    let m = 2 ^ bits in
    let some = pow_pos bits in
    let t = down a + down b in
    let far : t * 1 ≤ t * m = mul-le-mul_left t some in
    let n = up a + (c.up + t) * m - down a in
    let from : (z : ℤ) (i : ℕ) → z +ℤ pos ((i + t) * m) ≡ pos n → modulo bits z ≡ pos (n % m) = λ z i h. int_rem_euclid_is z (pos m) m (i + t) n some refl h in
    let e = c.same in
    from a c.up (omega (arith, ints)) ∙ sym (from b c.down (omega (arith, ints)))

pub modulo_congruent : (bits : ℕ) (v : ℤ) → Congruent bits (modulo bits v) v
modulo_congruent bits (pos n) =
    let m = 2 ^ bits in record { up = n / m; down = 0; same = omega (arith, same_in, same_out, sum_is_lem, div-add-mod' n m) }
modulo_congruent bits (negsuc n) =
    let m = 2 ^ bits in let small = mod_below n m (pow_pos bits) in record { up = 0; down = n / m + 1; same = omega (arith, same_in, same_out, sum_is_lem, div-add-mod' n m) }

-- the remainder is a number of the unsigned type
pub modulo_in_range : (bits : ℕ) (v : ℤ) → IsTrue (in_range_of bits false (modulo bits v))
modulo_in_range bits (pos n) = let p = pow_pos bits in let l = mod_below n (2 ^ bits) p in grind (arith, ints)
modulo_in_range bits (negsuc n) = let p = pow_pos bits in grind (arith, ints)

-- a number of the type stays
pub modulo_of_held : (bits : ℕ) (v : ℤ) → IsTrue (in_range_of bits false v) → modulo bits v ≡ v
modulo_of_held bits (pos n) h = let p = pow_pos bits in ap pos (mod-eq_of_lt (grind (arith, ints)))
modulo_of_held bits (negsuc n) h = cc

-- the number that is left is the only one of the type that differs by a multiple
pub modulo_only : (bits : ℕ) (v w : ℤ) → Congruent bits v w → IsTrue (in_range_of bits false w) → modulo bits v ≡ w
modulo_only bits v w c h = modulo_same bits v w c ∙ modulo_of_held bits w h

pub modulo_sum_left : (bits : ℕ) (a b : ℤ) → modulo bits (modulo bits a +ℤ b) ≡ modulo bits (a +ℤ b)
modulo_sum_left bits a b =
    let c = modulo_congruent bits a in let e = c.same in
    modulo_same bits (modulo bits a +ℤ b) (a +ℤ b) (record { up = c.up; down = c.down; same = omega (arith, same_in, same_out, sum_is_lem, e) })

pub modulo_sum_right : (bits : ℕ) (a b : ℤ) → modulo bits (a +ℤ modulo bits b) ≡ modulo bits (a +ℤ b)
modulo_sum_right bits a b = ap (modulo bits) (+ℤ_comm a _) ∙ modulo_sum_left bits b a ∙ ap (modulo bits) (+ℤ_comm b a)

pub modulo_difference_left : (bits : ℕ) (a b : ℤ) → modulo bits (modulo bits a -ℤ b) ≡ modulo bits (a -ℤ b)
modulo_difference_left bits a b =
    let c = modulo_congruent bits a in let e = c.same in
    modulo_same bits (modulo bits a -ℤ b) (a -ℤ b) (record { up = c.up; down = c.down; same = omega (arith, same_in, same_out, sum_is_lem, neg_is, e) })

pub modulo_difference_right : (bits : ℕ) (a b : ℤ) → modulo bits (a -ℤ modulo bits b) ≡ modulo bits (a -ℤ b)
modulo_difference_right bits a b =
    let c = modulo_congruent bits b in let e = c.same in
    modulo_same bits (a -ℤ modulo bits b) (a -ℤ b) (record { up = c.down; down = c.up; same = omega (arith, same_in, same_out, sum_is_lem, neg_is, e) })

times : (bits : ℕ) (a b c : ℤ) → Congruent bits a b → Congruent bits (a *ℤ c) (b *ℤ c)
times bits a b c q =
    let e = q.same in
    let sum : up a + q.up * 2 ^ bits + down b ≡ up b + q.down * 2 ^ bits + down a = omega (arith, same_out, sum_is_lem) in
    let above = ap (λ x. x * up c) sum in
    let below = ap (λ x. x * down c) sum in
    record { up = q.up * up c + q.down * down c; down = q.down * up c + q.up * down c; same = omega (arith, same_in, sum_is_lem, product_is) }

pub modulo_product_left : (bits : ℕ) (a b : ℤ) → modulo bits (modulo bits a *ℤ b) ≡ modulo bits (a *ℤ b)
modulo_product_left bits a b = modulo_same bits (modulo bits a *ℤ b) (a *ℤ b) (times bits (modulo bits a) a b (modulo_congruent bits a))

pub modulo_product_right : (bits : ℕ) (a b : ℤ) → modulo bits (a *ℤ modulo bits b) ≡ modulo bits (a *ℤ b)
modulo_product_right bits a b = ap (modulo bits) (*ℤ_comm a _) ∙ modulo_product_left bits b a ∙ ap (modulo bits) (*ℤ_comm b a)

-- a number that was taken modulo more bits before
pub modulo_narrowed : (few more : ℕ) (v : ℤ) → few ≤ more → modulo few (modulo more v) ≡ modulo few v
modulo_narrowed few more v le =
    let c = modulo_congruent more v in
    let e = c.same in
    let k = 2 ^ (more - few) in
    let parts : 2 ^ more ≡ k * 2 ^ few = ap (λ n. 2 ^ n) (omega arith) ∙ pow-add 2 (more - few) few in
    let ups = ap (λ x. c.up * x) parts in
    let downs = ap (λ x. c.down * x) parts in
    modulo_same few (modulo more v) v (record { up = c.up * k; down = c.down * k; same = omega (arith, same_in, same_out, sum_is_lem, e) })

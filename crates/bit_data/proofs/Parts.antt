-- Parts of numbers from 0: a number with x in the place of some of its bits.
use Rattle.std.proofs.Common.{◌≡◌, ℕ, ◌+◌, ◌-◌, ◌*◌, ◌/◌, ◌%◌, ◌^◌, ◌<◌, ◌≤◌, ℤ, pos, negsuc, ◌-ℤ◌, ◌+ℤ◌, ◌*ℤ◌, inr, to_z, of_z, FitsSigned, false, IsTrue, arith, refl, sym, subst, ap, ◌∙◌}
use Rattle.std.proofs.lemmas.Int.{ints}
use Rattle.std.proofs.lemmas.Nat.{pow_pos, pow-add, mod_below, div-add-mod', div-mul-add, mod-mul-add, shr-shr, shl_below}
use mir.Syntax.{w128}
use Rattle.std.proofs.Math.Nat.{div-eq_of_lt, lt-div-mul-add, add-mul-div_right, add-mul-mod_self_right}
use Rattle.iv_words.specs.Kinds.{in_range_of}
use Rattle.iv_words.proofs.Ranges.{powers_grow}
use Rattle.int_ops.proofs.Wide.{IsWide, wide, as_it_is, difference_is}
use Rattle.bit_data.specs.Fields.{with_part, HasPart}

-- n with x in those bits: what stands above them, x, and what stands below them
abbrev pub put : (low bits n x : ℕ) → ℕ
put low bits n x = (n / 2 ^ low / 2 ^ bits * 2 ^ bits + x) * 2 ^ low + n % 2 ^ low

pub swapped : (low bits n x : ℕ) → put low bits n x + n / 2 ^ low % 2 ^ bits * 2 ^ low ≡ n + x * 2 ^ low
swapped low bits n x =
    let a = 2 ^ low in
    let whole : n / a * a + n % a ≡ n = div-add-mod' n a in
    let top : n / a / 2 ^ bits * 2 ^ bits + n / a % 2 ^ bits ≡ n / a = div-add-mod' (n / a) (2 ^ bits) in
    let scaled = ap (λ z. z * a) top in
    omega arith

pub with_is : (low bits n x : ℕ) → with_part low bits (pos n) (pos x) ≡ pos (put low bits n x)
with_is low bits n x = let e = swapped low bits n x in omega (arith, ints)

shifted : (low bits n x : ℕ) → put low bits n x / 2 ^ low ≡ n / 2 ^ low / 2 ^ bits * 2 ^ bits + x
shifted low bits n x = div-mul-add (n / 2 ^ low / 2 ^ bits * 2 ^ bits + x) (2 ^ low) (n % 2 ^ low) (mod_below n (2 ^ low) (pow_pos low))

pub put_inside : (low bits n x : ℕ) → x < 2 ^ bits → put low bits n x / 2 ^ low % 2 ^ bits ≡ x
put_inside low bits n x l = ap (λ z. z % 2 ^ bits) (shifted low bits n x) ∙ mod-mul-add (n / 2 ^ low / 2 ^ bits) (2 ^ bits) x l

in_steps : (low bits more m : ℕ) → m / 2 ^ (low + bits + more) ≡ m / 2 ^ low / 2 ^ bits / 2 ^ more
in_steps low bits more m = sym (ap (λ z. z / 2 ^ more) (shr-shr m low bits) ∙ shr-shr m (low + bits) more)

pub put_above : (low bits n x from : ℕ) → x < 2 ^ bits → low + bits ≤ from → put low bits n x / 2 ^ from ≡ n / 2 ^ from
put_above low bits n x from l le =
    let more = from - (low + bits) in
    let e : low + bits + more ≡ from = omega arith in
    subst (λ k. put low bits n x / 2 ^ k ≡ n / 2 ^ k) e
    (in_steps low bits more (put low bits n x)
    ∙ ap (λ z. z / 2 ^ bits / 2 ^ more) (shifted low bits n x)
    ∙ ap (λ z. z / 2 ^ more) (div-mul-add (n / 2 ^ low / 2 ^ bits) (2 ^ bits) x l)
    ∙ sym (in_steps low bits more n))

pub put_below : (low bits n x from some : ℕ) → from + some ≤ low → put low bits n x / 2 ^ from % 2 ^ some ≡ n / 2 ^ from % 2 ^ some
put_below low bits n x from some le =
    let m = put low bits n x in
    let p = n / 2 ^ low % 2 ^ bits in
    let c = 2 ^ (low - from - some) in
    let d = 2 ^ some in
    let e = 2 ^ from in
    let sum : low ≡ low - from - some + some + from = omega arith in
    let split : 2 ^ low ≡ c * d * e = ap (λ k. 2 ^ k) sum ∙ pow-add 2 (low - from - some + some) from ∙ ap (λ z. z * e) (pow-add 2 (low - from - some) some) in
    let was = ap (λ z. p * z) split in
    let is = ap (λ z. x * z) split in
    let same : m + p * c * d * e ≡ n + x * c * d * e = omega (arith, swapped low bits n x) in
    let quotients : m / e + p * c * d ≡ n / e + x * c * d =
    sym (add-mul-div_right m (p * c * d) (pow_pos from)) ∙ ap (λ z. z / e) same ∙ add-mul-div_right n (x * c * d) (pow_pos from) in
    sym (add-mul-mod_self_right (m / e) (p * c) d) ∙ ap (λ z. z % d) quotients ∙ add-mul-mod_self_right (n / e) (x * c) d

pub put_fits : (low bits n x width : ℕ) → x < 2 ^ bits → low + bits ≤ width → n < 2 ^ width → put low bits n x < 2 ^ width
put_fits low bits n x width l le below =
    let w = 2 ^ width in
    let none : put low bits n x / w ≡ 0 = put_above low bits n x width l le ∙ div-eq_of_lt below in
    let all = lt-div-mul-add {a = put low bits n x} (pow_pos width) in
    let gone = ap (λ z. z * w) none in
    omega arith

-- ---- numbers of an unsigned type

below_end : (bits n : ℕ) → IsTrue (in_range_of bits false (pos n)) → n < 2 ^ bits
below_end bits n h = let p = pow_pos bits in grind (arith, ints)

in_range_natural : (bits n : ℕ) → n < 2 ^ bits → IsTrue (in_range_of bits false (pos n))
in_range_natural bits n l = grind (arith, ints)

put_has : (low bits n x : ℕ) → x < 2 ^ bits → HasPart low bits (pos n) (pos x) (pos (put low bits n x))
put_has low bits n x l = record {
  inside = ap pos (put_inside low bits n x l);
  below = λ from some le. ap pos (put_below low bits n x from some le);
  above = λ from some le. ap (λ z. pos (z % 2 ^ some)) (put_above low bits n x from l le);
}

pub with_has : (width low bits : ℕ) (v x : ℤ) → IsTrue (in_range_of width false v) → IsTrue (in_range_of bits false x) → HasPart low bits v x (with_part low bits v x)
with_has width low bits (pos n) (pos x) h k = subst (HasPart low bits (pos n) (pos x)) (sym (with_is low bits n x)) (put_has low bits n x (below_end bits x k))
with_has width low bits (negsuc n) x h k = cc
with_has width low bits (pos n) (negsuc x) h k = cc

pub with_fits : (width low bits : ℕ) (v x : ℤ) → low + bits ≤ width → IsTrue (in_range_of width false v) → IsTrue (in_range_of bits false x) → IsTrue (in_range_of width false (with_part low bits v x))
with_fits width low bits (pos n) (pos x) le h k =
    subst (λ r. IsTrue (in_range_of width false r)) (sym (with_is low bits n x))
    (in_range_natural width (put low bits n x) (put_fits low bits n x width (below_end bits x k) le (below_end width n h)))
with_fits width low bits (negsuc n) x le h k = cc
with_fits width low bits (pos n) (negsuc x) le h k = cc

-- ---- what the code's operations give

-- a number of so many bits, moved up
pub moved_is : (low bits : ℕ) (x : ℤ) → low + bits ≤ 64 → IsTrue (in_range_of bits false x) → to_z w128 ((of_z w128 x * 2 ^ low) % 2 ^ 128) ≡ x *ℤ pos (2 ^ low)
moved_is low bits (pos n) le h =
    let small : n < 2 ^ bits = below_end bits n h in
    let up : n * 2 ^ low < 2 ^ (bits + low) = shl_below n bits low small in
    let end = powers_grow (bits + low) 64 (omega arith) in
    let narrow = powers_grow bits 64 (omega arith) in
    let held : of_z w128 (pos n) ≡ n = omega (arith, ints) in
    rw held (omega (arith, ints))
moved_is low bits (negsuc n) le h = cc

pub moved_small : (low bits : ℕ) (x : ℤ) → low + bits ≤ 64 → IsTrue (in_range_of bits false x) → IsTrue (in_range_of 64 false (x *ℤ pos (2 ^ low)))
moved_small low bits (pos n) le h =
    let up : n * 2 ^ low < 2 ^ (bits + low) = shl_below n bits low (below_end bits n h) in
    let end = powers_grow (bits + low) 64 (omega arith) in
    in_range_natural 64 (n * 2 ^ low) (omega arith)
moved_small low bits (negsuc n) le h = cc

wide_word : (v : ℤ) → IsTrue (in_range_of 64 false v) → IsWide v
wide_word v h = wide 64 false v (inr (inr (inr refl))) h

-- a difference and a sum of numbers of 64 bits
module _ (v a b : ℤ) (h : IsTrue (in_range_of 64 false v)) (k : IsTrue (in_range_of 64 false a)) (l : IsTrue (in_range_of 64 false b)) where
  pub sum_is : to_z w128 (of_z w128 (to_z w128 (of_z w128 (to_z w128 (of_z w128 v) -ℤ to_z w128 (of_z w128 a))) +ℤ to_z w128 (of_z w128 b))) ≡ v -ℤ a +ℤ b
  sum_is =
      let f = wide_word v h in
      let g = wide_word a k in
      let e = wide_word b l in
      rw (difference_is v a f g, as_it_is b e) (omega (arith, ints))

  pub sum_fits : FitsSigned w128 (to_z w128 (of_z w128 (to_z w128 (of_z w128 v) -ℤ to_z w128 (of_z w128 a))) +ℤ to_z w128 (of_z w128 b))
  sum_fits =
      let f = wide_word v h in
      let g = wide_word a k in
      let e = wide_word b l in
      rw (difference_is v a f g, as_it_is b e) (grind (arith, ints))

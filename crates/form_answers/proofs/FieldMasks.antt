-- Masks: a word without the bits of a field, and with a number in their place.
use Rattle.std.proofs.Common.{◌≡◌, ℕ, suc, ◌+◌, ◌-◌, ◌*◌, ◌/◌, ◌%◌, ◌^◌, ◌<◌, ◌≤◌, arith, ap, ◌∙◌}
use Rattle.std.specs.Prelude.{bit_and, bit_or}
use Rattle.std.proofs.lemmas.Nat.{pow_pos, pow-add, mod_below, and_comm, and-not, and_le_l, and_le_r, or_disjoint, or_block, or_shifted, shr_split}
use Rattle.std.proofs.lemmas.Nat.Bits.{and_high}
use Rattle.iv_words.proofs.Ranges.{powers_grow}
use Rattle.bit_data.proofs.Parts.{put}
use Rattle.lower_values.specs.Conversions.{mask}

-- the bits of a field
ones_moved : (bits low : ℕ) → mask bits * 2 ^ low ≡ 2 ^ (bits + low) - 2 ^ low
ones_moved bits low =
    let some = pow_pos bits in
    let c = mask bits in
    let one_more : 2 ^ bits ≡ suc c = omega arith in
    let times : 2 ^ bits * 2 ^ low ≡ suc c * 2 ^ low = ap (λ k. k * 2 ^ low) one_more in
    let all : 2 ^ (bits + low) ≡ 2 ^ bits * 2 ^ low = pow-add 2 bits low in
    omega (arith, times, all)

or_nothing : (n : ℕ) → bit_or n 0 ≡ n
or_nothing n =
    let le = and_le_r n 0 in
    let none : bit_and n 0 ≡ 0 = omega arith in
    or_disjoint n 0 none ∙ omega arith

module _ (word low bits n : ℕ) (inside : low + bits ≤ word) (small : n < 2 ^ word) where
  -- what stands above the field, and what stands below it
  abbrev above : ℕ
  above = n / 2 ^ low / 2 ^ bits * 2 ^ bits

  abbrev under : ℕ
  under = n % 2 ^ low

  cleared : bit_and n (mask word - mask bits * 2 ^ low) ≡ n / 2 ^ low / 2 ^ bits * 2 ^ bits * 2 ^ low + n % 2 ^ low
  cleared =
      let field = n / 2 ^ low % 2 ^ bits in
      let ones = mask bits * 2 ^ low in
      let moved = ones_moved bits low in
      let some = pow_pos word in
      let some_low = pow_pos low in
      let grows = powers_grow (bits + low) word (omega arith) in
      let taken : bit_and ones n ≡ field * 2 ^ low = and_comm ones n ∙ ap (bit_and n) moved ∙ and_high n bits low in
      let split : bit_and (2 ^ word - 1 - ones) n + bit_and ones n ≡ n = and-not word ones n (omega (arith, moved)) small in
      let turned : bit_and n (mask word - ones) ≡ bit_and (2 ^ word - 1 - ones) n = and_comm n (2 ^ word - 1 - ones) in
      let whole : n / 2 ^ low * 2 ^ low + under ≡ n = shr_split n low in
      let parts : above + field ≡ n / 2 ^ low = shr_split (n / 2 ^ low) bits in
      let scaled : (above + field) * 2 ^ low ≡ n / 2 ^ low * 2 ^ low = ap (λ k. k * 2 ^ low) parts in
      let sum : (above + field) * 2 ^ low ≡ above * 2 ^ low + field * 2 ^ low = omega arith in
      omega (arith, taken, split, turned, whole, scaled, sum)

  pub cleared_is_small : bit_and n (mask word - mask bits * 2 ^ low) < 2 ^ word
  cleared_is_small = let le = and_le_l n (mask word - mask bits * 2 ^ low) in omega arith

  pub number_is_put : (m : ℕ) → m < 2 ^ bits → bit_or (bit_and n (mask word - mask bits * 2 ^ low)) (m * 2 ^ low) ≡ put low bits n m
  number_is_put m l =
      let below = mod_below n (2 ^ low) (pow_pos low) in
      let moved : m * 2 ^ low ≡ m * 2 ^ low + 0 = omega arith in
      ap (λ k. bit_or k (m * 2 ^ low)) cleared ∙ ap (bit_or (above * 2 ^ low + under)) moved
      ∙ or_block low above m under 0 below (pow_pos low)
      ∙ ap (λ k. k * 2 ^ low + bit_or under 0) (or_shifted (n / 2 ^ low / 2 ^ bits) bits m l) ∙ ap (λ k. (above + m) * 2 ^ low + k) (or_nothing under)

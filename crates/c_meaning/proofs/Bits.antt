-- The bits of a number, and the number of bits: one is the other's inverse on the numbers of a type.
use Rattle.std.proofs.Common.{◌≡◌, ℕ, suc, ◌-◌, ◌*◌, ◌%◌, ◌^◌, ◌<◌, ◌≤◌, ℤ, pos, negsuc, ◌-ℤ◌, Bool, true, false, IsTrue, Result, Ok, arith, refl, ap, ◌∙◌}
use Rattle.std.specs.Prelude.{if◌then◌else◌, nat_lt}
use Rattle.std.proofs.lemmas.Int.{ints}
use Rattle.std.proofs.lemmas.Nat.{pow_pos}
use Rattle.std.proofs.Math.Nat.{mod-eq_of_lt, pow-suc}
use Rattle.iv_words.specs.Kinds.{in_range_of}
use Rattle.run_records.specs.declared.Reason.{Reason}
use Rattle.c_meaning.specs.Operators.{bits_of, number_of_bits, bitwise}

pub bits_of_natural : (bits n : ℕ) → n < 2 ^ bits → bits_of bits (pos n) ≡ n
bits_of_natural bits n l = mod-eq_of_lt l

pub bits_of_negative : (bits n : ℕ) → n < 2 ^ bits → bits_of bits (negsuc n) ≡ 2 ^ bits - suc n
bits_of_negative bits n l = let e : n % 2 ^ bits ≡ n = mod-eq_of_lt l in omega (arith, e)

twice : (bits : ℕ) → 1 ≤ bits → 2 ^ bits ≡ 2 ^ (bits - 1) * 2
twice bits some = ap (λ k. 2 ^ k) (omega arith) ∙ pow-suc 2 (bits - 1)

low : (bits n : ℕ) → (test : Bool) → nat_lt n (2 ^ (bits - 1)) ≡ test → n < 2 ^ (bits - 1) → (if test then pos n else pos n -ℤ pos (2 ^ bits)) ≡ pos n
low bits n true e l = refl
low bits n false e l = absurd (grind arith)

high : (bits n : ℕ) → (test : Bool) → nat_lt n (2 ^ (bits - 1)) ≡ test → 2 ^ (bits - 1) ≤ n → (if test then pos n else pos n -ℤ pos (2 ^ bits)) ≡ pos n -ℤ pos (2 ^ bits)
high bits n true e l = absurd (grind arith)
high bits n false e l = refl

-- the number that has the bits of a number of the type is that number
pub number_of_its_bits : (bits : ℕ) (signed : Bool) (v : ℤ) → 1 ≤ bits → IsTrue (in_range_of bits signed v) → number_of_bits bits signed (bits_of bits v) ≡ v
number_of_its_bits bits false (pos n) some h = let p = pow_pos bits in ap pos (bits_of_natural bits n (grind (arith, ints)))
number_of_its_bits bits false (negsuc n) some h = cc
number_of_its_bits bits true (pos n) some h =
    let p = pow_pos (bits - 1) in
    let t = twice bits some in
    let l : n < 2 ^ (bits - 1) = grind (arith, ints) in
    ap (number_of_bits bits true) (bits_of_natural bits n (omega arith)) ∙ low bits n (nat_lt n (2 ^ (bits - 1))) refl l
number_of_its_bits bits true (negsuc n) some h =
    let p = pow_pos (bits - 1) in
    let t = twice bits some in
    let l : n < 2 ^ (bits - 1) = grind (arith, ints) in
    let m = 2 ^ bits - suc n in
    ap (number_of_bits bits true) (bits_of_negative bits n (omega arith)) ∙ high bits m (nat_lt m (2 ^ (bits - 1))) refl (omega arith) ∙ omega (arith, ints)

-- on numbers of an unsigned type an operator works on the numbers themselves
pub bitwise_natural : (f : ℕ → ℕ → ℕ) (bits a b : ℕ) → a < 2 ^ bits → b < 2 ^ bits → bitwise f bits false (pos a) (pos b) ≡ Ok (pos (f a b))
bitwise_natural f bits a b l m = ap (λ x. let r : Result ℤ Reason = Ok (pos (f x (bits_of bits (pos b)))) in r) (bits_of_natural bits a l) ∙ ap (λ y. let r : Result ℤ Reason = Ok (pos (f a y)) in r) (bits_of_natural bits b m)

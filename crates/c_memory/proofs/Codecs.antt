-- Numbers in bytes are faithful, in both byte orders.
use Rattle.std.proofs.Common.{◌≡◌, ℕ, zero, suc, ◌+◌, ◌*◌, ◌-◌, ◌/◌, ◌^◌, ◌<◌, ◌≤◌, List, [], ◌∷◌, length, map, replicate, Some, None, Bool, true, false, IsTrue, ℤ, pos, negsuc, ◌-ℤ◌, refl, sym, ◌∙◌, ap, arith, if◌then◌else◌, option_map}
use Rattle.std.proofs.Math.Nat.{pow-suc}
use Rattle.std.proofs.lemmas.Nat.{pow-add, pow_pos}
use Rattle.std.proofs.lemmas.Int.{ints}
use Rattle.std.proofs.lemmas.Bool.{lt-ltb, le-ltb}
use Rattle.std.proofs.lemmas.List.{length-reverse, length-map, reverse-reverse}
use Rattle.iv_words.specs.Kinds.{in_range_of}
use Rattle.c_memory.specs.Bytes.{Number, Unset}
use Rattle.c_memory.specs.Faithful.{Faithful}
use Rattle.c_memory.specs.Codecs.{ByteOrder, Little, Big, ScalarTable, SoundScalars, digits, digits_value, arranged, stored, signed_value, number, all_numbers, encode_number, decode_number, numbers, Held}

-- ---- digits

length_digits : (k n : ℕ) → length (digits k n) ≡ k
length_digits zero n = refl
length_digits (suc k) n = ap suc (length_digits k (n / 256))

value_digits : (k n : ℕ) → n < 256 ^ k → digits_value (digits k n) ≡ n
value_digits zero n h = omega arith
value_digits (suc k) n h =
    let p : 256 ^ suc k ≡ 256 ^ k * 256 = pow-suc 256 k in
    omega (arith, value_digits k (n / 256) (omega (arith, p)))

all_numbers_map : (P : Type 0) (ns : List ℕ) → all_numbers {P = P} (map Number ns) ≡ Some ns
all_numbers_map P [] = refl
all_numbers_map P (n ∷ ns) = ap (λ o. option_map (λ l. n ∷ l) o) (all_numbers_map P ns)

arranged_twice : (order : ByteOrder) (ns : List ℕ) → arranged order (arranged order ns) ≡ ns
arranged_twice Little ns = refl
arranged_twice Big ns = reverse-reverse ns

length_arranged : (order : ByteOrder) (ns : List ℕ) → length (arranged order ns) ≡ length ns
length_arranged Little ns = refl
length_arranged Big ns = length-reverse ns

-- ---- ranges

power : (k : ℕ) → 2 ^ (8 * k) ≡ 256 ^ k
power zero = refl
power (suc k) =
    let p : 256 ^ suc k ≡ 256 ^ k * 256 = pow-suc 256 k in
    let q : 2 ^ (8 * k + 8) ≡ 2 ^ (8 * k) * 2 ^ 8 = pow-add 2 (8 * k) 8 in
    let e : 8 * suc k ≡ 8 * k + 8 = omega arith in
    ap (λ n. 2 ^ n) e ∙ q ∙ ap (λ n. n * 256) (power k) ∙ sym p

half : (k : ℕ) → 1 ≤ k → 2 * 2 ^ (8 * k - 1) ≡ 256 ^ k
half k h =
    let n : ℕ = 8 * k - 1 in
    let p : 2 ^ suc n ≡ 2 ^ n * 2 = pow-suc 2 n in
    let e : suc n ≡ 8 * k = omega (arith, h) in
    omega (arith, p, ap (λ x. 2 ^ x) e, power k)

-- a number of so many bytes
abbrev pub Within : Bool → ℕ → ℤ → Type 0
Within false k (pos n) = n < 256 ^ k
Within false k (negsuc n) = ⊥
Within true k (pos n) = n + n < 256 ^ k
Within true k (negsuc n) = suc n + suc n ≤ 256 ^ k

within_range : (signed : Bool) (k : ℕ) (v : ℤ) → 1 ≤ k → IsTrue (in_range_of (8 * k) signed v) → Within signed k v
within_range false k (pos n) some h = (let p = power k in let q = pow_pos (8 * k) in grind (arith, ints))
within_range false k (negsuc n) some h = cc
within_range true k (pos n) some h = (let p = half k some in let q = pow_pos (8 * k - 1) in grind (arith, ints))
within_range true k (negsuc n) some h = (let p = half k some in let q = pow_pos (8 * k - 1) in grind (arith, ints))

-- ---- two's complement

stored_low : (signed : Bool) (k : ℕ) (v : ℤ) → Within signed k v → stored k v < 256 ^ k
unfolding stored
stored_low false k (pos n) h = h
stored_low false k (negsuc n) h = absurd h
stored_low true k (pos n) h = omega arith
stored_low true k (negsuc n) h = omega arith

lifted : (m n : ℕ) → suc n ≤ m → pos (m - suc n) -ℤ pos m ≡ negsuc n
lifted m n h = omega (arith, ints)

signed_back : (k : ℕ) (v : ℤ) → Within true k v → signed_value k (stored k v) ≡ v
unfolding stored signed_value
signed_back k (pos n) h = ap (λ b. if b then pos n else pos n -ℤ pos (256 ^ k)) (lt-ltb (n + n) (256 ^ k) h)
signed_back k (negsuc n) h =
    let r : ℕ = 256 ^ k - suc n in
    ap (λ b. if b then pos r else pos r -ℤ pos (256 ^ k)) (le-ltb (r + r) (256 ^ k) (omega arith)) ∙ lifted (256 ^ k) n (omega arith)

number_back : (signed : Bool) (k : ℕ) (v : ℤ) → Within signed k v → number signed k (stored k v) ≡ v
unfolding stored
number_back true k v h = signed_back k v h
number_back false k (pos n) h = refl
number_back false k (negsuc n) h = absurd h

-- ---- bytes

all_numbers_blank : (P : Type 0) (k : ℕ) → 1 ≤ k → all_numbers {P = P} (replicate k Unset) ≡ None
all_numbers_blank P zero h = absurd (omega arith)
all_numbers_blank P (suc k) h = refl

module _ {S : Type 0} (P : Type 0) (t : ScalarTable S) (sound : SoundScalars t) where
  long : (s : S) (v : ℤ) → length (encode_number {P = P} t s v) ≡ t.metric.width s
  long s v =
      let ds = digits (t.metric.width s) (stored (t.metric.width s) v) in
      length-map (arranged t.order ds) Number ∙ length_arranged t.order ds ∙ length_digits (t.metric.width s) (stored (t.metric.width s) v)

  back : (s : S) (v : ℤ) → Held t s v → decode_number {P = P} t s (encode_number t s v) ≡ Some v
  back s v h =
      let k = t.metric.width s in
      let fits : Within (t.signed s) k v = within_range (t.signed s) k v (sound.some s) (sound.within s v h) in
      let ds = digits k (stored k v) in
      ap (λ o. option_map (λ ns. number (t.signed s) k (digits_value (arranged t.order ns))) o) (all_numbers_map P (arranged t.order ds))
      ∙ ap (λ ns. Some (number (t.signed s) k (digits_value ns))) (arranged_twice t.order ds)
      ∙ ap (λ n. Some (number (t.signed s) k n)) (value_digits k (stored k v) (stored_low (t.signed s) k v fits))
      ∙ ap Some (number_back (t.signed s) k v fits)

  fresh : (s : S) → decode_number {P = P} t s (replicate (t.metric.width s) Unset) ≡ None
  fresh s = ap (λ o. option_map (λ ns. number (t.signed s) (t.metric.width s) (digits_value (arranged t.order ns))) o) (all_numbers_blank P (t.metric.width s) (sound.some s))

  pub faithful_numbers : Faithful (numbers {P = P} t) (Held t)
  faithful_numbers = record { long = long; back = back; fresh = fresh; itself = sound.itself; exact = sound.exact }

-- Whole numbers in bytes (C99 6.2.6.2): their digits in base 256 in the target's byte order, the signed ones in two's complement.
use Rattle.std.specs.Prelude.{◌≡◌, ℕ, zero, suc, ◌+◌, ◌*◌, ◌-◌, ◌/◌, ◌%◌, ◌^◌, ◌≤◌, ℤ, pos, negsuc, ◌-ℤ◌}
use Rattle.std.specs.Prelude.{List, [], ◌∷◌, map, reverse, Option, Some, None, option_map, Bool, true, IsTrue, nat_lt, if◌then◌else◌}
use Rattle.iv_words.specs.Kinds.{in_range_of}
use Rattle.type_trees.specs.Layouts.{Metric}
use Rattle.c_memory.specs.Bytes.{Byte, Number, Unset, PointerByte}
use Rattle.c_memory.specs.Representations.{Representation}

-- which byte of a number has the lowest address: the lowest or the highest
pub data ByteOrder : Type 0 where
  Little Big : ByteOrder

-- The scalars of a target: sizes and alignments, which are signed, the byte order, which are of one type, and which numbers each may
-- hold, as `bool` 0 and 1 (6.2.5).
pub record ScalarTable (S : Type 0) : Type 0 where
  pub metric : Metric S
  pub signed : S → Bool
  pub order : ByteOrder
  pub same : S → S → Bool
  pub holds : S → ℤ → Bool

-- a scalar has a byte at least, and holds numbers of its bits and sign alone
pub record SoundScalars {S : Type 0} (t : ScalarTable S) : Type 0 where
  pub some : (s : S) → 1 ≤ t.metric.width s
  pub itself : (s : S) → t.same s s ≡ true
  pub exact : (s u : S) → t.same s u ≡ true → s ≡ u
  pub within : (s : S) (v : ℤ) → IsTrue (t.holds s v) → IsTrue (in_range_of (8 * t.metric.width s) (t.signed s) v)

-- ---- digits

-- so many digits in base 256, the lowest first
abbrev pub digits : (many n : ℕ) → List ℕ
digits zero n = []
digits (suc k) n = n % 256 ∷ digits k (n / 256)

abbrev pub digits_value : List ℕ → ℕ
digits_value [] = 0
digits_value (d ∷ ds) = d + 256 * digits_value ds

abbrev pub arranged : ByteOrder → List ℕ → List ℕ
arranged Little ds = ds
arranged Big ds = reverse ds

-- ---- sign

-- two's complement in so many bytes: a negative number is stored as what it differs from 256 to that power
unfoldable pub stored : (many : ℕ) → ℤ → ℕ
stored k (pos n) = n
stored k (negsuc n) = 256 ^ k - suc n

-- the upper half of what can be stored stands for negative numbers
unfoldable pub signed_value : (many n : ℕ) → ℤ
signed_value k n = if nat_lt (n + n) (256 ^ k) then pos n else pos n -ℤ pos (256 ^ k)

abbrev pub number : (signed : Bool) (many n : ℕ) → ℤ
number signed k n = if signed then signed_value k n else pos n

-- ---- bytes

abbrev pub all_numbers : {P : Type 0} → List (Byte P) → Option (List ℕ)
all_numbers [] = Some []
all_numbers (Number n ∷ bs) = option_map (λ ns. n ∷ ns) (all_numbers bs)
all_numbers (Unset ∷ bs) = None
all_numbers (PointerByte p k ∷ bs) = None

module _ {S P : Type 0} (t : ScalarTable S) where
  abbrev pub encode_number : S → ℤ → List (Byte P)
  encode_number s v = map Number (arranged t.order (digits (t.metric.width s) (stored (t.metric.width s) v)))

  abbrev pub decode_number : S → List (Byte P) → Option ℤ
  decode_number s bs = option_map (λ ds. number (t.signed s) (t.metric.width s) (digits_value (arranged t.order ds))) (all_numbers bs)

  abbrev pub numbers : Representation S ℤ (Byte P)
  numbers = record { metric = t.metric; codec = record { encode = encode_number; decode = decode_number; blank = Unset }; same = t.same }

-- the numbers that a scalar may hold
abbrev pub Held : {S : Type 0} → ScalarTable S → S → ℤ → Type 0
Held t s v = IsTrue (t.holds s v)

-- The numbers in the fields of a word: what some of its bits hold, and the word with another number in them.
use Rattle.std.specs.Prelude.{◌≡◌, ℕ, ◌+◌, ◌^◌, ◌≤◌, ℤ, pos, ◌+ℤ◌, ◌-ℤ◌, ◌*ℤ◌, int_lt, [], get_or, false, if◌then◌else◌, Result, Ok, Err}
use Rattle.std.specs.Int.{int_div_euclid}
use Rattle.iv_words.specs.Bits.{modulo}
use Rattle.bit_data.specs.declared.layout.FieldBits.{FieldBits}
use Rattle.bit_data.specs.declared.layout.BitLayout.{BitLayout}
use Rattle.bit_data.specs.declared.fault.TooWide.{TooWide}

-- the number in so many bits from the bit `low` on
abbrev pub part : (low bits : ℕ) → ℤ → ℤ
part low bits v = modulo bits (int_div_euclid v (pos (2 ^ low)))

-- v with x in the place of that number
abbrev pub with_part : (low bits : ℕ) (v x : ℤ) → ℤ
with_part low bits v x = v -ℤ part low bits v *ℤ pos (2 ^ low) +ℤ x *ℤ pos (2 ^ low)

-- those bits of r hold x, and the bits below and above them hold what they hold in v
pub record HasPart (low bits : ℕ) (v x r : ℤ) : Type 0 where
  pub inside : part low bits r ≡ x
  pub below : (from some : ℕ) → from + some ≤ low → part from some r ≡ part from some v
  pub above : (from some : ℕ) → low + bits ≤ from → part from some r ≡ part from some v

-- ---- of a layout

-- the field of that number
abbrev pub field_at : BitLayout → ℕ → FieldBits
field_at layout field = get_or layout.fields field (record { name = []; low = 0; width = 0; truth = false })

abbrev pub field_of : BitLayout → ℕ → ℤ → ℤ
field_of layout field v = part (field_at layout field).low (field_at layout field).width v

-- the word v with x in a field, where the field has room for it
abbrev pub changed : BitLayout → ℕ → (v x : ℤ) → Result ℤ TooWide
changed layout field v x =
    if int_lt x (pos (2 ^ (field_at layout field).width)) then Ok (with_part (field_at layout field).low (field_at layout field).width v x)
    else Err (record { width = (field_at layout field).width; x = x })

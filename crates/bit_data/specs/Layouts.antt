-- Layouts of bit data: the fields stand one behind the other in an unsigned word and fill it, the first in its lowest bits.
use Rattle.std.specs.Prelude.{◌≡◌, ℕ, ◌+◌, List, [], ◌∷◌, ◌++◌, length, map, nat_eq, Bool, ◌&&◌, ◌||◌, not, if◌then◌else◌, IsTrue, Option, Some, None, Result, Ok, Err}
use Rattle.std.specs.List.{sum_by, list_any, list_all}
use Rattle.iv_words.specs.Kinds.{width, is_signed}
use Rattle.iv_words.specs.Words.{same_word}
use Rattle.iv_words.specs.declared.kind.IntKind.{IntKind}
use Rattle.bit_data.specs.declared.layout.FieldWish.{FieldWish}
use Rattle.bit_data.specs.declared.layout.FieldBits.{FieldBits}
use Rattle.bit_data.specs.declared.layout.BitLayout.{BitLayout}
use Rattle.bit_data.specs.declared.fault.LayoutFault.{LayoutFault}
use Rattle.bit_data.specs.declared.fault.LayoutFault.TheVariants.{WidthSum, TwiceNamed, EmptyField}

-- the number of bits of these fields
abbrev pub bits_of : List FieldWish → ℕ
bits_of wishes = sum_by (λ w. w.width) wishes

-- a field that is a truth has one bit
abbrev pub has_its_bit : FieldWish → Bool
has_its_bit w = not w.truth || nat_eq w.width 1

-- ---- faults

-- the word is unsigned, and the fields have as many bits as it has
abbrev pub is_filled : IntKind → List FieldWish → Bool
is_filled word wishes = not (is_signed word) && nat_eq (bits_of wishes) (width word)

-- one of these fields has the name
abbrev pub is_name_of : List FieldWish → List ℕ → Bool
is_name_of wishes name = list_any (λ w. same_word w.name name) wishes

-- the first fault in a row of fields that stands after other fields: a name that came before, or no bits
abbrev pub first_fault : (before row : List FieldWish) → Option LayoutFault
first_fault before [] = None
first_fault before (w ∷ more) =
    if is_name_of before w.name then Some (TwiceNamed (length before))
    else (if nat_eq w.width 0 then Some (EmptyField (length before)) else first_fault (before ++ w ∷ []) more)

-- ---- places

-- the field, from the bit `low` on
abbrev pub placed_at : (low : ℕ) → FieldWish → FieldBits
placed_at low w = record { name = w.name; low = low; width = w.width; truth = w.truth }

-- a row of fields, each behind the one before it
abbrev pub placed_from : (low : ℕ) → List FieldWish → List FieldBits
placed_from low [] = []
placed_from low (w ∷ more) = placed_at low w ∷ placed_from (low + w.width) more

-- ---- layouts

-- the layout of the fields, where they have no fault
abbrev pub faultless : Option LayoutFault → IntKind → List FieldWish → Result BitLayout LayoutFault
faultless (Some fault) word wishes = Err fault
faultless None word wishes = Ok (record { name = []; word = word; fields = placed_from 0 wishes })

-- the layout of the word for these fields, or why there is none
abbrev pub laid_out : IntKind → List FieldWish → Result BitLayout LayoutFault
laid_out word wishes = if is_filled word wishes then faultless (first_fault [] wishes) word wishes else Err WidthSum

-- what a field of a layout stands for
abbrev pub wish_of : FieldBits → FieldWish
wish_of f = record { name = f.name; width = f.width; truth = f.truth }

abbrev pub wishes_of : BitLayout → List FieldWish
wishes_of layout = map wish_of layout.fields

-- a layout, whatever its name is: what its fields stand for is laid out as they are
pub record IsLayout (layout : BitLayout) : Type 0 where
  pub truths : IsTrue (list_all has_its_bit (wishes_of layout))
  pub laid : laid_out layout.word (wishes_of layout) ≡ Ok (record layout { name = [] })

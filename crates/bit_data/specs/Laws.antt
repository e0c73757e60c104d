-- Laws of bit data.
use Rattle.std.specs.Prelude.{◌≡◌, ℕ, ◌+◌, ◌<◌, ◌≤◌, ℤ, pos, ◌≤ℤ◌, List, [], length, get_or, take, Some, None, true, false, IsTrue, Ok}
use Rattle.std.specs.List.{sum_by}
use Rattle.iv_words.specs.Kinds.{width, in_range_of, in_range}
use Rattle.bit_data.specs.Layouts.{is_name_of, first_fault, IsLayout}
use Rattle.bit_data.specs.Fields.{field_at, field_of, changed}
use Rattle.bit_data.specs.declared.layout.FieldWish.{FieldWish}
use Rattle.bit_data.specs.declared.layout.BitLayout.{BitLayout}
use Rattle.bit_data.specs.declared.fault.LayoutFault.{LayoutFault}
use Rattle.bit_data.specs.declared.fault.LayoutFault.TheVariants.{TwiceNamed, EmptyField}

-- ---- which fields are at fault

abbrev pub wish_at : List FieldWish → ℕ → FieldWish
wish_at wishes i = get_or wishes i (record { name = []; width = 0; truth = false })

-- no field before the field i has its name, and it has bits
pub record IsSound (wishes : List FieldWish) (i : ℕ) : Type 0 where
  pub named : is_name_of (take i wishes) (wish_at wishes i).name ≡ false
  pub some : 1 ≤ (wish_at wishes i).width

-- there is a field i, and all before it are sound
pub record IsReached (wishes : List FieldWish) (i : ℕ) : Type 0 where
  pub within : i < length wishes
  pub before : (j : ℕ) → j < i → IsSound wishes j

-- the first field that is not sound has the fault, and its name is tried before its bits
abbrev pub IsFirstFault : List FieldWish → LayoutFault → Type 0
IsFirstFault wishes (TwiceNamed i) = IsReached wishes i × (is_name_of (take i wishes) (wish_at wishes i).name ≡ true)
IsFirstFault wishes (EmptyField i) = IsReached wishes i × (is_name_of (take i wishes) (wish_at wishes i).name ≡ false) × ((wish_at wishes i).width ≡ 0)
IsFirstFault wishes _ = ⊥

abbrev pub FaultsAreFirst : Type 0
FaultsAreFirst = (wishes : List FieldWish) (fault : LayoutFault) → first_fault [] wishes ≡ Some fault → IsFirstFault wishes fault

abbrev pub FaultlessFieldsAreSound : Type 0
FaultlessFieldsAreSound = (wishes : List FieldWish) → first_fault [] wishes ≡ None → (i : ℕ) → i < length wishes → IsSound wishes i

-- ---- where fields stand

-- a field begins where the fields before it end
abbrev pub FieldsStandInARow : Type 0
FieldsStandInARow = (l : BitLayout) → IsLayout l → (i : ℕ) → i < length l.fields → (field_at l i).low ≡ sum_by (λ f. f.width) (take i l.fields)

-- a field has bits, all of them in the word, and one where it is a truth
pub record IsInWord (l : BitLayout) (i : ℕ) : Type 0 where
  pub some : 1 ≤ (field_at l i).width
  pub inside : (field_at l i).low + (field_at l i).width ≤ width l.word
  pub truth : (field_at l i).truth ≡ true → (field_at l i).width ≡ 1

abbrev pub FieldsAreInTheWord : Type 0
FieldsAreInTheWord = (l : BitLayout) → IsLayout l → (i : ℕ) → i < length l.fields → IsInWord l i

-- a field holds a number of its width
abbrev pub FieldsHoldNumbers : Type 0
FieldsHoldNumbers = (l : BitLayout) (i : ℕ) (v : ℤ) → IsTrue (in_range_of (field_at l i).width false (field_of l i v))

-- ---- a word v that was changed to r, by x in the field i

pub record IsChanged (l : BitLayout) (i : ℕ) (v x r : ℤ) : Type 0 where
  pub layout : IsLayout l
  pub field : i < length l.fields
  pub word : IsTrue (in_range l.word v)
  pub number : pos 0 ≤ℤ x
  pub result : changed l i v x ≡ Ok r

abbrev pub ChangedFieldsHold : Type 0
ChangedFieldsHold = (l : BitLayout) (i : ℕ) (v x r : ℤ) → IsChanged l i v x r → field_of l i r ≡ x

abbrev pub OtherFieldsStay : Type 0
OtherFieldsStay = (l : BitLayout) (i : ℕ) (v x r : ℤ) → IsChanged l i v x r → (j : ℕ) → j < length l.fields → (j ≡ i → ⊥) → field_of l j r ≡ field_of l j v

abbrev pub ChangedWordsFit : Type 0
ChangedWordsFit = (l : BitLayout) (i : ℕ) (v x r : ℤ) → IsChanged l i v x r → IsTrue (in_range l.word r)

-- Words of a layout: what a change of one field does.
use Rattle.std.proofs.Common.{◌≡◌, ◌⊎◌, inl, inr, ℕ, ◌+◌, ◌^◌, ◌<◌, ◌≤◌, ℤ, pos, negsuc, ◌≤ℤ◌, List, [], length, get_or, Bool, true, false, Ok, Err, IfOk, IsTrue, refl, subst, ap, ◌∙◌, arith}
use Rattle.std.specs.Prelude.{int_lt, if◌then◌else◌}
use Rattle.std.specs.Int.{int_div_euclid}
use Rattle.std.proofs.lemmas.Int.{ints}
use Rattle.std.proofs.lemmas.List.{get_or_read}
use Rattle.std.proofs.lemmas.Nat.{pow_pos}
use Rattle.std.proofs.lemmas.Bool.{cases_order}
use Rattle.iv_words.specs.Kinds.{width, in_range_of, in_range}
use Rattle.iv_words.proofs.Widths.{width_most, range_of_sign, in_range_by_sign}
use Rattle.iv_words.proofs.Modular.{modulo_in_range}
use Rattle.iv_words.proofs.Ranges.{wider}
use Rattle.bit_data.specs.declared.layout.FieldBits.{FieldBits}
use Rattle.bit_data.specs.declared.layout.BitLayout.{BitLayout}
use Rattle.bit_data.specs.declared.fault.TooWide.{TooWide}
use Rattle.bit_data.specs.Layouts.{wishes_of, IsLayout}
use Rattle.bit_data.specs.Fields.{with_part, field_at, field_of, changed, HasPart}
use Rattle.bit_data.specs.Laws.{IsChanged, FieldsStandInARow, FieldsAreInTheWord, FieldsHoldNumbers, ChangedFieldsHold, OtherFieldsStay, ChangedWordsFit}
use Rattle.bit_data.proofs.Parts.{with_has, with_fits}
use Rattle.bit_data.proofs.Placed.{stands, in_a_row, in_word, before_later}

pub word_range : (l : BitLayout) → IsLayout l → (v : ℤ) → IsTrue (in_range l.word v) → IsTrue (in_range_of (width l.word) false v)
word_range l h v k = range_of_sign l.word false (stands l (wishes_of l) h.laid).filled.unsigned v k

-- the field that the code reads
pub read_is : (l : BitLayout) (fields : List FieldBits) (i : ℕ) (f : FieldBits) → fields ≡ l.fields → i < length l.fields → f ≡ get_or fields i f → f ≡ field_at l i
read_is l fields i f e k r =
    let none : FieldBits = record { name = []; low = 0; width = 0; truth = false } in
    get_or_read fields i f (omega (arith, ap length e)) r none ∙ ap (λ fs. get_or fs i none) e

-- a word has at most 64 bits
pub word_64 : (l : BitLayout) → IsLayout l → (v : ℤ) → IsTrue (in_range l.word v) → IsTrue (in_range_of 64 false v)
word_64 l h v k = wider (width l.word) 64 false v (width_most l.word) (word_range l h v k)

pub place_64 : (l : BitLayout) → IsLayout l → (i : ℕ) → i < length l.fields → (field_at l i).low + (field_at l i).width ≤ 64
place_64 l h i k = let e = (in_word l h i k).inside in omega (arith, width_most l.word)

pub width_64 : (l : BitLayout) → IsLayout l → (i : ℕ) → i < length l.fields → (field_at l i).width ≤ 64
width_64 l h i k = let e = place_64 l h i k in omega arith

-- a number from 0 that is below 2 to the width
pub is_number : (bits : ℕ) (x : ℤ) → pos 0 ≤ℤ x → int_lt x (pos (2 ^ bits)) ≡ true → IsTrue (in_range_of bits false x)
is_number bits (pos x) z h = let p = pow_pos bits in grind (arith, ints)
is_number bits (negsuc x) z h = absurd (omega (arith, ints))

pub change_has : (l : BitLayout) → IsLayout l → (i : ℕ) → i < length l.fields → (v x : ℤ) → IsTrue (in_range l.word v) → IsTrue (in_range_of (field_at l i).width false x)
    → HasPart (field_at l i).low (field_at l i).width v x (with_part (field_at l i).low (field_at l i).width v x)
change_has l h i k v x held number = with_has (width l.word) (field_at l i).low (field_at l i).width v x (word_range l h v held) number

pub change_fits : (l : BitLayout) → IsLayout l → (i : ℕ) → i < length l.fields → (v x : ℤ) → IsTrue (in_range l.word v) → IsTrue (in_range_of (field_at l i).width false x)
    → IsTrue (in_range l.word (with_part (field_at l i).low (field_at l i).width v x))
change_fits l h i k v x held number =
    in_range_by_sign l.word false (stands l (wishes_of l) h.laid).filled.unsigned (with_part (field_at l i).low (field_at l i).width v x)
    (with_fits (width l.word) (field_at l i).low (field_at l i).width v x (in_word l h i k).inside (word_range l h v held) number)

-- what a change answers, where it answers a word
module _ (l : BitLayout) (h : IsLayout l) (i : ℕ) (k : i < length l.fields) (v x : ℤ) (held : IsTrue (in_range l.word v)) (zero : pos 0 ≤ℤ x) where
  answered : (P : ℤ → Type 0) → (IsTrue (in_range_of (field_at l i).width false x) → P (with_part (field_at l i).low (field_at l i).width v x)) → IfOk (changed l i v x) P
  answered P p = go (int_lt x (pos (2 ^ (field_at l i).width))) refl
    where
      go : (b : Bool) → int_lt x (pos (2 ^ (field_at l i).width)) ≡ b
          → IfOk (if b then Ok (with_part (field_at l i).low (field_at l i).width v x) else Err (let why : TooWide = record { width = (field_at l i).width; x = x } in why)) P
      go true small = p (is_number (field_at l i).width x zero small)
      go false small = tt

  pub changed_has : IfOk (changed l i v x) (HasPart (field_at l i).low (field_at l i).width v x)
  changed_has = answered (HasPart (field_at l i).low (field_at l i).width v x) (λ number. change_has l h i k v x held number)

  pub changed_in_range : IfOk (changed l i v x) (λ r. IsTrue (in_range l.word r))
  changed_in_range = answered (λ r. IsTrue (in_range l.word r)) (λ number. change_fits l h i k v x held number)

-- ---- the laws

has : (l : BitLayout) (i : ℕ) (v x r : ℤ) → IsChanged l i v x r → HasPart (field_at l i).low (field_at l i).width v x r
has l i v x r c = subst (λ o. IfOk o (HasPart (field_at l i).low (field_at l i).width v x)) c.result (changed_has l c.layout i c.field v x c.word c.number)

pub fields_in_a_row : FieldsStandInARow
fields_in_a_row = λ l h i k. in_a_row l h i k

pub fields_in_the_word : FieldsAreInTheWord
fields_in_the_word = λ l h i k. in_word l h i k

pub fields_hold_numbers : FieldsHoldNumbers
fields_hold_numbers = λ l i v. modulo_in_range (field_at l i).width (int_div_euclid v (pos (2 ^ (field_at l i).low)))

pub changed_field : ChangedFieldsHold
changed_field = λ l i v x r c. (has l i v x r c).inside

apart : (i j : ℕ) → (i ≡ j → ⊥) → (i < j) ⊎ (j < i)
apart i j n = go (cases_order i j)
  where
    go : (i ≡ j) ⊎ ((i < j) ⊎ (j < i)) → (i < j) ⊎ (j < i)
    go (inl same) = absurd (n same)
    go (inr order) = order

other : (l : BitLayout) (i : ℕ) (v x r : ℤ) → IsChanged l i v x r → (j : ℕ) → j < length l.fields → (j < i) ⊎ (i < j) → field_of l j r ≡ field_of l j v
other l i v x r c j k (inl less) = (has l i v x r c).below (field_at l j).low (field_at l j).width (before_later l c.layout j i less c.field)
other l i v x r c j k (inr less) = (has l i v x r c).above (field_at l j).low (field_at l j).width (before_later l c.layout i j less k)

pub other_fields : OtherFieldsStay
other_fields = λ l i v x r c j k n. other l i v x r c j k (apart j i n)

pub changed_fits : ChangedWordsFit
changed_fits = λ l i v x r c. subst (λ o. IfOk o (λ z. IsTrue (in_range l.word z))) c.result (changed_in_range l c.layout i c.field v x c.word c.number)

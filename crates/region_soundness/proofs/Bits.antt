-- Bit data: each has the word of its layout, and what its fields hold and take are numbers of their types.
use Rattle.std.proofs.Common.{◌≡◌, ℕ, ◌^◌, ◌<◌, ◌≤◌, ℤ, pos, ◌≤ℤ◌, Bool, true, false, ◌&&◌, ◌||◌, if◌then◌else◌, [], length, slice_get, Option, Some, None, Ok, Err, option_map, option_and_then, IsTrue, nat_eq, arith, refl, sym, subst, ap, ◌∙◌}
use Rattle.std.specs.Prelude.{int_le, int_lt, nat_le}
use Rattle.std.proofs.lemmas.Int.{ints}
use Rattle.std.proofs.lemmas.Nat.{pow_pos}
use Rattle.std.proofs.lemmas.Bool.{and_parts}
use Rattle.std.proofs.lemmas.Bool.Decides.{nat_tests}
use Rattle.std.proofs.lemmas.Option.{slice_get-map, slice_get_within, get_or_from_slice_get}
use Rattle.std.proofs.lemmas.List.Elements.{All-get_or}
use Rattle.iv_words.specs.declared.IntKind.TheVariants.{U8, U16, U32, U64}
use Rattle.iv_words.specs.Kinds.{width, is_signed, in_range_of, in_range}
use Rattle.iv_words.proofs.Widths.{range_of_sign, in_range_by_sign}
use Rattle.iv_words.proofs.Ranges.{wider}
use Rattle.bit_data.specs.declared.BitLayout.{BitLayout}
use Rattle.bit_data.specs.declared.FieldBits.{FieldBits}
use Rattle.bit_data.specs.declared.TooWide.{TooWide}
use Rattle.bit_data.specs.Layouts.{IsLayout}
use Rattle.bit_data.specs.Fields.{with_part, field_at, field_of, changed}
use Rattle.bit_data.proofs.Placed.{in_word}
use Rattle.bit_data.proofs.Words.{width_64, is_number, change_fits, fields_hold_numbers}
use Rattle.area_types.specs.Syntax.{ValueType, Truth, Int, Bits}
use Rattle.area_types.specs.Tables.{Table}
use Rattle.area_types.proofs.Truths.{is_at_most}
use Rattle.source_types.specs.Values.{least_unsigned}
use Rattle.core_tree.specs.declared.SiteKind.TheVariants.{Cast}
use Rattle.core_tree.specs.Syntax.{Label, ModuleCore}
use Rattle.core_tree.specs.Environments.{Env, bit_field}
use Rattle.core_tree.specs.Operators.{field_type, set_sites}
use Rattle.core_tree.specs.Types.{is_word, is_value}
use Rattle.core_tree.specs.TypedExpressions.{Checked, IsWordOf, SetFieldTyped, BitFieldTyped}
use Rattle.core_tree.specs.Valid.{ValidCore}
use Rattle.core_meaning.specs.Checks.{Answer}
use Rattle.core_meaning.specs.Answers.{layout_of, changing, field_set}
use Rattle.region_soundness.proofs.Answered.{Answered, AnswersOne, AnswersTwo, number, guarded}

-- ---- words

-- bit data are what their layout's word is
word_there : (core : ModuleCore) → ValidCore core → (number : ℕ) (layout : BitLayout) → slice_get core.layouts number ≡ Some layout → slice_get core.structs.words number ≡ Some layout.word
word_there core valid number layout e =
    ap (λ words. slice_get words number) (sym valid.words) ∙ slice_get-map (λ (x : BitLayout). x.word) core.layouts number ∙ ap (option_map (λ (x : BitLayout). x.word)) e

module _ (core : ModuleCore) (valid : ValidCore core) (number : ℕ) (layout : BitLayout) (there : slice_get core.layouts number ≡ Some layout) where
  from_word : (v : ℤ) → IsTrue (in_range layout.word v) → IsTrue (is_value core.structs (Bits number) v)
  from_word v h = ap (λ word. is_word word v) (word_there core valid number layout there) ∙ h

  to_word : (v : ℤ) → IsTrue (is_value core.structs (Bits number) v) → IsTrue (in_range layout.word v)
  to_word v h = sym (ap (λ word. is_word word v) (word_there core valid number layout there)) ∙ h

  is_layout : IsLayout layout
  is_layout = subst IsLayout (get_or_from_slice_get core.layouts number layout layout there) (All-get_or IsLayout core.layouts number layout (slice_get_within core.layouts number layout there) valid.layouts)

-- a value of one type is one of another, where the types are these
moved : (table : Table) (a b c d : ValueType) (v : ℤ) → a ≡ b → c ≡ d → (IsTrue (is_value table b v) → IsTrue (is_value table d v)) → IsTrue (is_value table a v) → IsTrue (is_value table c v)
moved table a b c d v e f g h = subst (λ t. IsTrue (is_value table t v)) (sym f) (g (subst (λ t. IsTrue (is_value table t v)) e h))

pub make_bits_answers : (env : Env) → ValidCore env.core → (l : Label) (from : ValueType) → IsWordOf env l.ty from → l.checks ≡ [] → AnswersOne env.core.structs from l (Some Ok)
make_bits_answers env valid l from t unchecked = record {
  answer = Ok;
  has = refl;
  each = λ v h. number env.core.structs l v (moved env.core.structs from (Int t.layout.word) l.ty (Bits t.number) v t.word_is t.bits_are (from_word env.core valid t.number t.layout t.found v) h);
}

pub raw_answers : (env : Env) → ValidCore env.core → (l : Label) (from : ValueType) → IsWordOf env from l.ty → l.checks ≡ [] → AnswersOne env.core.structs from l (Some Ok)
raw_answers env valid l from t unchecked = record {
  answer = Ok;
  has = refl;
  each = λ v h. number env.core.structs l v (moved env.core.structs from (Bits t.number) l.ty (Int t.layout.word) v t.bits_are t.word_is (to_word env.core valid t.number t.layout t.found v) h);
}

-- ---- the types of fields

-- the least unsigned kind, by the tests that choose it
unsigned_by : (a b c : Bool) → is_signed (if a then U8 else (if b then U16 else (if c then U32 else U64))) ≡ false
unsigned_by true b c = refl
unsigned_by false true c = refl
unsigned_by false false true = refl
unsigned_by false false false = refl

is_unsigned : (bits : ℕ) → is_signed (least_unsigned bits) ≡ false
is_unsigned bits = unsigned_by (nat_le bits 8) (nat_le bits 16) (nat_le bits 32)

wide_by : (bits : ℕ) (a b c : Bool) → nat_le bits 8 ≡ a → nat_le bits 16 ≡ b → nat_le bits 32 ≡ c → bits ≤ 64 → bits ≤ width (if a then U8 else (if b then U16 else (if c then U32 else U64)))
wide_by bits true b c e f g most = is_at_most bits 8 e
wide_by bits false true c e f g most = is_at_most bits 16 f
wide_by bits false false true e f g most = is_at_most bits 32 g
wide_by bits false false false e f g most = most

is_wide : (bits : ℕ) → bits ≤ 64 → bits ≤ width (least_unsigned bits)
is_wide bits most = wide_by bits (nat_le bits 8) (nat_le bits 16) (nat_le bits 32) refl refl refl most

-- the numbers of a field's type, by whether it is a truth
abbrev of_field : Bool → ℕ → ValueType
of_field truth bits = if truth then Truth else Int (least_unsigned bits)

unsigned_number : (bits : ℕ) (x : ℤ) → IsTrue (in_range (least_unsigned bits) x) → IsTrue (in_range_of (width (least_unsigned bits)) false x)
unsigned_number bits x h = range_of_sign (least_unsigned bits) false (is_unsigned bits) x h

not_below : (bits : ℕ) (x : ℤ) → IsTrue (in_range_of bits false x) → pos 0 ≤ℤ x
not_below bits x h = grind (arith, ints)

truth_not_below : (x : ℤ) → IsTrue (int_le (pos 0) x && int_lt x (pos 2)) → pos 0 ≤ℤ x
truth_not_below x h = grind (arith, ints)

from_zero : (table : Table) (truth : Bool) (bits : ℕ) (x : ℤ) → IsTrue (is_value table (of_field truth bits) x) → pos 0 ≤ℤ x
from_zero table true bits x h = truth_not_below x h
from_zero table false bits x h = not_below (width (least_unsigned bits)) x (unsigned_number bits x h)

under : (bits : ℕ) (x : ℤ) → IsTrue (in_range_of bits false x) → int_lt x (pos (2 ^ bits)) ≡ true
under bits x h = let p = pow_pos bits in grind (arith, ints)

same_number : (m n : ℕ) → nat_eq m n ≡ true → n ≡ m
same_number m n h = grind (arith, nat_tests)

-- where the field has room for each value of its type
sure_room : (table : Table) (truth : Bool) (bits : ℕ) (x : ℤ) → (truth ≡ true → bits ≡ 1) → IsTrue (is_value table (of_field truth bits) x)
    → (truth || nat_eq bits (width (least_unsigned bits))) ≡ true → int_lt x (pos (2 ^ bits)) ≡ true
sure_room table true bits x one h sure = subst (λ n. int_lt x (pos (2 ^ n)) ≡ true) (sym (one refl)) (and_parts (int_le (pos 0) x) (int_lt x (pos 2)) h).1
sure_room table false bits x one h sure = under bits x (subst (λ n. IsTrue (in_range_of n false x)) (same_number bits (width (least_unsigned bits)) sure) (unsigned_number bits x h))

truth_of_bit : (v : ℤ) → IsTrue (in_range_of 1 false v) → IsTrue (int_le (pos 0) v && int_lt v (pos 2))
truth_of_bit v h = grind (arith, ints)

-- a number of so many bits is a value of the field's type
field_holds : (table : Table) (truth : Bool) (bits : ℕ) (v : ℤ) → (truth ≡ true → bits ≡ 1) → bits ≤ 64 → IsTrue (in_range_of bits false v) → IsTrue (is_value table (of_field truth bits) v)
field_holds table true bits v one most h = truth_of_bit v (subst (λ n. IsTrue (in_range_of n false v)) (one refl) h)
field_holds table false bits v one most h =
    in_range_by_sign (least_unsigned bits) false (is_unsigned bits) v (wider bits (width (least_unsigned bits)) false v (is_wide bits most) h)

-- ---- the field of that number

record FieldThere (core : ModuleCore) (number field : ℕ) (bits : FieldBits) : Type 0 where
  layout : BitLayout
  there : slice_get core.layouts number ≡ Some layout
  place : slice_get layout.fields field ≡ Some bits

field_there : (core : ModuleCore) (number field : ℕ) (bits : FieldBits) → bit_field core number field ≡ Some bits → FieldThere core number field bits
field_there core number field bits e = go (slice_get core.layouts number) refl e
  where
    go : (o : Option BitLayout) → slice_get core.layouts number ≡ o → option_and_then (λ (x : BitLayout). slice_get x.fields field) o ≡ Some bits → FieldThere core number field bits
    go None h f = let no : ⊥ = cc in absurd no
    go (Some layout) h f = record { layout = layout; there = h; place = f }

is_field : (layout : BitLayout) (field : ℕ) (bits : FieldBits) → slice_get layout.fields field ≡ Some bits → field_at layout field ≡ bits
is_field layout field bits e = get_or_from_slice_get layout.fields field bits (record { name = []; low = 0; width = 0; truth = false }) e

-- ---- reading

pub record FieldRead (core : ModuleCore) (l : Label) (from : ValueType) (field : ℕ) (word : ℤ) : Type 0 where
  pub layout : BitLayout
  pub has : layout_of core from ≡ Some layout
  pub fits : IsTrue (is_value core.structs l.ty (field_of layout field word))

pub bit_field_fits : (env : Env) → ValidCore env.core → (l : Label) (from : ValueType) (field : ℕ) → BitFieldTyped env l from field
    → (word : ℤ) → IsTrue (is_value env.core.structs from word) → FieldRead env.core l from field word
bit_field_fits env valid l from field t word h =
    let core = env.core in
    let f = field_there core t.number field t.bits t.found in
    let laid = is_layout core valid t.number f.layout f.there in
    let within = slice_get_within f.layout.fields field t.bits f.place in
    let at = field_at f.layout field in
    let type : l.ty ≡ field_type at = t.type ∙ ap field_type (sym (is_field f.layout field t.bits f.place)) in
    record {
      layout = f.layout;
      has = ap (layout_of core) t.operand ∙ f.there;
      fits = subst (λ ty. IsTrue (is_value core.structs ty (field_of f.layout field word))) (sym type)
          (field_holds core.structs at.truth at.width (field_of f.layout field word) (in_word f.layout laid field within).truth (width_64 f.layout laid field within) (fields_hold_numbers f.layout field word));
    }

-- ---- writing

changing_is : (test : Bool) (v : ℤ) (too_wide : TooWide) → changing (if test then Ok v else Err too_wide) ≡ (if test then Ok v else Err Cast)
changing_is true v too_wide = refl
changing_is false v too_wide = refl

-- the word with another number in a field
module _ (core : ModuleCore) (valid : ValidCore core) (l : Label) (number : ℕ) (layout : BitLayout) (there : slice_get core.layouts number ≡ Some layout) (type : l.ty ≡ Bits number) (field : ℕ) (within : field < length layout.fields) where
  set_answered : Checked l.checks (set_sites (field_at layout field)) → (word x : ℤ) → IsTrue (is_value core.structs (Bits number) word) → IsTrue (is_value core.structs (field_type (field_at layout field)) x)
      → Answered core.structs l (changing (changed layout field word x))
  set_answered c word x h k =
      let at = field_at layout field in
      let laid = is_layout core valid number layout there in
      let held = to_word core valid number layout there word h in
      let room = int_lt x (pos (2 ^ at.width)) in
      let made = with_part at.low at.width word x in
      let fits : room ≡ true → IsTrue (is_value core.structs l.ty made) = λ small.
      subst (λ ty. IsTrue (is_value core.structs ty made)) (sym type)
      (from_word core valid number layout there made (change_fits layout laid field within word x held (is_number at.width x (from_zero core.structs at.truth at.width x k) small))) in
      subst (Answered core.structs l) (sym (changing_is room made (record { width = at.width; x = x })))
      (guarded core.structs l room (at.truth || nat_eq at.width (width (least_unsigned at.width))) made Cast c (sure_room core.structs at.truth at.width x (in_word layout laid field within).truth k) fits)

pub set_field_answers : (env : Env) → ValidCore env.core → (l : Label) (from : ValueType) (field : ℕ) (value : ValueType) → SetFieldTyped env l from field value
    → AnswersTwo env.core.structs from value l (field_set env.core from field)
set_field_answers env valid l from field value t =
    let core = env.core in
    let f = field_there core t.number field t.bits t.found in
    let within = slice_get_within f.layout.fields field t.bits f.place in
    let same = sym (is_field f.layout field t.bits f.place) in
    let answer : BitLayout → ℤ → ℤ → Answer = λ layout word x. changing (changed layout field word x) in
    record {
      answer = answer f.layout;
      has = ap (option_map answer) (ap (layout_of core) t.operand ∙ f.there);
      each = λ word x h k. set_answered core valid l t.number f.layout f.there (t.type ∙ t.operand) field within
          (subst (λ b. Checked l.checks (set_sites b)) same t.checked) word x
          (subst (λ ty. IsTrue (is_value core.structs ty word)) t.operand h)
          (subst (λ ty. IsTrue (is_value core.structs ty x)) (t.value_is ∙ ap field_type same) k);
    }

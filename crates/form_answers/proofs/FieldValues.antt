-- A field of bit data: its bits, moved down and taken from the word.
use Rattle.std.proofs.Common.{◌≡◌, ℕ, ◌+◌, ◌/◌, ◌%◌, ◌^◌, ◌<◌, ◌≤◌, ℤ, pos, negsuc, [], Bool, true, false, Ok, arith, refl, sym, subst, ap, ◌∙◌}
use Rattle.std.specs.Prelude.{if◌then◌else◌, nat_eq, bit_and}
use Rattle.std.proofs.lemmas.Nat.{pow_pos, and_le_l, and_mask}
use Rattle.std.proofs.lemmas.Option.{slice_get_within, get_or_from_slice_get}
use Rattle.std.proofs.Math.Nat.{div-one}
use Rattle.iv_words.specs.Kinds.{width, is_signed}
use Rattle.iv_words.specs.declared.IntKind.{IntKind}
use Rattle.iv_words.proofs.Ranges.{powers_grow}
use Rattle.iv_words.proofs.Widths.{width_most, range_of_sign}
use Rattle.bit_data.specs.declared.BitLayout.{BitLayout}
use Rattle.bit_data.specs.declared.FieldBits.{FieldBits}
use Rattle.bit_data.specs.Fields.{field_at, field_of, part}
use Rattle.bit_data.specs.Layouts.{wishes_of}
use Rattle.bit_data.proofs.Placed.{stands, in_word}
use Rattle.c_ast.specs.declared.CBinary.TheVariants.{And, Shr}
use Rattle.c_ast.specs.declared.Suffix.TheVariants.{Plain}
use Rattle.c_ast.specs.Syntax.{Expr, Number, Binary}
use Rattle.c_ast.specs.Targets.{table_of}
use Rattle.c_meaning.specs.Values.{Num}
use Rattle.c_meaning.specs.State.{Program, CState}
use Rattle.overflow_checks.specs.Parts.{operand_of}
use Rattle.overflow_checks.proofs.Tables.{CTable, table_of_target}
use Rattle.overflow_checks.proofs.Numbers.{below}
use Rattle.lower_values.specs.Conversions.{mask, unsigned, shifted_down}
use Rattle.lower_values.specs.Conversions as lowered
use Rattle.form_answers.specs.FormLaws.{FieldIs, Operand, FieldsAnswer}
use Rattle.form_answers.specs.Standing.{IsNumber}
use Rattle.form_answers.proofs.OperandValues.{operand_given}
use Rattle.form_answers.proofs.Naturals.{IsWord, unsigned_held, given_word, bits_give, right_shift_gives}

-- ---- where the field is

-- the layout has the field, in a word without sign
pub record IsInWord (layout : BitLayout) (field : ℕ) (bits : FieldBits) : Type 0 where
  pub is : field_at layout field ≡ bits
  pub unsigned_one : is_signed layout.word ≡ false
  pub some : 1 ≤ bits.width
  pub inside : bits.low + bits.width ≤ width layout.word
  pub truth : bits.truth ≡ true → bits.width ≡ 1

pub field_in_word : (layout : BitLayout) (field : ℕ) (bits : FieldBits) → FieldIs layout field bits → IsInWord layout field bits
field_in_word layout field bits f =
    let there = slice_get_within layout.fields field bits f.there in
    let same : field_at layout field ≡ bits = get_or_from_slice_get layout.fields field bits (record { name = []; low = 0; width = 0; truth = false }) f.there in
    let i = in_word layout f.laid field there in
    record {
      is = same;
      unsigned_one = (stands layout (wishes_of layout) f.laid.laid).filled.unsigned;
      some = subst (λ (b : FieldBits). 1 ≤ b.width) same i.some;
      inside = subst (λ (b : FieldBits). b.low + b.width ≤ width layout.word) same i.inside;
      truth = subst (λ (b : FieldBits). b.truth ≡ true → b.width ≡ 1) same i.truth;
    }

-- a mask of no more bits than a word has
pub mask_few : (bits : ℕ) → bits ≤ 64 → mask bits < 2 ^ 64
mask_few bits le = let g = powers_grow bits 64 le in let some = pow_pos bits in omega arith

module _ (p : Program) (u : CState) (table : CTable (table_of p.target)) where
  -- an operand of an unsigned kind
  pub word_of : (kind : IntKind) (e : Expr) (n : ℕ) → is_signed kind ≡ false → Operand p u kind e (pos n) → IsWord p u table (width kind) (operand_of (width kind) (is_signed kind) e) n
  word_of kind e n unsigned_one o =
      given_word p u table kind (operand_of (width kind) (is_signed kind) e) n unsigned_one (below (width kind) n (range_of_sign kind false unsigned_one (pos n) o.is_in)) (operand_given p u kind e (pos n) o).gives

  module _ (word : IntKind) (e : Expr) (n low : ℕ) (w : IsWord p u table (width word) e n) (l : low < width word) where
    shifted_by : (test : Bool) → nat_eq low 0 ≡ test → IsWord p u table (width word) (if test then e else Binary Shr e (Number low Plain)) (n / 2 ^ low)
    shifted_by true none =
        let is : low ≡ 0 = grind arith in
        let same : n ≡ n / 2 ^ low = sym (ap (λ k. n / 2 ^ k) is ∙ div-one n) in
        subst (IsWord p u table (width word) e) same w
    shifted_by false some = right_shift_gives p u table (width word) e n low w l (let most = width_most word in omega arith)

    shifted : IsWord p u table (width word) (shifted_down low e) (n / 2 ^ low)
    shifted = shifted_by (nat_eq low 0) refl

    field_gives : (bits : ℕ) → bits ≤ 64 → IsWord p u table (width word) (Binary And (shifted_down low e) (unsigned (mask bits))) (n / 2 ^ low % 2 ^ bits)
    field_gives bits few =
        let moved = n / 2 ^ low in
        let le = and_le_l moved (mask bits) in
        let s = shifted in
        let l = s.small in
        subst (IsWord p u table (width word) (Binary And (shifted_down low e) (unsigned (mask bits)))) (and_mask moved bits)
        (bits_give p u table And bit_and (λ v w. refl) (width word) (shifted_down low e) (unsigned (mask bits)) moved (mask bits) s (unsigned_held p u table (mask bits) (mask_few bits few)) (omega arith))

fields_by : (p : Program) (u : CState) (layout : BitLayout) (field : ℕ) (bits : FieldBits) (e : Expr) (x : ℤ) → IsInWord layout field bits → Operand p u layout.word e x
    → IsNumber p u (lowered.field_of bits (operand_of (width layout.word) (is_signed layout.word) e)) (field_of layout field x)
fields_by p u layout field bits e (pos n) i o =
    let table = table_of_target p.target in
    let v = operand_of (width layout.word) (is_signed layout.word) e in
    let some = i.some in
    let inside = i.inside in
    let most = width_most layout.word in
    let g = field_gives p u table layout.word v n bits.low (word_of p u table layout.word e n i.unsigned_one o) (omega arith) bits.width (omega arith) in
    let is : part bits.low bits.width (pos n) ≡ field_of layout field (pos n) = ap (λ (b : FieldBits). part b.low b.width (pos n)) (sym i.is) in
    (g.kind, g.gives ∙ ap (λ k. Ok (Num g.kind k)) is)
fields_by p u layout field bits e (negsuc n) i o = let h = range_of_sign layout.word false i.unsigned_one (negsuc n) o.is_in in let no : ⊥ = cc in absurd no

pub fields_answer : FieldsAnswer
fields_answer p u layout field bits e x f o = fields_by p u layout field bits e x (field_in_word layout field bits f) o

-- The check of `set`: the number for the field is from 0 on and its C type has it, and the guard tests that the field has room for it.
use Rattle.std.proofs.Common.{◌≡◌, ℕ, ◌^◌, ◌≤◌, ℤ, pos, List, [], ◌∷◌, Bool, true, false, IsTrue, Result, Ok, Err, arith, refl, sym, subst, ap, ◌∙◌}
use Rattle.std.specs.Prelude.{◌||◌, if◌then◌else◌, nat_eq, nat_le, int_le, int_lt, IsSome}
use Rattle.std.proofs.lemmas.Int.{ints}
use Rattle.std.proofs.lemmas.Nat.{pow_pos}
use Rattle.iv_words.specs.Kinds.{is_signed, width}
use Rattle.iv_words.specs.declared.IntKind.{IntKind}
use Rattle.iv_words.specs.declared.IntKind.TheVariants.{U8, U16, U32, U64}
use Rattle.iv_words.proofs.Widths.{range_of_sign, width_most}
use Rattle.bit_data.specs.declared.BitLayout.{BitLayout}
use Rattle.bit_data.specs.declared.FieldBits.{FieldBits}
use Rattle.bit_data.specs.declared.TooWide.{TooWide}
use Rattle.bit_data.specs.Fields.{field_at, changed, with_part}
use Rattle.area_types.specs.Syntax.{ValueType, Truth, Int}
use Rattle.area_types.specs.Tables.{Table}
use Rattle.source_types.specs.Values.{least_unsigned}
use Rattle.core_tree.specs.Operators.{field_type, set_sites, unless}
use Rattle.core_tree.specs.Types.{is_value}
use Rattle.core_tree.specs.declared.Check.{Check}
use Rattle.core_tree.specs.declared.SiteKind.{SiteKind}
use Rattle.core_tree.specs.declared.SiteKind.TheVariants.{Cast}
use Rattle.core_meaning.specs.Answers.{changing}
use Rattle.core_meaning.specs.Checks.{Answer, holds}
use Rattle.c_ast.specs.declared.CBinary.TheVariants.{Le}
use Rattle.c_ast.specs.declared.CScalar.{CScalar}
use Rattle.c_ast.specs.declared.CKind.TheVariants.{Scalar}
use Rattle.c_ast.specs.Syntax.{Expr, Number, Read, Address, Unary, Binary, Cond}
use Rattle.c_ast.specs.Syntax as c
use Rattle.c_ast.specs.Targets.{TargetTable, table_of}
use Rattle.c_ast.specs.Conversions.{can_hold, constant_type}
use Rattle.c_meaning.specs.Values.{Trouble, is_true, on_ok}
use Rattle.c_meaning.specs.Operators.{truth}
use Rattle.c_meaning.specs.State.{Program, CState}
use Rattle.lower_types.specs.Types.{TypeTable, scalar_for}
use Rattle.lower_values.specs.Conversions.{mask, unsigned, set_guard, set_settled}
use Rattle.overflow_checks.proofs.Tables.{CTable, table_of_target}
use Rattle.overflow_checks.proofs.Numbers.{same_test, from_zero}
use Rattle.overflow_checks.proofs.Rows.{Tests}
use Rattle.form_answers.specs.Answering.{GuardTells, GuardsTell}
use Rattle.form_answers.specs.FormLaws.{AreFor}
use Rattle.form_answers.specs.Standing.{ExactlyIs, TestIs}
use Rattle.form_answers.proofs.OperandValues.{IsHeld, exact_held}
use Rattle.form_answers.proofs.Naturals.{unsigned_held, natural_tests}
use Rattle.form_answers.proofs.FieldValues.{IsInWord, mask_few}

-- ---- numbers of a field's type

-- a truth or a number of a kind
abbrev truth_or : Bool → IntKind → ValueType
truth_or is_truth kind = if is_truth then Truth else Int kind

value_held : (t : TargetTable) (structs : Table) (table : TypeTable) (is_truth : Bool) (kind : IntKind) (n : ℤ) → IsTrue (is_value structs (truth_or is_truth kind) n)
    → IsTrue (can_hold t (Scalar (scalar_for table (truth_or is_truth kind))) n)
value_held t structs table true kind n h = grind (arith, ints)
value_held t structs table false kind n h = h

value_from_zero : (structs : Table) (is_truth : Bool) (kind : IntKind) → is_signed kind ≡ false → (n : ℤ) → IsTrue (is_value structs (truth_or is_truth kind) n) → IsTrue (int_le (pos 0) n)
value_from_zero structs true kind is n h = grind (arith, ints)
value_from_zero structs false kind is n h = from_zero (width kind) n (range_of_sign kind false is n h)

has_no_sign : (a b c : Bool) → is_signed (if a then U8 else (if b then U16 else (if c then U32 else U64))) ≡ false
has_no_sign true b c = refl
has_no_sign false true c = refl
has_no_sign false false true = refl
has_no_sign false false false = refl

least_has_no_sign : (bits : ℕ) → is_signed (least_unsigned bits) ≡ false
least_has_no_sign bits = has_no_sign (nat_le bits 8) (nat_le bits 16) (nat_le bits 32)

pub field_from_zero : (structs : Table) (bits : FieldBits) (n : ℤ) → IsTrue (is_value structs (field_type bits) n) → IsTrue (int_le (pos 0) n)
field_from_zero structs bits n h = value_from_zero structs bits.truth (least_unsigned bits.width) (least_has_no_sign bits.width) n h

-- ---- the answer

abbrev pub has_room : ℤ → ℕ → Bool
has_room n bits = int_lt n (pos (2 ^ bits))

holds_by : (fits : Bool) (v : ℤ) (why : TooWide) → holds (changing (if fits then Ok v else Err why)) Cast ≡ fits
holds_by true v why = refl
holds_by false v why = refl

holds_where_room : (layout : BitLayout) (field : ℕ) (x n : ℤ) → holds (changing (changed layout field x n)) Cast ≡ has_room n (field_at layout field).width
holds_where_room layout field x n =
    holds_by (has_room n (field_at layout field).width) (with_part (field_at layout field).low (field_at layout field).width x n) (record { width = (field_at layout field).width; x = n })

-- a number is at most the mask where the field has room for it
mask_is_last : (m bits : ℕ) → int_le (pos m) (pos (mask bits)) ≡ has_room (pos m) bits
mask_is_last m bits = let some = pow_pos bits in same_test (int_le (pos m) (pos (mask bits))) (has_room (pos m) bits) (λ le. grind (arith, ints)) (λ l. grind (arith, ints))

pub mask_has : (m bits : ℕ) → nat_le m (mask bits) ≡ has_room (pos m) bits
mask_has m bits = let some = pow_pos bits in same_test (nat_le m (mask bits)) (has_room (pos m) bits) (λ le. grind (arith, ints)) (λ l. grind (arith, ints))

truth_is_true : (test : Bool) → is_true (truth test) ≡ Ok test
truth_is_true true = refl
truth_is_true false = refl

-- ---- the guard

module _ (p : Program) (u : CState) where
  as_test : (e : Expr) (test : Bool) → Tests p u e test → TestIs p u e test
  as_test e test h = ap (λ r. let q : Result Bool Trouble = on_ok r is_true in q) h ∙ truth_is_true test

  pub value_is : (structs : Table) (table : TypeTable) (bits : FieldBits) (e : Expr) (n : ℤ) → ExactlyIs p u (scalar_for table (field_type bits)) e n → IsTrue (is_value structs (field_type bits) n) → IsHeld p u e n
  value_is structs table bits e n is h = exact_held p u (scalar_for table (field_type bits)) e n is (value_held (table_of p.target) structs table bits.truth (least_unsigned bits.width) n h)

  guard_tests : (ctable : CTable (table_of p.target)) (bits : FieldBits) (e : Expr) (m : ℕ) → bits.width ≤ 64 → IsHeld p u e (pos m) → TestIs p u (set_guard bits e) (has_room (pos m) bits.width)
  guard_tests ctable bits e m few is =
      let most = mask bits.width in
      subst (TestIs p u (set_guard bits e)) (mask_is_last m bits.width)
      (as_test (set_guard bits e) (int_le (pos m) (pos most)) (natural_tests p u ctable e (unsigned most) m most is (unsigned_held p u ctable most (mask_few bits.width few)) Le int_le (λ v w. refl)))

  -- a constant that fits is settled, and every other number is tested
  by_settled : (settled : Bool) (guard : Expr) (does : Bool) → (settled ≡ true → IsTrue does) → TestIs p u guard does → GuardTells settled p u guard does
  by_settled true guard does fits tests = fits refl
  by_settled false guard does fits tests = tests

  settled_fits : (k : CScalar) (layout : BitLayout) (field : ℕ) (e : Expr) (m : ℕ) → ExactlyIs p u k e (pos m) → set_settled layout field e ≡ true → IsTrue (has_room (pos m) (field_at layout field).width)
  settled_fits k layout field (Number v suffix) m is settled =
      let both : (pos v ≡ pos m) × IsSome (constant_type p.target suffix v) = is in
      subst (λ w. IsTrue (has_room w (field_at layout field).width)) both.0 (sym (mask_has v (field_at layout field).width) ∙ settled)
  settled_fits k layout field (Read place) m is settled = cc
  settled_fits k layout field (Address place) m is settled = cc
  settled_fits k layout field (Unary op e) m is settled = cc
  settled_fits k layout field (Binary op a b) m is settled = cc
  settled_fits k layout field (c.Cast to e) m is settled = cc
  settled_fits k layout field (Cond c a b) m is settled = cc

  -- where there is but a check of this kind, it is told of
  module _ (guard : Expr) (settled : Bool) (answer : Answer) (told : GuardTells settled p u guard (holds answer Cast)) where
    one_tells : (which : SiteKind) → which ≡ Cast → GuardTells settled p u guard (holds answer which)
    one_tells which is = subst (λ k. GuardTells settled p u guard (holds answer k)) (sym is) told

    checks_tell : (has_none : Bool) (cs : List Check) → AreFor cs (unless has_none Cast) → GuardsTell p u (λ which. guard) (λ which. settled) answer cs
    checks_tell has_none [] is = tt
    checks_tell true (check ∷ cs) is = cc
    checks_tell false (check ∷ []) is = let e : check.kind ≡ Cast = cc in (one_tells check.kind e, λ h. tt)
    checks_tell false (check ∷ other ∷ cs) is = cc

  pub set_guards_tell : (table : TypeTable) (layout : BitLayout) (field : ℕ) (bits : FieldBits) (e : Expr) (x : ℤ) (m : ℕ) (cs : List Check) → IsInWord layout field bits
      → ExactlyIs p u (scalar_for table (field_type bits)) e (pos m) → IsHeld p u e (pos m) → AreFor cs (set_sites bits)
      → GuardsTell p u (λ which. set_guard bits e) (λ which. set_settled layout field e) (changing (changed layout field x (pos m))) cs
  set_guards_tell table layout field bits e x m cs i exact is sites =
      let inside = i.inside in
      let most = width_most layout.word in
      let same : has_room (pos m) (field_at layout field).width ≡ has_room (pos m) bits.width = ap (λ (b : FieldBits). has_room (pos m) b.width) i.is in
      let does = holds_where_room layout field x (pos m) in
      checks_tell (set_guard bits e) (set_settled layout field e) (changing (changed layout field x (pos m)))
      (by_settled (set_settled layout field e) (set_guard bits e) (holds (changing (changed layout field x (pos m))) Cast)
      (λ settled. does ∙ settled_fits (scalar_for table (field_type bits)) layout field e m exact settled)
      (subst (TestIs p u (set_guard bits e)) (sym (does ∙ same)) (guard_tests (table_of_target p.target) bits e m (omega arith) is)))
      (bits.truth || nat_eq bits.width (width (least_unsigned bits.width))) cs sites

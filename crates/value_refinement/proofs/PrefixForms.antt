-- The prefixes `-`, `~` and `!`, and fields of bit data.
use Rattle.std.proofs.Common.{◌≡◌, ℕ, ◌≤◌, ℤ, pos, true, false, length, map, Some, Ok, refl, sym, ◌∙◌, ap, subst, arith}
use Rattle.std.specs.Prelude.{not, IsTrue}
use Rattle.std.specs.Ordering.{int_eq}
use Rattle.iv_words.specs.declared.IntKind.{IntKind}
use Rattle.int_ops.specs.Operators.{truth, is_allowed}
use Rattle.int_ops.specs.declared.Op.{Op}
use Rattle.int_ops.specs.declared.Op.TheVariants as op
use Rattle.std.specs.Option.{option_map}
use Rattle.bit_data.specs.Fields.{field_at, field_of}
use Rattle.ivory_tree.specs.declared.PrefixOp.TheVariants as prefix
use Rattle.source_types.specs.Values.{is_signed_integer, is_unsigned_integer, is_truth}
use Rattle.step_semantics.specs.Steps.{bind, tick, give}
use Rattle.area_types.specs.Syntax as types
use Rattle.area_types.specs.Syntax.{ValueType, Int}
use Rattle.region_check.specs.Calls.{reference_of}
use Rattle.core_tree.specs.Checks.{expr_checks}
use Rattle.core_tree.specs.Syntax.{Label, ExprCore, type_of}
use Rattle.core_tree.specs.Syntax as core
use Rattle.core_tree.specs.TypedExpressions.{ExprTyped, BitFieldTyped}
use Rattle.core_meaning.specs.Answers.{site_of, prefix_operation, in_kind, layout_of}
use Rattle.core_meaning.specs.Checks.{Answer, on_truth, on_some}
use Rattle.core_meaning.specs.Expressions.{eval, of_number, field_behind}
use Rattle.core_meaning.specs.Gives.{Gives, OfNumber}
use Rattle.core_meaning.specs.State.{State}
use Rattle.core_meaning.specs.Values.{Num}
use Rattle.c_ast.specs.declared.CScalar.TheVariants as scalar
use Rattle.c_ast.specs.declared.CUnary.TheVariants as unary
use Rattle.c_ast.specs.Syntax as c
use Rattle.c_ast.specs.Syntax.{Expr}
use Rattle.c_meaning.specs.State.{CState}
use Rattle.area_objects.specs.Both.{Map}
use Rattle.overflow_checks.specs.Checks.{checks}
use Rattle.overflow_checks.specs.Contract.{result_type}
use Rattle.lower_types.specs.Types.{scalar_for}
use Rattle.lower_values.specs.Expressions.{raw}
use Rattle.lower_values.specs.Frames.{kind_in, type_in}
use Rattle.lower_values.specs.Operators.{guard_in, computed, applied, single, operand}
use Rattle.lower_values.specs.Conversions as word
use Rattle.lower_values.specs.Operators as lowered
use Rattle.lower_values.specs.Pieces.{Piece, Same, Near, taken}
use Rattle.lower_values.specs.Ranges.{settled}
use Rattle.lower_values.specs.Tests.{has_checks}
use Rattle.form_answers.specs.Answering.{GuardsTell}
use Rattle.form_answers.specs.FormLaws.{Operand}
use Rattle.value_refinement.specs.Laws.{Numbered, Stage, RawFollows}
use Rattle.value_refinement.specs.Settings.{Setting, Set}
use Rattle.form_answers.specs.Standing.{ExactlyIs, IsNumber, Converts}
use Rattle.value_refinement.proofs.BitWords.{Laid, laid_out}
use Rattle.form_answers.proofs.FieldValues.{field_in_word, fields_answer}
use Rattle.value_refinement.proofs.Given.{operand_follows, of_kind, many_checks, first_checks}
use Rattle.value_refinement.proofs.NumberParts.{near_simple, same_pieces, same_parts, checked_follows, stepped_follows}
use Rattle.value_refinement.proofs.Operands.{PieceFollows, as_raw}
use Rattle.form_answers.proofs.Operators.{operators_answer}
use Rattle.form_answers.proofs.Truths.{negations_answer}
use Rattle.value_refinement.proofs.UnaryForms.{answers_of}

-- ---- `-` and `~`

-- the kind that a prefix operator is for
pub record IsFor (o : Op) (ty : ValueType) : Type 0 where
  pub kind : IntKind
  pub is : ty ≡ Int kind
  pub allowed : IsTrue (is_allowed o kind)

for_signed : (ty : ValueType) → IsTrue (is_signed_integer ty) → IsFor op.Neg ty
for_signed (Int kind) e = record { kind = kind; is = refl; allowed = e }
for_signed types.Truth e = let no : ⊥ = cc in absurd no
for_signed (types.Ix n) e = let no : ⊥ = cc in absurd no
for_signed (types.Bits k) e = let no : ⊥ = cc in absurd no
for_signed (types.Ref constant region target) e = let no : ⊥ = cc in absurd no

for_unsigned : (ty : ValueType) → IsTrue (is_unsigned_integer ty) → IsFor op.Not ty
for_unsigned (Int kind) e = record { kind = kind; is = refl; allowed = e }
for_unsigned types.Truth e = let no : ⊥ = cc in absurd no
for_unsigned (types.Ix n) e = let no : ⊥ = cc in absurd no
for_unsigned (types.Bits k) e = let no : ⊥ = cc in absurd no
for_unsigned (types.Ref constant region target) e = let no : ⊥ = cc in absurd no

for_truth : (ty : ValueType) → IsTrue (is_truth ty) → ty ≡ types.Truth
for_truth types.Truth e = refl
for_truth (types.Int kind) e = let no : ⊥ = cc in absurd no
for_truth (types.Ix n) e = let no : ⊥ = cc in absurd no
for_truth (types.Bits k) e = let no : ⊥ = cc in absurd no
for_truth (types.Ref constant region target) e = let no : ⊥ = cc in absurd no

module _ (g : Setting) (set : Set g) (objects : Map) (s : State) (stage : Stage g s) (l : Label) (e : ExprCore) (follows : RawFollows g objects s e) where
  -- an operator on its one operand, which is its left one and its right one
  module _ (o : Op) (typed : ExprTyped g.env g.scope e) (is_for : IsFor o (type_of e)) (to : l.ty ≡ type_of e) (result : result_type o is_for.kind ≡ scalar.Int is_for.kind) (small : Numbered l.checks)
      (of_sites : map (λ k. k.kind) l.checks ≡ map site_of (checks o is_for.kind)) (few : length (map site_of (checks o is_for.kind)) ≤ 4) where
    abbrev kind : IntKind
    kind = is_for.kind

    abbrev answer : ℤ → Answer
    answer a = in_kind o kind a a

    tells : (w : CState) (d : Expr) (a : ℤ) → Gives g.frame.core g.outcome s e (Num a) → ExactlyIs g.program w (scalar_for g.frame.table (type_of e)) d a
        → GuardsTell g.program w (guard_in g.frame kind o d d) (settled kind o d) (answer a) l.checks × ((v : ℤ) → answer a ≡ Ok v → Converts g.program w (result_type o kind) (computed kind o d d) v)
    tells w d a gives exact =
        let operand : Operand g.program w kind d a = of_kind g set objects s stage e typed (ap reference_of is_for.is) kind (ap (kind_in g.frame) is_for.is) w d a gives exact in
        operators_answer g.frame g.program set.target w o kind d d a a l.checks is_for.allowed operand operand of_sites

    stands : (w : CState) (d : Expr) (a v : ℤ) → Gives g.frame.core g.outcome s e (Num a) → ExactlyIs g.program w (scalar_for g.frame.table (type_of e)) d a → answer a ≡ Ok v → Converts g.program w (scalar_for g.frame.table l.ty) (computed kind o d d) v
    stands w d a v gives exact answers =
        subst (λ k. Converts g.program w k (computed kind o d d) v) (result ∙ sym (ap (scalar_for g.frame.table) (to ∙ is_for.is))) ((tells w d a gives exact).1 v answers)

    pub operator_follows : PieceFollows g set objects s (of_number g.frame.core l (prefix_operation o (type_of e)) (eval g.frame.core g.outcome e)) (OfNumber (prefix_operation o (type_of e)) (Gives g.frame.core g.outcome s e)) l.ty (λ from. lowered.prefix g.frame o l (type_of e) (raw g.frame e from))
    operator_follows =
        same_parts g set objects s (answers_of g set objects s stage l e answer) (of_number g.frame.core l (prefix_operation o (type_of e)) (eval g.frame.core g.outcome e)) (OfNumber (prefix_operation o (type_of e)) (Gives g.frame.core g.outcome s e)) l.ty
        (λ from. lowered.prefix g.frame o l (type_of e) (raw g.frame e from))
        (λ n w. sym (ap (λ ty. of_number g.frame.core l (prefix_operation o ty) (eval g.frame.core g.outcome e) n w s) is_for.is))
        (same_pieces g set objects s (answers_of g set objects s stage l e answer) (OfNumber (prefix_operation o (type_of e)) (Gives g.frame.core g.outcome s e)) l.ty
        (λ from. applied g.frame (Some kind) o l (single (operand g.frame l (type_of e) (raw g.frame e from)))) (λ from. lowered.prefix g.frame o l (type_of e) (raw g.frame e from))
        (λ from. sym (ap (λ k. applied g.frame k o l (single (operand g.frame l (type_of e) (raw g.frame e from)))) (ap (kind_in g.frame) is_for.is)))
        (checked_follows g set objects s (eval g.frame.core g.outcome e) (Gives g.frame.core g.outcome s e) (type_of e) (λ from. taken (has_checks l) (type_in g.frame (type_of e)) (raw g.frame e from))
        (operand_follows g set objects s stage e typed (ap reference_of is_for.is) follows (has_checks l)) (OfNumber (prefix_operation o (type_of e)) (Gives g.frame.core g.outcome s e)) l.ty Near refl (λ d. computed kind o d d)
        l small (subst (λ n. n ≤ 4) (sym (many_checks l.checks (map site_of (checks o kind)) of_sites)) few) (λ d. guard_in g.frame kind o d d) (λ d. settled kind o d) answer
        (λ w d a gives exact. (tells w d a gives exact).0) stands (λ w d a gives exact owed. near_simple g.program w owed (computed kind o d d))
        (λ a v gives answers. record { answer = answer; has = ap (prefix_operation o) is_for.is; operand = a; is_given = gives; number = v; answers = answers; is = refl })))

  -- `-e`
  pub negative_follows : ExprTyped g.env g.scope (core.Prefix l prefix.Neg e) → Numbered (expr_checks (core.Prefix l prefix.Neg e)) → RawFollows g objects s (core.Prefix l prefix.Neg e)
  negative_follows typed small =
      as_raw g set objects s (core.Prefix l prefix.Neg e)
      (operator_follows op.Neg typed.0 (for_signed (type_of e) typed.1.is_for) typed.1.type refl (first_checks l.checks (expr_checks e) small) typed.1.checked.of_kinds (omega arith))

  -- `~e`
  pub flipped_follows : ExprTyped g.env g.scope (core.Prefix l prefix.Flip e) → Numbered (expr_checks (core.Prefix l prefix.Flip e)) → RawFollows g objects s (core.Prefix l prefix.Flip e)
  flipped_follows typed small =
      as_raw g set objects s (core.Prefix l prefix.Flip e)
      (operator_follows op.Not typed.0 (for_unsigned (type_of e) typed.1.is_for) typed.1.type refl (first_checks l.checks (expr_checks e) small) typed.1.checked.of_kinds (omega arith))

  -- `!e`
  pub negation_follows : ExprTyped g.env g.scope (core.Prefix l prefix.Not e) → RawFollows g objects s (core.Prefix l prefix.Not e)
  negation_follows typed =
      let truth_is : type_of e ≡ types.Truth = for_truth (type_of e) typed.1.is_for in
      as_raw g set objects s (core.Prefix l prefix.Not e)
      (same_pieces g set objects s (eval g.frame.core g.outcome (core.Prefix l prefix.Not e)) (Gives g.frame.core g.outcome s (core.Prefix l prefix.Not e)) l.ty
      (λ from. record (taken false (type_in g.frame (type_of e)) (raw g.frame e from)) { value = c.Unary unary.Not (taken false (type_in g.frame (type_of e)) (raw g.frame e from)).value; owed = true; standing = Same }) (raw g.frame (core.Prefix l prefix.Not e))
      (λ from. ap (λ ty. let q : Piece = taken false (type_in g.frame ty) (raw g.frame e from) in record q { value = c.Unary unary.Not q.value; owed = true; standing = Same }) truth_is)
      (stepped_follows g set objects s (eval g.frame.core g.outcome e) (Gives g.frame.core g.outcome s e) (type_of e) (λ from. taken false (type_in g.frame (type_of e)) (raw g.frame e from))
      (operand_follows g set objects s stage e typed.0 (ap reference_of truth_is) follows false) (Gives g.frame.core g.outcome s (core.Prefix l prefix.Not e)) l.ty Same refl (c.Unary unary.Not)
      (λ x. on_truth g.frame.core x (λ holds. tick (give (Num (truth (not holds)))))) (λ a. truth (not (not (int_eq a (pos 0))))) (λ a gives n w. refl)
      (λ w d a gives exact. negations_answer g.program w d a (subst (λ ty. ExactlyIs g.program w (scalar_for g.frame.table ty) d a) truth_is exact))
      (λ a gives. record { operand = a; is_given = gives; is = refl })))

  -- ---- a field of bit data

  module _ (field : ℕ) (typed : ExprTyped g.env g.scope e) (at : BitFieldTyped g.env l (type_of e) field) where
    laid : Laid g (type_of e) field at.bits
    laid = laid_out g set (type_of e) at.number field at.bits at.operand at.found

    abbrev field_expr : Expr → Expr
    field_expr d = word.in_layout (layout_of g.frame.core (type_of e)) field (λ b. word.field_of b (word.valued (kind_in g.frame (type_of e)) d))

    field_stands : (w : CState) (d : Expr) (a : ℤ) → Gives g.frame.core g.outcome s e (Num a) → ExactlyIs g.program w (scalar_for g.frame.table (type_of e)) d a → IsNumber g.program w (field_expr d) (field_of laid.layout field a)
    field_stands w d a gives exact =
        subst (λ found. IsNumber g.program w (word.in_layout found field (λ b. word.field_of b (word.valued (kind_in g.frame (type_of e)) d))) (field_of laid.layout field a)) (sym laid.found)
        (subst (λ k. IsNumber g.program w (word.field_of (field_at laid.layout field) (word.valued k d)) (field_of laid.layout field a)) (sym laid.word)
        (subst (λ b. IsNumber g.program w (word.field_of b (word.valued (Some laid.layout.word) d)) (field_of laid.layout field a)) (sym (field_in_word laid.layout field at.bits laid.field_is).is)
        (fields_answer g.program w laid.layout field at.bits d a laid.field_is (of_kind g set objects s stage e typed (ap reference_of at.operand) laid.layout.word laid.word w d a gives exact))))

    pub bit_field_follows : PieceFollows g set objects s (bind (eval g.frame.core g.outcome e) (field_behind g.frame.core (type_of e) field)) (Gives g.frame.core g.outcome s (core.Field l e field)) l.ty (λ from. word.bit_field g.frame (type_of e) field (raw g.frame e from))
    bit_field_follows =
        stepped_follows g set objects s (eval g.frame.core g.outcome e) (Gives g.frame.core g.outcome s e) (type_of e) (λ from. taken false (type_in g.frame (type_of e)) (raw g.frame e from))
        (operand_follows g set objects s stage e typed (ap reference_of at.operand) follows false) (Gives g.frame.core g.outcome s (core.Field l e field)) l.ty Same refl field_expr
        (field_behind g.frame.core (type_of e) field) (field_of laid.layout field) (λ a gives n w. ap (λ found. on_some g.frame.core found (λ layout. tick (give (Num (field_of layout field a)))) n w s) laid.found)
        field_stands (λ a gives. record { operand = Num a; is_given = gives; is = ap (option_map (λ layout. Num (field_of layout field a))) laid.found })

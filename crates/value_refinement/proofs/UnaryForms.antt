-- Forms on one number: conversions, indices, bit data, and the prefixes `-`, `~` and `!`.
use Rattle.std.proofs.Common.{◌≡◌, ℕ, zero, suc, ◌≤◌, ℤ, pos, Bool, true, false, List, [], ◌∷◌, length, Some, None, Ok, Err, refl, sym, ap, subst, arith}
use Rattle.std.specs.Prelude.{if◌then◌else◌, ◌||◌, IsTrue}
use Rattle.iv_words.specs.Kinds.{in_range}
use Rattle.iv_words.specs.declared.IntKind.{IntKind}
use Rattle.iv_words.specs.declared.IntKind.TheVariants.{U16}
use Rattle.index_types.specs.Indices.{is_index, wrapped}
use Rattle.source_types.specs.Values.{is_integer, is_index_type}
use Rattle.step_semantics.specs.Steps.{World, Part, bind, tick, give}
use Rattle.area_types.specs.Syntax as types
use Rattle.area_types.specs.Syntax.{ValueType, Int, Ix}
use Rattle.region_check.specs.Calls.{reference_of}
use Rattle.core_tree.specs.Checks.{expr_checks}
use Rattle.core_tree.specs.Operators.{cast_sites, indexing_sites, unless}
use Rattle.core_tree.specs.Syntax.{Label, ExprCore, type_of}
use Rattle.core_tree.specs.Syntax as core
use Rattle.core_tree.specs.declared.Check.{Check}
use Rattle.core_tree.specs.declared.SiteKind.{SiteKind}
use Rattle.core_tree.specs.declared.SiteKind.TheVariants.{Index, Cast}
use Rattle.core_tree.specs.TypedExpressions.{ExprTyped}
use Rattle.core_tree.specs.Types.{has_values_of, has_indices_of}
use Rattle.core_meaning.specs.Answers.{cast_to, index_to, wrapped_to}
use Rattle.core_meaning.specs.Checks.{Answer, tests_of, passes, answering, on_number, on_some}
use Rattle.core_meaning.specs.Expressions.{eval}
use Rattle.core_meaning.specs.Gives.{Gives}
use Rattle.core_meaning.specs.State.{State}
use Rattle.core_meaning.specs.Values.{Value, Num}
use Rattle.c_ast.specs.declared.CKind.TheVariants.{Scalar}
use Rattle.c_ast.specs.declared.CScalar.TheVariants as scalar
use Rattle.c_ast.specs.declared.Suffix.TheVariants.{Plain}
use Rattle.c_ast.specs.Syntax as c
use Rattle.c_ast.specs.Syntax.{Expr}
use Rattle.c_meaning.specs.State.{CState}
use Rattle.area_objects.specs.Both.{Map}
use Rattle.lower_types.specs.Types.{TypeTable, kind_of, scalar_for}
use Rattle.lower_values.specs.Conversions.{range_guard, valued, remainder, is_signed_type, length_of}
use Rattle.lower_values.specs.Conversions as word
use Rattle.lower_values.specs.Expressions.{raw}
use Rattle.lower_values.specs.Frames.{kind_in, type_in}
use Rattle.lower_values.specs.Pieces.{Same, taken}
use Rattle.lower_values.specs.Tests.{has_checks}
use Rattle.form_answers.specs.Answering.{GuardsTell}
use Rattle.form_answers.specs.FormLaws.{never}
use Rattle.value_refinement.specs.Laws.{Numbered, Stage, RawFollows}
use Rattle.value_refinement.specs.Settings.{Setting, Set}
use Rattle.form_answers.specs.Standing.{ExactlyIs, IsNumber}
use Rattle.value_refinement.specs.Values.{HasArithmetic, Simple}
use Rattle.form_answers.proofs.Casts.{casts_answer, indices_answer}
use Rattle.value_refinement.proofs.Given.{is_of_type, operand_follows, of_kind, many_checks, first_checks}
use Rattle.value_refinement.proofs.NumberParts.{same_parts, checked_follows, stepped_follows}
use Rattle.form_answers.proofs.OperandValues.{exact_held, operand_given}
use Rattle.value_refinement.proofs.Operands.{PieceFollows, as_raw}
use Rattle.value_refinement.proofs.Types.{given_holds}
use Rattle.form_answers.proofs.WrappedIndices.{wraps_answer}

-- ---- answers of conversions

pub answered_itself : (b : Bool) (a v : ℤ) (k : SiteKind) → (if b then (let r : Answer = Ok a in r) else Err k) ≡ Ok v → a ≡ v
answered_itself true a v k e = cc
answered_itself false a v k e = let no : ⊥ = cc in absurd no

pub few_unless : (b : Bool) (k : SiteKind) → length (unless b k) ≤ 4
few_unless true k = omega arith
few_unless false k = omega arith

-- a whole number or an index has a kind, and is no reference
pub record HasKind (t : TypeTable) (ty : ValueType) : Type 0 where
  pub kind : IntKind
  pub is : kind_of t ty ≡ Some kind
  pub plain : reference_of ty ≡ None

has_kind : (t : TypeTable) (ty : ValueType) → IsTrue (is_integer ty || is_index_type ty) → HasKind t ty
has_kind t (Int kind) e = record { kind = kind; is = refl; plain = refl }
has_kind t (Ix n) e = record { kind = U16; is = refl; plain = refl }
has_kind t types.Truth e = let no : ⊥ = cc in absurd no
has_kind t (types.Bits k) e = let no : ⊥ = cc in absurd no
has_kind t (types.Ref constant region target) e = let no : ⊥ = cc in absurd no

module _ (g : Setting) (set : Set g) (objects : Map) (s : State) (stage : Stage g s) where
  -- a form that answers a number, by the number of its operand
  abbrev pub answers_of : Label → ExprCore → (ℤ → Answer) → Part State Value
  answers_of l e answer = bind (eval g.frame.core g.outcome e) (λ x. on_number g.frame.core x (λ a. answering g.frame.core l (answer a)))

  -- one that always has a number takes a step alone
  passes_checks : (cs : List Check) (v : ℤ) (n : ℕ) (w : World) → passes g.frame.core (tests_of (Ok v) cs) (give (Num v)) n w s ≡ give (Num v) n w s
  passes_checks [] v n w = refl
  passes_checks (c ∷ cs) v n w = passes_checks cs v n w

  answers_step : (l : Label) (v : ℤ) (n : ℕ) (w : World) → answering g.frame.core l (Ok v) n w s ≡ tick (give (Num v)) n w s
  answers_step l v zero w = refl
  answers_step l v (suc n) w = passes_checks l.checks v n w

  -- what stands exactly has its number
  exact_number : (e : ExprCore) → ExprTyped g.env g.scope e → (w : CState) (d : Expr) (a : ℤ) → Gives g.frame.core g.outcome s e (Num a) → ExactlyIs g.program w (scalar_for g.frame.table (type_of e)) d a → IsNumber g.program w d a
  exact_number e typed w d a gives exact = let h = exact_held g.program w (scalar_for g.frame.table (type_of e)) d a exact (given_holds g set s stage e a typed gives) in (h.kind, h.gives)

  -- an operand as a value of its kind has the kind's type
  valued_type : (e : ExprCore) → ExprTyped g.env g.scope e → reference_of (type_of e) ≡ None → (kind : IntKind) → kind_in g.frame (type_of e) ≡ Some kind → (w : CState) (d : Expr) (a : ℤ) → Gives g.frame.core g.outcome s e (Num a)
      → ExactlyIs g.program w (scalar_for g.frame.table (type_of e)) d a → HasArithmetic g.program w (valued (kind_in g.frame (type_of e)) d)
  valued_type e typed plain kind is w d a gives exact =
      subst (λ k. HasArithmetic g.program w (valued k d)) (sym is)
      (record { kind = Scalar (scalar.Int kind); type = (operand_given g.program w kind d a (of_kind g set objects s stage e typed plain kind is w d a gives exact)).type })

  same_simple : (w : CState) (d : Expr) (owed : Bool) → HasArithmetic g.program w d → Simple g.program w Same owed d
  same_simple w d true h = tt
  same_simple w d false h = h

  -- `T(e)`
  module _ (l : Label) (e : ExprCore) (follows : RawFollows g objects s e) (typed : ExprTyped g.env g.scope (core.Cast l e)) (small : Numbered (expr_checks (core.Cast l e))) where
    abbrev cast_kind : HasKind g.frame.table (type_of e)
    cast_kind = has_kind g.frame.table (type_of e) typed.1.operand

    abbrev cast_answer : ℤ → Answer
    cast_answer a = if in_range typed.1.kind a then Ok a else Err Cast

    cast_tells : (w : CState) (d : Expr) (a : ℤ) → Gives g.frame.core g.outcome s e (Num a) → ExactlyIs g.program w (scalar_for g.frame.table (type_of e)) d a
        → GuardsTell g.program w (λ which. range_guard g.frame (type_of e) l.ty (valued (kind_in g.frame (type_of e)) d)) never (cast_answer a) l.checks × IsNumber g.program w (valued (kind_in g.frame (type_of e)) d) a
    cast_tells w d a gives exact =
        subst (λ ty. GuardsTell g.program w (λ which. range_guard g.frame (type_of e) ty (valued (kind_in g.frame (type_of e)) d)) never (cast_answer a) l.checks × IsNumber g.program w (valued (kind_in g.frame (type_of e)) d) a) (sym typed.1.type)
        (subst (λ k. GuardsTell g.program w (λ which. range_guard g.frame (type_of e) (Int typed.1.kind) (valued k d)) never (cast_answer a) l.checks × IsNumber g.program w (valued k d) a) (sym cast_kind.is)
        (casts_answer g.frame g.program set.target w (type_of e) cast_kind.kind typed.1.kind d a l.checks typed.1.operand cast_kind.is
        (of_kind g set objects s stage e typed.0 cast_kind.plain cast_kind.kind cast_kind.is w d a gives exact) (is_of_type g set objects s stage e typed.0 cast_kind.plain a gives) typed.1.checked.of_kinds))

    pub cast_follows : RawFollows g objects s (core.Cast l e)
    cast_follows =
        as_raw g set objects s (core.Cast l e)
        (same_parts g set objects s (answers_of l e cast_answer) (eval g.frame.core g.outcome (core.Cast l e)) (Gives g.frame.core g.outcome s (core.Cast l e)) l.ty (raw g.frame (core.Cast l e))
        (λ n w. sym (ap (λ ty. on_some g.frame.core (cast_to ty) (λ answer. bind (eval g.frame.core g.outcome e) (λ x. on_number g.frame.core x (λ a. answering g.frame.core l (answer a)))) n w s) typed.1.type))
        (checked_follows g set objects s (eval g.frame.core g.outcome e) (Gives g.frame.core g.outcome s e) (type_of e) (λ from. taken (has_checks l) (type_in g.frame (type_of e)) (raw g.frame e from))
        (operand_follows g set objects s stage e typed.0 cast_kind.plain follows (has_checks l)) (Gives g.frame.core g.outcome s (core.Cast l e)) l.ty Same refl (valued (kind_in g.frame (type_of e)))
        l (first_checks l.checks (expr_checks e) small) (subst (λ n. n ≤ 4) (sym (many_checks l.checks (cast_sites typed.1.kind (type_of e)) typed.1.checked.of_kinds)) (few_unless (has_values_of typed.1.kind (type_of e)) Cast))
        (λ d which. range_guard g.frame (type_of e) l.ty (valued (kind_in g.frame (type_of e)) d)) (λ d. never) cast_answer
        (λ w d a gives exact. (cast_tells w d a gives exact).0)
        (λ w d a v gives exact answers. subst (λ n. IsNumber g.program w (valued (kind_in g.frame (type_of e)) d) n) (answered_itself (in_range typed.1.kind a) a v Cast answers) (cast_tells w d a gives exact).1)
        (λ w d a gives exact owed. same_simple w (valued (kind_in g.frame (type_of e)) d) owed (valued_type e typed.0 cast_kind.plain cast_kind.kind cast_kind.is w d a gives exact))
        (λ a v gives answers. record { answer = cast_answer; has = ap cast_to typed.1.type; operand = a; is_given = gives; number = v; answers = answers; is = refl })))

  -- `toix(N, e)`
  module _ (l : Label) (e : ExprCore) (follows : RawFollows g objects s e) (typed : ExprTyped g.env g.scope (core.ToIndex l e)) (small : Numbered (expr_checks (core.ToIndex l e))) where
    abbrev index_answer : ℤ → Answer
    index_answer a = if is_index typed.1.length a then Ok a else Err Index

    index_plain : reference_of (type_of e) ≡ None
    index_plain = ap reference_of typed.1.operand

    index_tells : (w : CState) (d : Expr) (a : ℤ) → Gives g.frame.core g.outcome s e (Num a) → ExactlyIs g.program w (scalar_for g.frame.table (type_of e)) d a
        → GuardsTell g.program w (λ which. range_guard g.frame (type_of e) l.ty (valued (kind_in g.frame (type_of e)) d)) never (index_answer a) l.checks × IsNumber g.program w (valued (kind_in g.frame (type_of e)) d) a
    index_tells w d a gives exact =
        subst (λ ty. GuardsTell g.program w (λ which. range_guard g.frame (type_of e) ty (valued (kind_in g.frame (type_of e)) d)) never (index_answer a) l.checks × IsNumber g.program w (valued (kind_in g.frame (type_of e)) d) a) (sym typed.1.type)
        (subst (λ ty. GuardsTell g.program w (λ which. range_guard g.frame ty (Ix typed.1.length) (valued (kind_in g.frame ty) d)) never (index_answer a) l.checks × IsNumber g.program w (valued (kind_in g.frame ty) d) a) (sym typed.1.operand)
        (indices_answer g.frame g.program set.target w typed.1.length typed.1.kind d a l.checks typed.1.in_range
        (of_kind g set objects s stage e typed.0 index_plain typed.1.kind (ap (kind_in g.frame) typed.1.operand) w d a gives exact) typed.1.checked.of_kinds))

    pub to_index_follows : RawFollows g objects s (core.ToIndex l e)
    to_index_follows =
        as_raw g set objects s (core.ToIndex l e)
        (same_parts g set objects s (answers_of l e index_answer) (eval g.frame.core g.outcome (core.ToIndex l e)) (Gives g.frame.core g.outcome s (core.ToIndex l e)) l.ty (raw g.frame (core.ToIndex l e))
        (λ n w. sym (ap (λ ty. on_some g.frame.core (index_to ty) (λ answer. bind (eval g.frame.core g.outcome e) (λ x. on_number g.frame.core x (λ a. answering g.frame.core l (answer a)))) n w s) typed.1.type))
        (checked_follows g set objects s (eval g.frame.core g.outcome e) (Gives g.frame.core g.outcome s e) (type_of e) (λ from. taken (has_checks l) (type_in g.frame (type_of e)) (raw g.frame e from))
        (operand_follows g set objects s stage e typed.0 index_plain follows (has_checks l)) (Gives g.frame.core g.outcome s (core.ToIndex l e)) l.ty Same refl (valued (kind_in g.frame (type_of e)))
        l (first_checks l.checks (expr_checks e) small) (subst (λ n. n ≤ 4) (sym (many_checks l.checks (indexing_sites typed.1.length typed.1.kind) typed.1.checked.of_kinds)) (few_unless (has_indices_of typed.1.length typed.1.kind) Index))
        (λ d which. range_guard g.frame (type_of e) l.ty (valued (kind_in g.frame (type_of e)) d)) (λ d. never) index_answer
        (λ w d a gives exact. (index_tells w d a gives exact).0)
        (λ w d a v gives exact answers. subst (λ n. IsNumber g.program w (valued (kind_in g.frame (type_of e)) d) n) (answered_itself (is_index typed.1.length a) a v Index answers) (index_tells w d a gives exact).1)
        (λ w d a gives exact owed. same_simple w (valued (kind_in g.frame (type_of e)) d) owed (valued_type e typed.0 index_plain typed.1.kind (ap (kind_in g.frame) typed.1.operand) w d a gives exact))
        (λ a v gives answers. record { answer = index_answer; has = ap index_to typed.1.type; operand = a; is_given = gives; number = v; answers = answers; is = refl })))

  -- `wrapix(N, e)`
  module _ (l : Label) (e : ExprCore) (follows : RawFollows g objects s e) (typed : ExprTyped g.env g.scope (core.WrapIndex l e)) where
    wrap_plain : reference_of (type_of e) ≡ None
    wrap_plain = ap reference_of typed.1.operand

    abbrev wrap_value : Expr → Expr
    wrap_value d = remainder (is_signed_type (kind_in g.frame (type_of e))) (valued (kind_in g.frame (type_of e)) d) (c.Number (length_of l.ty) Plain)

    wrap_stands : (w : CState) (d : Expr) (a : ℤ) → Gives g.frame.core g.outcome s e (Num a) → ExactlyIs g.program w (scalar_for g.frame.table (type_of e)) d a → IsNumber g.program w (wrap_value d) (pos (wrapped typed.1.length a))
    wrap_stands w d a gives exact =
        let kind : kind_in g.frame (type_of e) ≡ Some typed.1.kind = ap (kind_in g.frame) typed.1.operand in
        subst (λ ty. IsNumber g.program w (remainder (is_signed_type (kind_in g.frame (type_of e))) (valued (kind_in g.frame (type_of e)) d) (c.Number (length_of ty) Plain)) (pos (wrapped typed.1.length a))) (sym typed.1.type)
        (subst (λ k. IsNumber g.program w (remainder (is_signed_type k) (valued k d) (c.Number typed.1.length Plain)) (pos (wrapped typed.1.length a))) (sym kind)
        (wraps_answer g.program w typed.1.length typed.1.kind d a typed.1.in_range (of_kind g set objects s stage e typed.0 wrap_plain typed.1.kind kind w d a gives exact)))

    pub wrap_index_follows : RawFollows g objects s (core.WrapIndex l e)
    wrap_index_follows =
        as_raw g set objects s (core.WrapIndex l e)
        (same_parts g set objects s (answers_of l e (λ a. Ok (pos (wrapped typed.1.length a)))) (eval g.frame.core g.outcome (core.WrapIndex l e)) (Gives g.frame.core g.outcome s (core.WrapIndex l e)) l.ty (raw g.frame (core.WrapIndex l e))
        (λ n w. sym (ap (λ ty. on_some g.frame.core (wrapped_to ty) (λ answer. bind (eval g.frame.core g.outcome e) (λ x. on_number g.frame.core x (λ a. answering g.frame.core l (answer a)))) n w s) typed.1.type))
        (stepped_follows g set objects s (eval g.frame.core g.outcome e) (Gives g.frame.core g.outcome s e) (type_of e) (λ from. taken (is_signed_type (kind_in g.frame (type_of e))) (type_in g.frame (type_of e)) (raw g.frame e from))
        (operand_follows g set objects s stage e typed.0 wrap_plain follows (is_signed_type (kind_in g.frame (type_of e)))) (Gives g.frame.core g.outcome s (core.WrapIndex l e)) l.ty Same refl wrap_value
        (λ x. on_number g.frame.core x (λ a. answering g.frame.core l (Ok (pos (wrapped typed.1.length a))))) (λ a. pos (wrapped typed.1.length a)) (λ a gives n w. answers_step l (pos (wrapped typed.1.length a)) n w) wrap_stands
        (λ a gives. record { answer = λ v. Ok (pos (wrapped typed.1.length v)); has = ap wrapped_to typed.1.type; operand = a; is_given = gives; number = pos (wrapped typed.1.length a); answers = refl; is = refl })))

  -- ---- bit data

  -- what keeps the number
  module _ (l : Label) (e : ExprCore) (follows : RawFollows g objects s e) (typed : ExprTyped g.env g.scope e) (plain : reference_of (type_of e) ≡ None) (given : Value → Type 0)
      (gives : (a : ℤ) → Gives g.frame.core g.outcome s e (Num a) → given (Num a)) where
    keeping : PieceFollows g set objects s (answers_of l e Ok) given l.ty (λ from. word.kept g.frame (type_of e) (raw g.frame e from))
    keeping =
        stepped_follows g set objects s (eval g.frame.core g.outcome e) (Gives g.frame.core g.outcome s e) (type_of e) (λ from. taken false (type_in g.frame (type_of e)) (raw g.frame e from))
        (operand_follows g set objects s stage e typed plain follows false) given l.ty Same refl (λ d. d)
        (λ x. on_number g.frame.core x (λ a. answering g.frame.core l (Ok a))) (λ a. a) (λ a is n w. answers_step l a n w) (λ w d a is exact. exact_number e typed w d a is exact) gives

  module _ (l : Label) (e : ExprCore) (follows : RawFollows g objects s e) where
    -- `bits(B, e)`
    pub make_bits_follows : ExprTyped g.env g.scope (core.MakeBits l e) → RawFollows g objects s (core.MakeBits l e)
    make_bits_follows typed =
        as_raw g set objects s (core.MakeBits l e)
        (keeping l e follows typed.0 (ap reference_of typed.1.word_is) (Gives g.frame.core g.outcome s (core.MakeBits l e)) (λ a gives. record { answer = Ok; has = refl; operand = a; is_given = gives; number = a; answers = refl; is = refl }))

    -- `raw(e)`
    pub raw_word_follows : ExprTyped g.env g.scope (core.Raw l e) → RawFollows g objects s (core.Raw l e)
    raw_word_follows typed =
        as_raw g set objects s (core.Raw l e)
        (keeping l e follows typed.0 (ap reference_of typed.1.bits_are) (Gives g.frame.core g.outcome s (core.Raw l e)) (λ a gives. record { answer = Ok; has = refl; operand = a; is_given = gives; number = a; answers = refl; is = refl }))

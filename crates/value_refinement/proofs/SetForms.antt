-- `set(e, f, x)`: the word with a number in one of its fields.
use Rattle.std.proofs.Common.{◌≡◌, ℕ, ◌≤◌, ℤ, Bool, true, false, IsTrue, ◌++◌, Some, None, Ok, refl, sym, ◌∙◌, ap, subst}
use Rattle.std.specs.Prelude.{if◌then◌else◌, ◌||◌, nat_eq}
use Rattle.std.specs.Option.{option_map}
use Rattle.iv_words.specs.Kinds.{width}
use Rattle.bit_data.specs.Fields.{field_at, changed}
use Rattle.bit_data.specs.declared.FieldBits.{FieldBits}
use Rattle.step_semantics.specs.Steps.{Part, bind}
use Rattle.area_types.specs.Syntax.{Truth, Int}
use Rattle.region_check.specs.Calls.{reference_of}
use Rattle.source_types.specs.Values.{least_unsigned}
use Rattle.core_tree.specs.Checks.{expr_checks}
use Rattle.core_tree.specs.Operators.{field_type, set_sites}
use Rattle.core_tree.specs.Syntax as core
use Rattle.core_tree.specs.Syntax.{ExprCore, Label, type_of}
use Rattle.core_tree.specs.TypedExpressions.{ExprTyped}
use Rattle.core_tree.specs.Types.{is_value}
use Rattle.core_tree.specs.declared.SiteKind.TheVariants.{Cast}
use Rattle.core_meaning.specs.Answers.{changing, field_set}
use Rattle.core_meaning.specs.Checks.{Answer, answering, on_number, on_some}
use Rattle.core_meaning.specs.Expressions.{eval}
use Rattle.core_meaning.specs.Gives.{Gives}
use Rattle.core_meaning.specs.State.{State}
use Rattle.core_meaning.specs.Values.{Value, Num}
use Rattle.c_ast.specs.declared.CScalar.TheVariants as scalar
use Rattle.c_ast.specs.Syntax.{Expr}
use Rattle.c_meaning.specs.State.{CState}
use Rattle.area_objects.specs.Both.{Map}
use Rattle.lower_types.specs.Types.{scalar_in, scalar_for}
use Rattle.lower_values.specs.Conversions.{set_guard, set_settled, set_in, put_in}
use Rattle.lower_values.specs.Expressions.{raw}
use Rattle.lower_values.specs.Frames.{kind_in, type_in}
use Rattle.lower_values.specs.Pieces.{Piece, Near, taken, both}
use Rattle.lower_values.specs.Tests.{has_checks}
use Rattle.form_answers.specs.Answering.{GuardsTell}
use Rattle.value_refinement.specs.Laws.{Numbered, Stage, RawFollows}
use Rattle.value_refinement.specs.Settings.{Setting, Set}
use Rattle.form_answers.specs.Standing.{ExactlyIs, Converts}
use Rattle.value_refinement.proofs.BitWords.{Laid, laid_out}
use Rattle.form_answers.proofs.FieldSets.{sets_answer}
use Rattle.form_answers.proofs.FieldValues.{field_in_word}
use Rattle.value_refinement.proofs.Given.{is_of_type, operand_follows, of_kind, many_checks, first_checks}
use Rattle.value_refinement.proofs.NumberParts.{same_pieces, same_parts, paired_follows}
use Rattle.value_refinement.proofs.Operands.{PieceFollows, as_raw}
use Rattle.value_refinement.proofs.UnaryForms.{few_unless}

field_plain : (b : FieldBits) → reference_of (field_type b) ≡ None
field_plain b = go b.truth where
  go : (t : Bool) → reference_of (if t then Truth else Int (least_unsigned b.width)) ≡ None
  go true = refl
  go false = refl

module _ (g : Setting) (set : Set g) (objects : Map) (s : State) (stage : Stage g s) (l : Label) (e : ExprCore) (field : ℕ) (x : ExprCore) (word_follows : RawFollows g objects s e) (value_follows : RawFollows g objects s x)
    (typed : ExprTyped g.env g.scope (core.SetField l e field x)) (small : Numbered (expr_checks (core.SetField l e field x))) where
  abbrev bits : FieldBits
  bits = typed.2.bits

  at : Laid g (type_of e) field bits
  at = laid_out g set (type_of e) typed.2.number field bits typed.2.operand typed.2.found

  abbrev word_at : ℕ → Piece
  word_at from = taken false (type_in g.frame (type_of e)) (raw g.frame e from)

  abbrev value_at : ℕ → Piece
  value_at from = taken (has_checks l) (type_in g.frame (type_of x)) (raw g.frame x from)

  field_is : field_at at.layout field ≡ bits
  field_is = (field_in_word at.layout field bits at.field_is).is

  word_plain : reference_of (type_of e) ≡ None
  word_plain = ap reference_of typed.2.operand

  value_plain : reference_of (type_of x) ≡ None
  value_plain = ap reference_of typed.2.value_is ∙ field_plain bits

  abbrev answer : ℤ → ℤ → Answer
  answer a n = changing (changed at.layout field a n)

  tells : (w : CState) (d v : Expr) (a n : ℤ) → Gives g.frame.core g.outcome s e (Num a) → Gives g.frame.core g.outcome s x (Num n) → ExactlyIs g.program w (scalar_for g.frame.table (type_of e)) d a → ExactlyIs g.program w (scalar_for g.frame.table (type_of x)) v n
      → GuardsTell g.program w (λ which. set_guard (field_at at.layout field) v) (λ which. set_settled at.layout field v) (answer a n) l.checks
      × ((r : ℤ) → answer a n ≡ Ok r → Converts g.program w (scalar.Int at.layout.word) (put_in (kind_in g.frame (type_of e)) (field_at at.layout field) d v) r)
  tells w d v a n word_given value_given exact_d exact_v =
      subst (λ k. GuardsTell g.program w (λ which. set_guard (field_at at.layout field) v) (λ which. set_settled at.layout field v) (answer a n) l.checks × ((r : ℤ) → answer a n ≡ Ok r → Converts g.program w (scalar.Int at.layout.word) (put_in k (field_at at.layout field) d v) r)) (sym at.word)
      (subst (λ b. GuardsTell g.program w (λ which. set_guard b v) (λ which. set_settled at.layout field v) (answer a n) l.checks × ((r : ℤ) → answer a n ≡ Ok r → Converts g.program w (scalar.Int at.layout.word) (put_in (Some at.layout.word) b d v) r)) (sym field_is)
      (sets_answer g.frame g.program set.target w at.layout field bits d v a n l.checks at.field_is (of_kind g set objects s stage e typed.0 word_plain at.layout.word at.word w d a word_given exact_d)
      (subst (λ ty. ExactlyIs g.program w (scalar_for g.frame.table ty) v n) typed.2.value_is exact_v)
      (subst (λ ty. IsTrue (is_value g.frame.core.structs ty n)) typed.2.value_is (is_of_type g set objects s stage x typed.1 value_plain n value_given)) typed.2.checked.of_kinds))

  abbrev parts : (ℤ → ℤ → Answer) → Part State Value
  parts f = bind (eval g.frame.core g.outcome e) (λ y. bind (eval g.frame.core g.outcome x) (λ z. on_number g.frame.core y (λ a. on_number g.frame.core z (λ b. answering g.frame.core l (f a b)))))

  form : field_set g.frame.core (type_of e) field ≡ Some answer
  form = ap (option_map (λ layout word v. changing (changed layout field word v))) at.found

  scalar_is : scalar_for g.frame.table l.ty ≡ scalar.Int at.layout.word
  scalar_is = ap (scalar_for g.frame.table) typed.2.type ∙ ap scalar_in at.word

  pairs : PieceFollows g set objects s (parts answer) (Gives g.frame.core g.outcome s (core.SetField l e field x)) l.ty (λ from. set_in g.frame l (Some at.layout) (kind_in g.frame (type_of e)) field (both (word_at from) (value_at (word_at from).next)))
  pairs =
      paired_follows g set objects s (eval g.frame.core g.outcome e) (eval g.frame.core g.outcome x) (Gives g.frame.core g.outcome s e) (Gives g.frame.core g.outcome s x) (type_of e) (type_of x) word_at value_at
      (operand_follows g set objects s stage e typed.0 word_plain word_follows false) (operand_follows g set objects s stage x typed.1 value_plain value_follows (has_checks l))
      (Gives g.frame.core g.outcome s (core.SetField l e field x)) l.ty Near refl (λ d v. put_in (kind_in g.frame (type_of e)) (field_at at.layout field) d v)
      l (first_checks l.checks (expr_checks e ++ expr_checks x) small) (subst (λ n. n ≤ 4) (sym (many_checks l.checks (set_sites bits) typed.2.checked.of_kinds)) (few_unless (bits.truth || nat_eq bits.width (width (least_unsigned bits.width))) Cast))
      (λ d v which. set_guard (field_at at.layout field) v) (λ d v which. set_settled at.layout field v) answer
      (λ w d v a n word_given value_given exact_d exact_v. (tells w d v a n word_given value_given exact_d exact_v).0)
      (λ w d v a n r word_given value_given exact_d exact_v answers.
      subst (λ k. Converts g.program w k (put_in (kind_in g.frame (type_of e)) (field_at at.layout field) d v) r) (sym scalar_is) ((tells w d v a n word_given value_given exact_d exact_v).1 r answers))
      (λ a n r word_given value_given answers. record { answer = answer; has = form; first = a; first_given = word_given; second = n; second_given = value_given; number = r; answers = answers; is = refl })

  pub set_follows : RawFollows g objects s (core.SetField l e field x)
  set_follows =
      as_raw g set objects s (core.SetField l e field x)
      (same_parts g set objects s (parts answer) (eval g.frame.core g.outcome (core.SetField l e field x)) (Gives g.frame.core g.outcome s (core.SetField l e field x)) l.ty (raw g.frame (core.SetField l e field x))
      (λ n w. sym (ap (λ f. on_some g.frame.core f (λ a. parts a) n w s) form))
      (same_pieces g set objects s (parts answer) (Gives g.frame.core g.outcome s (core.SetField l e field x)) l.ty
      (λ from. set_in g.frame l (Some at.layout) (kind_in g.frame (type_of e)) field (both (word_at from) (value_at (word_at from).next))) (raw g.frame (core.SetField l e field x))
      (λ from. sym (ap (λ found. set_in g.frame l found (kind_in g.frame (type_of e)) field (both (word_at from) (value_at (word_at from).next))) at.found)) pairs))

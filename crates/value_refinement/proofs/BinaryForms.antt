-- Operators between two numbers: of a kind, with the checks of the kind, and of truths, which are compared as they are.
use Rattle.std.proofs.Common.{◌≡◌, ℕ, ◌≤◌, ℤ, Bool, true, false, IsTrue, List, [], ◌∷◌, ◌++◌, length, map, Option, Some, None, Ok, refl, sym, ◌∙◌, ap, subst, arith}
use Rattle.std.specs.Prelude.{if◌then◌else◌}
use Rattle.std.proofs.lemmas.List.{append-nil}
use Rattle.iv_words.specs.Kinds.{is_signed}
use Rattle.iv_words.specs.declared.IntKind.{IntKind}
use Rattle.iv_words.specs.declared.IntKind.TheVariants.{U16}
use Rattle.int_ops.specs.Operators.{is_allowed}
use Rattle.int_ops.specs.declared.Op.{Op}
use Rattle.int_ops.specs.declared.Op.TheVariants as op
use Rattle.index_types.specs.Indices.{is_index}
use Rattle.ivory_tree.specs.declared.BinOp.{BinOp}
use Rattle.ivory_tree.specs.declared.BinOp.TheVariants.{OrElse, AndAlso, Or, Xor, And, Eq, Ne, Lt, Le, Gt, Ge, Shl, Shr, Add, Sub, WrapAdd, WrapSub, Mul, Div, Rem, WrapMul}
use Rattle.step_semantics.specs.Steps.{Part, bind}
use Rattle.area_types.specs.Syntax.{ValueType, Truth, Int, Ix}
use Rattle.region_check.specs.Calls.{reference_of}
use Rattle.source_types.specs.Operators.{is_for}
use Rattle.core_tree.specs.Checks.{expr_checks}
use Rattle.core_tree.specs.Operators.{divisions, operator_sites, result_type}
use Rattle.core_tree.specs.Syntax as core
use Rattle.core_tree.specs.Syntax.{ExprCore, Label, type_of}
use Rattle.core_tree.specs.TypedExpressions.{ExprTyped}
use Rattle.core_tree.specs.Types.{is_value}
use Rattle.core_tree.specs.declared.Check.{Check}
use Rattle.core_meaning.specs.Answers.{site_of, equates, operator_of, operation, in_kind}
use Rattle.core_meaning.specs.Checks.{Answer, answering, on_number, on_some}
use Rattle.core_meaning.specs.Expressions.{eval, of_numbers, combined}
use Rattle.core_meaning.specs.Gives.{Given, Gives, OfNumbers, BinaryGives}
use Rattle.core_meaning.specs.State.{State}
use Rattle.core_meaning.specs.Values.{Value, Num}
use Rattle.c_ast.specs.Syntax.{Expr}
use Rattle.c_meaning.specs.State.{CState}
use Rattle.area_objects.specs.Both.{Map}
use Rattle.overflow_checks.specs.Checks.{checks_at, checks}
use Rattle.overflow_checks.specs.Contract as contract
use Rattle.lower_types.specs.Types.{scalar_for}
use Rattle.lower_values.specs.Choices.{is_logic, is_truth_chain, left_object, logic}
use Rattle.lower_values.specs.Expressions.{raw}
use Rattle.lower_values.specs.Frames.{Frame, kind_in, type_in}
use Rattle.lower_values.specs.Operators.{guard_in, computed, compared, operand, applied, binary}
use Rattle.lower_values.specs.Pieces.{Piece, Near, taken, both}
use Rattle.lower_values.specs.Ranges.{settled}
use Rattle.lower_values.specs.Tests.{tests, are_none, has_checks}
use Rattle.form_answers.specs.Answering.{GuardsTell}
use Rattle.form_answers.specs.FormLaws.{Operand, never}
use Rattle.value_refinement.specs.Laws.{Numbered, Stage, RawFollows}
use Rattle.value_refinement.specs.Settings.{Setting, Set}
use Rattle.form_answers.specs.Standing.{ExactlyIs, Converts}
use Rattle.value_refinement.proofs.Given.{is_of_type, operand_follows, of_kind, many_checks, first_checks, last_checks}
use Rattle.value_refinement.proofs.NumberParts.{same_pieces, same_parts, paired_follows}
use Rattle.value_refinement.proofs.Operands.{PieceFollows, OperandFollows, as_raw}
use Rattle.form_answers.proofs.Operators.{operators_answer}
use Rattle.form_answers.proofs.Truths.{truths_compare}

-- ---- what operators are for

-- operands of a kind
pub record Kinded (f : Frame) (o : BinOp) (ty : ValueType) : Type 0 where
  pub kind : IntKind
  pub is : kind_in f ty ≡ Some kind
  pub form : operation (operator_of o) ty ≡ Some (in_kind (operator_of o) kind)
  pub allowed : IsTrue (is_allowed (operator_of o) kind)
  pub sites : operator_sites o ty ≡ map site_of (checks (operator_of o) kind)
  pub few : length (map site_of (checks (operator_of o) kind)) ≤ 4
  pub result : scalar_for f.table (result_type o ty) ≡ contract.result_type (operator_of o) kind
  pub plain : reference_of ty ≡ None

-- or truths, which have no checks
pub record OfTruths (o : BinOp) (ty : ValueType) : Type 0 where
  pub is : ty ≡ Truth
  pub equals : IsTrue (equates (operator_of o))
  pub sites : operator_sites o ty ≡ []
  pub result : result_type o ty ≡ Truth

pub data IsFor (f : Frame) (o : BinOp) (ty : ValueType) : Type 0 where
  Numbers : Kinded f o ty → IsFor f o ty
  Truths : OfTruths o ty → IsFor f o ty

module _ (f : Frame) where
  few_divisions : (signed : Bool) → length (map site_of (checks_at op.Div signed)) ≤ 4
  few_divisions true = omega arith
  few_divisions false = omega arith

  same_divisions : (signed : Bool) → divisions signed ≡ map site_of (checks_at op.Div signed)
  same_divisions true = refl
  same_divisions false = refl

  same_remainders : (signed : Bool) → divisions signed ≡ map site_of (checks_at op.Rem signed)
  same_remainders true = refl
  same_remainders false = refl

  few_remainders : (signed : Bool) → length (map site_of (checks_at op.Rem signed)) ≤ 4
  few_remainders true = omega arith
  few_remainders false = omega arith

  -- an operator of a kind, with these checks
  of_int : (o : BinOp) (kind : IntKind) → IsTrue (is_allowed (operator_of o) kind) → operator_sites o (Int kind) ≡ map site_of (checks (operator_of o) kind) → length (map site_of (checks (operator_of o) kind)) ≤ 4
      → scalar_for f.table (result_type o (Int kind)) ≡ contract.result_type (operator_of o) kind → IsFor f o (Int kind)
  of_int o kind allowed sites few result = Numbers (record { kind = kind; is = refl; form = refl; allowed = allowed; sites = sites; few = few; result = result; plain = refl })

  -- a comparison of indices
  of_index : (o : BinOp) (n : ℕ) → operation (operator_of o) (Ix n) ≡ Some (in_kind (operator_of o) U16) → IsTrue (is_allowed (operator_of o) U16) → operator_sites o (Ix n) ≡ map site_of (checks (operator_of o) U16) → length (map site_of (checks (operator_of o) U16)) ≤ 4
      → scalar_for f.table (result_type o (Ix n)) ≡ contract.result_type (operator_of o) U16 → IsFor f o (Ix n)
  of_index o n form allowed sites few result = Numbers (record { kind = U16; is = refl; form = form; allowed = allowed; sites = sites; few = few; result = result; plain = refl })

  pub for_operator : (o : BinOp) (ty : ValueType) → IsTrue (is_for o ty) → is_logic o ≡ false → IsFor f o ty
  for_operator Or (Int kind) h e = of_int Or kind h refl (omega arith) refl
  for_operator Xor (Int kind) h e = of_int Xor kind h refl (omega arith) refl
  for_operator And (Int kind) h e = of_int And kind h refl (omega arith) refl
  for_operator Eq Truth h e = Truths (record { is = refl; equals = refl; sites = refl; result = refl })
  for_operator Eq (Int kind) h e = of_int Eq kind refl refl (omega arith) refl
  for_operator Eq (Ix n) h e = of_index Eq n refl refl refl (omega arith) refl
  for_operator Ne Truth h e = Truths (record { is = refl; equals = refl; sites = refl; result = refl })
  for_operator Ne (Int kind) h e = of_int Ne kind refl refl (omega arith) refl
  for_operator Ne (Ix n) h e = of_index Ne n refl refl refl (omega arith) refl
  for_operator Lt (Int kind) h e = of_int Lt kind refl refl (omega arith) refl
  for_operator Lt (Ix n) h e = of_index Lt n refl refl refl (omega arith) refl
  for_operator Le (Int kind) h e = of_int Le kind refl refl (omega arith) refl
  for_operator Le (Ix n) h e = of_index Le n refl refl refl (omega arith) refl
  for_operator Gt (Int kind) h e = of_int Gt kind refl refl (omega arith) refl
  for_operator Gt (Ix n) h e = of_index Gt n refl refl refl (omega arith) refl
  for_operator Ge (Int kind) h e = of_int Ge kind refl refl (omega arith) refl
  for_operator Ge (Ix n) h e = of_index Ge n refl refl refl (omega arith) refl
  for_operator Shl (Int kind) h e = of_int Shl kind h refl (omega arith) refl
  for_operator Shr (Int kind) h e = of_int Shr kind h refl (omega arith) refl
  for_operator Add (Int kind) h e = of_int Add kind refl refl (omega arith) refl
  for_operator Sub (Int kind) h e = of_int Sub kind refl refl (omega arith) refl
  for_operator Mul (Int kind) h e = of_int Mul kind refl refl (omega arith) refl
  for_operator Div (Int kind) h e = of_int Div kind refl (same_divisions (is_signed kind)) (few_divisions (is_signed kind)) refl
  for_operator Rem (Int kind) h e = of_int Rem kind refl (same_remainders (is_signed kind)) (few_remainders (is_signed kind)) refl
  for_operator WrapAdd (Int kind) h e = of_int WrapAdd kind h refl (omega arith) refl
  for_operator WrapSub (Int kind) h e = of_int WrapSub kind h refl (omega arith) refl
  for_operator WrapMul (Int kind) h e = of_int WrapMul kind h refl (omega arith) refl
  for_operator o ty h e = let no : ⊥ = cc in absurd no

-- ---- the source's side of an operator on numbers

numbers_part : (core : core.ModuleCore) (l : Label) (o : BinOp) (ty : ValueType) (left right : Part State Value) → is_logic o ≡ false → of_numbers core l (operation (operator_of o) ty) left right ≡ combined core l o ty left right
numbers_part core l OrElse ty left right e = let no : ⊥ = cc in absurd no
numbers_part core l AndAlso ty left right e = let no : ⊥ = cc in absurd no
numbers_part core l Or ty left right e = refl
numbers_part core l Xor ty left right e = refl
numbers_part core l And ty left right e = refl
numbers_part core l Eq ty left right e = refl
numbers_part core l Ne ty left right e = refl
numbers_part core l Lt ty left right e = refl
numbers_part core l Le ty left right e = refl
numbers_part core l Gt ty left right e = refl
numbers_part core l Ge ty left right e = refl
numbers_part core l Shl ty left right e = refl
numbers_part core l Shr ty left right e = refl
numbers_part core l Add ty left right e = refl
numbers_part core l Sub ty left right e = refl
numbers_part core l WrapAdd ty left right e = refl
numbers_part core l WrapSub ty left right e = refl
numbers_part core l Mul ty left right e = refl
numbers_part core l Div ty left right e = refl
numbers_part core l Rem ty left right e = refl
numbers_part core l WrapMul ty left right e = refl

numbers_given : (o : BinOp) (ty : ValueType) (left right : Given) (x : Value) → is_logic o ≡ false → OfNumbers (operation (operator_of o) ty) left right x → BinaryGives o ty left right x
numbers_given OrElse ty left right x e h = let no : ⊥ = cc in absurd no
numbers_given AndAlso ty left right x e h = let no : ⊥ = cc in absurd no
numbers_given Or ty left right x e h = h
numbers_given Xor ty left right x e h = h
numbers_given And ty left right x e h = h
numbers_given Eq ty left right x e h = h
numbers_given Ne ty left right x e h = h
numbers_given Lt ty left right x e h = h
numbers_given Le ty left right x e h = h
numbers_given Gt ty left right x e h = h
numbers_given Ge ty left right x e h = h
numbers_given Shl ty left right x e h = h
numbers_given Shr ty left right x e h = h
numbers_given Add ty left right x e h = h
numbers_given Sub ty left right x e h = h
numbers_given WrapAdd ty left right x e h = h
numbers_given WrapSub ty left right x e h = h
numbers_given Mul ty left right x e h = h
numbers_given Div ty left right x e h = h
numbers_given Rem ty left right x e h = h
numbers_given WrapMul ty left right x e h = h

-- ---- the forms

module _ (g : Setting) (set : Set g) (objects : Map) (s : State) (stage : Stage g s) (l : Label) (o : BinOp) (left right : ExprCore) (left_follows : RawFollows g objects s left) (right_follows : RawFollows g objects s right)
    (typed : ExprTyped g.env g.scope (core.Binary l o left right)) (small : Numbered (expr_checks (core.Binary l o left right))) (no_logic : is_logic o ≡ false) where
  abbrev from_type : ValueType
  from_type = type_of left

  abbrev left_at : ℕ → Piece
  left_at from = taken (has_checks l) (type_in g.frame from_type) (raw g.frame left from)

  abbrev right_at : ℕ → Piece
  right_at from = taken (has_checks l) (type_in g.frame from_type) (raw g.frame right from)

  own_small : Numbered l.checks
  own_small = first_checks l.checks (expr_checks right) (last_checks (expr_checks left) (l.checks ++ expr_checks right) small)

  -- as the C of an operator on numbers
  raw_is : (from : ℕ) → binary g.frame (operator_of o) l from_type (left_at from) (raw g.frame right (left_at from).next) ≡ raw g.frame (core.Binary l o left right) from
  raw_is from =
      ap (λ b. let p : Piece = if b then left_object g.frame (is_truth_chain left) (raw g.frame left from) else operand g.frame l from_type (raw g.frame left from) in
      if b then logic o p (raw g.frame right p.next) else binary g.frame (operator_of o) l from_type p (raw g.frame right p.next)) (sym no_logic)

  abbrev op_of : Op
  op_of = operator_of o

  -- the right operand, whose type is that of the left one
  right_operand : reference_of from_type ≡ None → OperandFollows g set objects s (eval g.frame.core g.outcome right) (Gives g.frame.core g.outcome s right) from_type right_at
  right_operand plain =
      subst (λ ty. OperandFollows g set objects s (eval g.frame.core g.outcome right) (Gives g.frame.core g.outcome s right) ty (λ from. taken (has_checks l) (type_in g.frame ty) (raw g.frame right from))) typed.2.same
      (operand_follows g set objects s stage right typed.1 (ap reference_of typed.2.same ∙ plain) right_follows (has_checks l))

  -- from the parts of an operator on two numbers to the operator
  abbrev parts : (ℤ → ℤ → Answer) → Part State Value
  parts answer = bind (eval g.frame.core g.outcome left) (λ x. bind (eval g.frame.core g.outcome right) (λ y. on_number g.frame.core x (λ a. on_number g.frame.core y (λ b. answering g.frame.core l (answer a b)))))

  by_form : (answer : ℤ → ℤ → Answer) → operation op_of from_type ≡ Some answer → (p : ℕ → Piece) → ((from : ℕ) → p from ≡ raw g.frame (core.Binary l o left right) from)
      → PieceFollows g set objects s (parts answer) (Gives g.frame.core g.outcome s (core.Binary l o left right)) l.ty p → RawFollows g objects s (core.Binary l o left right)
  by_form answer form p same h =
      as_raw g set objects s (core.Binary l o left right)
      (same_parts g set objects s (parts answer) (eval g.frame.core g.outcome (core.Binary l o left right)) (Gives g.frame.core g.outcome s (core.Binary l o left right)) l.ty (raw g.frame (core.Binary l o left right))
      (λ n w. sym (ap (λ f. on_some g.frame.core f (λ a. parts a) n w s) form) ∙ ap (λ part. part n w s) (numbers_part g.frame.core l o from_type (eval g.frame.core g.outcome left) (eval g.frame.core g.outcome right) no_logic))
      (same_pieces g set objects s (parts answer) (Gives g.frame.core g.outcome s (core.Binary l o left right)) l.ty p (raw g.frame (core.Binary l o left right)) same h))

  gives : (answer : ℤ → ℤ → Answer) → operation op_of from_type ≡ Some answer → (a b v : ℤ) → Gives g.frame.core g.outcome s left (Num a) → Gives g.frame.core g.outcome s right (Num b) → answer a b ≡ Ok v → Gives g.frame.core g.outcome s (core.Binary l o left right) (Num v)
  gives answer form a b v first second answers =
      numbers_given o from_type (Gives g.frame.core g.outcome s left) (Gives g.frame.core g.outcome s right) (Num v) no_logic
      (record { answer = answer; has = form; first = a; first_given = first; second = b; second_given = second; number = v; answers = answers; is = refl })

  -- ---- on numbers of a kind

  module _ (k : Kinded g.frame o from_type) where
    abbrev kind : IntKind
    kind = k.kind

    abbrev answer : ℤ → ℤ → Answer
    answer = in_kind op_of kind

    sites : map (λ c. c.kind) l.checks ≡ map site_of (checks op_of kind)
    sites = typed.2.checked.of_kinds ∙ k.sites

    left_is : (w : CState) (d : Expr) (a : ℤ) → Gives g.frame.core g.outcome s left (Num a) → ExactlyIs g.program w (scalar_for g.frame.table from_type) d a → Operand g.program w kind d a
    left_is w d a given exact = of_kind g set objects s stage left typed.0 k.plain kind k.is w d a given exact

    right_is : (w : CState) (d : Expr) (a : ℤ) → Gives g.frame.core g.outcome s right (Num a) → ExactlyIs g.program w (scalar_for g.frame.table from_type) d a → Operand g.program w kind d a
    right_is w d a given exact =
        of_kind g set objects s stage right typed.1 (ap reference_of typed.2.same ∙ k.plain) kind (ap (kind_in g.frame) typed.2.same ∙ k.is) w d a given
        (subst (λ ty. ExactlyIs g.program w (scalar_for g.frame.table ty) d a) (sym typed.2.same) exact)

    tells : (w : CState) (d e : Expr) (a b : ℤ) → Gives g.frame.core g.outcome s left (Num a) → Gives g.frame.core g.outcome s right (Num b) → ExactlyIs g.program w (scalar_for g.frame.table from_type) d a → ExactlyIs g.program w (scalar_for g.frame.table from_type) e b
        → GuardsTell g.program w (guard_in g.frame kind op_of d e) (settled kind op_of e) (answer a b) l.checks × ((v : ℤ) → answer a b ≡ Ok v → Converts g.program w (contract.result_type op_of kind) (computed kind op_of d e) v)
    tells w d e a b first second exact_d exact_e =
        operators_answer g.frame g.program set.target w op_of kind d e a b l.checks k.allowed (left_is w d a first exact_d) (right_is w e b second exact_e) sites

    of_a_kind : PieceFollows g set objects s (parts answer) (Gives g.frame.core g.outcome s (core.Binary l o left right)) l.ty (λ from. applied g.frame (Some kind) op_of l (both (left_at from) (right_at (left_at from).next)))
    of_a_kind =
        paired_follows g set objects s (eval g.frame.core g.outcome left) (eval g.frame.core g.outcome right) (Gives g.frame.core g.outcome s left) (Gives g.frame.core g.outcome s right) from_type from_type left_at right_at
        (operand_follows g set objects s stage left typed.0 k.plain left_follows (has_checks l)) (right_operand k.plain)
        (Gives g.frame.core g.outcome s (core.Binary l o left right)) l.ty Near refl (λ d e. computed kind op_of d e)
        l own_small (subst (λ n. n ≤ 4) (sym (many_checks l.checks (map site_of (checks op_of kind)) sites)) k.few) (λ d e. guard_in g.frame kind op_of d e) (λ d e. settled kind op_of e) answer
        (λ w d e a b first second exact_d exact_e. (tells w d e a b first second exact_d exact_e).0)
        (λ w d e a b v first second exact_d exact_e answers.
        subst (λ c. Converts g.program w c (computed kind op_of d e) v) (sym (ap (scalar_for g.frame.table) typed.2.type ∙ k.result)) ((tells w d e a b first second exact_d exact_e).1 v answers))
        (gives answer k.form)

    kinded_follows : RawFollows g objects s (core.Binary l o left right)
    kinded_follows =
        by_form answer k.form (λ from. applied g.frame (Some kind) op_of l (both (left_at from) (right_at (left_at from).next)))
        (λ from. sym (ap (λ c. applied g.frame c op_of l (both (left_at from) (right_at (left_at from).next))) k.is) ∙ raw_is from) of_a_kind

  -- ---- on truths

  no_checks : (cs : List Check) → map (λ c. c.kind) cs ≡ [] → cs ≡ []
  no_checks [] e = refl
  no_checks (c ∷ cs) e = let no : ⊥ = cc in absurd no

  module _ (k : OfTruths o from_type) where
    unchecked : l.checks ≡ []
    unchecked = no_checks l.checks (typed.2.checked.of_kinds ∙ k.sites)

    truth_plain : reference_of from_type ≡ None
    truth_plain = ap reference_of k.is

    truth_form : operation op_of from_type ≡ Some (in_kind op_of U16)
    truth_form = ap (operation op_of) k.is ∙ ap (λ b. let f : Option (ℤ → ℤ → Answer) = if b then Some (in_kind op_of U16) else None in f) k.equals

    truth_value : (e : ExprCore) → ExprTyped g.env g.scope e → type_of e ≡ Truth → (a : ℤ) → Gives g.frame.core g.outcome s e (Num a) → IsTrue (is_index 2 a)
    truth_value e t is a given = subst (λ ty. IsTrue (is_value g.frame.core.structs ty a)) is (is_of_type g set objects s stage e t (ap reference_of is) a given)

    abbrev joined : ℕ → List Check → Piece
    joined from cs =
        let row = tests g.frame (λ which. (left_at from).value) never cs in
        record {
          before = ((left_at from).before ++ (right_at (left_at from).next).before) ++ row;
          value = compared op_of (left_at from).value (right_at (left_at from).next).value;
          owed = are_none row;
          standing = Near;
          next = (right_at (left_at from).next).next;
        }

    without_row : (from : ℕ) → joined from l.checks ≡ applied g.frame None op_of l (both (left_at from) (right_at (left_at from).next))
    without_row from =
        ap (joined from) unchecked
        ∙ ap (λ ss. let q : Piece = record { before = ss; value = compared op_of (left_at from).value (right_at (left_at from).next).value; owed = true; standing = Near; next = (right_at (left_at from).next).next } in q)
        (append-nil ((left_at from).before ++ (right_at (left_at from).next).before))

    of_truths : PieceFollows g set objects s (parts (in_kind op_of U16)) (Gives g.frame.core g.outcome s (core.Binary l o left right)) l.ty (λ from. joined from l.checks)
    of_truths =
        paired_follows g set objects s (eval g.frame.core g.outcome left) (eval g.frame.core g.outcome right) (Gives g.frame.core g.outcome s left) (Gives g.frame.core g.outcome s right) from_type from_type left_at right_at
        (operand_follows g set objects s stage left typed.0 truth_plain left_follows (has_checks l)) (right_operand truth_plain)
        (Gives g.frame.core g.outcome s (core.Binary l o left right)) l.ty Near refl (λ d e. compared op_of d e)
        l own_small (subst (λ n. n ≤ 4) (sym (ap length unchecked)) (omega arith)) (λ d e which. d) (λ d e. never) (in_kind op_of U16)
        (λ w d e a b first second exact_d exact_e. subst (GuardsTell g.program w (λ which. d) never (in_kind op_of U16 a b)) (sym unchecked) tt)
        (λ w d e a b v first second exact_d exact_e answers.
        subst (λ c. Converts g.program w c (compared op_of d e) v) (sym (ap (scalar_for g.frame.table) (typed.2.type ∙ k.result)))
        (truths_compare g.program w op_of d e a b v k.equals (subst (λ ty. ExactlyIs g.program w (scalar_for g.frame.table ty) d a) k.is exact_d) (subst (λ ty. ExactlyIs g.program w (scalar_for g.frame.table ty) e b) k.is exact_e)
        (truth_value left typed.0 k.is a first) (truth_value right typed.1 (typed.2.same ∙ k.is) b second) answers))
        (gives (in_kind op_of U16) truth_form)

    truths_follow : RawFollows g objects s (core.Binary l o left right)
    truths_follow =
        by_form (in_kind op_of U16) truth_form (λ from. joined from l.checks)
        (λ from. without_row from ∙ sym (ap (λ c. applied g.frame c op_of l (both (left_at from) (right_at (left_at from).next))) (ap (kind_in g.frame) k.is)) ∙ raw_is from) of_truths

  pub binary_follows : RawFollows g objects s (core.Binary l o left right)
  binary_follows = by_operands (for_operator g.frame o from_type typed.2.is_for no_logic) where
    by_operands : IsFor g.frame o from_type → RawFollows g objects s (core.Binary l o left right)
    by_operands (Numbers k) = kinded_follows k
    by_operands (Truths k) = truths_follow k

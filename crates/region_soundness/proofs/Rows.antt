-- Operators answer numbers of their types, row by row, and have a check for each stop.
use Rattle.std.proofs.Common.{◌≡◌, ℕ, ◌/◌, ◌^◌, ◌<◌, ℤ, pos, negsuc, Bool, true, false, not, if◌then◌else◌, List, ◌∷◌, [], Some, Result, Ok, Err, IfOk, IfErr, IsTrue, arith, refl, sym, subst, ◌∙◌}
use Rattle.std.specs.Prelude.{int_div, int_lt, int_le}
use Rattle.std.specs.Ordering.{int_eq}
use Rattle.std.proofs.lemmas.Int.{ints}
use Rattle.std.proofs.lemmas.Nat.{pow_pos}
use Rattle.std.proofs.Math.Nat.{div-le_self}
use Rattle.iv_words.specs.declared.IntKind.{IntKind}
use Rattle.iv_words.specs.declared.IntKind.TheVariants.{U16}
use Rattle.iv_words.specs.Kinds.{width, is_signed, in_range_of, in_range}
use Rattle.int_ops.specs.Operators.{truth, is_allowed, exact}
use Rattle.int_ops.specs.declared.Op.{Op}
use Rattle.int_ops.specs.declared.Op.TheVariants as op
use Rattle.int_ops.specs.declared.Stop.{Stop}
use Rattle.int_ops.specs.declared.Stop.TheVariants as stop
use Rattle.int_ops.proofs.Answers.{answer_in_range}
use Rattle.ivory_tree.specs.declared.BinOp.{BinOp}
use Rattle.ivory_tree.specs.declared.BinOp.TheVariants.{OrElse, AndAlso, Or, Xor, And, Eq, Ne, Lt, Le, Gt, Ge, Shl, Shr, Add, Sub, WrapAdd, WrapSub, Mul, Div, Rem, WrapMul}
use Rattle.ivory_tree.specs.declared.PrefixOp.{PrefixOp}
use Rattle.ivory_tree.specs.declared.PrefixOp.TheVariants.{Neg, Not, Flip}
use Rattle.area_types.specs.Syntax.{ValueType, Truth, Int, Ix}
use Rattle.area_types.specs.Tables.{Table}
use Rattle.source_types.specs.Operators.{is_for, is_logic, is_arithmetic, prefix_is_for}
use Rattle.source_types.specs.Values.{is_truth}
use Rattle.core_tree.specs.declared.Check.{Check}
use Rattle.core_tree.specs.declared.SiteKind.TheVariants.{Overflow, DivZero, Shift}
use Rattle.core_tree.specs.Syntax.{Label}
use Rattle.core_tree.specs.Operators.{prefix_sites, result_type, operator_sites, divisions}
use Rattle.core_tree.specs.Types.{is_value}
use Rattle.core_tree.specs.TypedExpressions.{Checked, PrefixTyped, BinaryTyped}
use Rattle.core_meaning.specs.Checks.{covered}
use Rattle.core_meaning.specs.Answers.{operator_of, site_of, stopping, in_kind, operation, prefix_operation}
use Rattle.region_soundness.proofs.Answered.{Answered, AnswersOne, AnswersTwo, kind_covered, number, failing}

-- ---- stops

-- the checks cover the stop
abbrev Stops : List Check → Result ℤ Stop → Type 0
Stops checks r = IfErr r (λ s. IsTrue (covered (Err (site_of s)) checks))

stops_if : (checks : List Check) (test : Bool) (v : ℤ) (s : Stop) → IsTrue (covered (Err (site_of s)) checks) → Stops checks (if test then Ok v else Err s)
stops_if checks true v s h = tt
stops_if checks false v s h = h

never_stops : (checks : List Check) (test : Bool) (v : ℤ) (s : Stop) → IsTrue test → Stops checks (if test then Ok v else Err s)
never_stops checks true v s h = tt
never_stops checks false v s h = let no : ⊥ = cc in absurd no

stops_unless : (checks : List Check) (test : Bool) (s : Stop) (r : Result ℤ Stop) → IsTrue (covered (Err (site_of s)) checks) → Stops checks r → Stops checks (if test then Err s else r)
stops_unless checks true s r h k = h
stops_unless checks false s r h k = k

-- ---- division

natural : (bits n : ℕ) → n < 2 ^ bits → IsTrue (in_range_of bits false (pos n))
natural bits n l = grind (arith, ints)

below : (bits n : ℕ) → IsTrue (in_range_of bits false (pos n)) → n < 2 ^ bits
below bits n h = let p = pow_pos bits in grind (arith, ints)

-- an unsigned quotient is no greater than what is divided
quotient_in_range : (bits : ℕ) (a b : ℤ) → IsTrue (in_range_of bits false a) → IsTrue (in_range_of bits false b) → IsTrue (in_range_of bits false (int_div a b))
quotient_in_range bits (pos a) (pos b) h k = let l = below bits a h in let m = div-le_self a b in natural bits (a / b) (omega arith)
quotient_in_range bits (pos a) (negsuc b) h k = cc
quotient_in_range bits (negsuc a) b h k = cc

-- a division whose quotient is asked to be in range
divided : (checks : List Check) (bits : ℕ) (signed : Bool) (a b v : ℤ) → Checked checks (divisions signed) → IsTrue (in_range_of bits signed a) → IsTrue (in_range_of bits signed b)
    → Stops checks (if int_eq b (pos 0) then Err stop.DivZero else (if in_range_of bits signed (int_div a b) then Ok v else Err stop.Overflow))
divided checks bits true a b v c h k =
    stops_unless checks (int_eq b (pos 0)) stop.DivZero _ (kind_covered checks (divisions true) DivZero c refl)
    (stops_if checks (in_range_of bits true (int_div a b)) v stop.Overflow (kind_covered checks (divisions true) Overflow c refl))
divided checks bits false a b v c h k =
    stops_unless checks (int_eq b (pos 0)) stop.DivZero _ (kind_covered checks (divisions false) DivZero c refl)
    (never_stops checks (in_range_of bits false (int_div a b)) v stop.Overflow (quotient_in_range bits a b h k))

-- ---- operators by the kind of their operands

module _ (table : Table) (l : Label) where
  answered : (r : Result ℤ Stop) → IfOk r (λ v. IsTrue (is_value table l.ty v)) → Stops l.checks r → Answered table l (stopping r)
  answered (Ok v) h s = number table l v h
  answered (Err at) h s = failing table l (site_of at) s

  -- the answer on a kind is one of the kind
  of_kind : (o : Op) (kind : IntKind) (a b : ℤ) → l.ty ≡ Int kind → IsTrue (is_allowed o kind) → IsTrue (in_range kind a) → IsTrue (in_range kind b) → Stops l.checks (exact o kind a b) → Answered table l (in_kind o kind a b)
  of_kind o kind a b ty allowed h k s =
      answered (exact o kind a b) (subst (λ t. IfOk (exact o kind a b) (λ v. IsTrue (is_value table t v))) (sym ty) (answer_in_range o kind a b (exact o kind a b) refl allowed h (λ _. k))) s

  arithmetic : (o : Op) (kind : IntKind) → l.ty ≡ Int kind → IsTrue (is_allowed o kind) → ((a b : ℤ) → IsTrue (in_range kind a) → IsTrue (in_range kind b) → Stops l.checks (exact o kind a b))
      → AnswersTwo table (Int kind) (Int kind) l (Some (in_kind o kind))
  arithmetic o kind ty allowed s = record { answer = in_kind o kind; has = refl; each = λ a b h k. of_kind o kind a b ty allowed h k (s a b h k) }

  truth_answered : (holds : Bool) → l.ty ≡ Truth → Answered table l (Ok (truth holds))
  truth_answered true ty = number table l (pos 1) (subst (λ t. IsTrue (is_value table t (pos 1))) (sym ty) refl)
  truth_answered false ty = number table l (pos 0) (subst (λ t. IsTrue (is_value table t (pos 0))) (sym ty) refl)

  comparison : (o : Op) (kind : IntKind) (ty : ValueType) → l.ty ≡ Truth → (test : ℤ → ℤ → Bool) → ((a b : ℤ) → exact o kind a b ≡ Ok (truth (test a b))) → AnswersTwo table ty ty l (Some (in_kind o kind))
  comparison o kind ty is test e = record {
    answer = in_kind o kind;
    has = refl;
    each = λ a b h k. subst (λ r. Answered table l (stopping r)) (sym (e a b)) (truth_answered (test a b) is);
  }

  row : (o : BinOp) (ty : ValueType) → IsTrue (is_for o ty) → l.ty ≡ result_type o ty → Checked l.checks (operator_sites o ty) → IsTrue (not (is_logic o)) → AnswersTwo table ty ty l (operation (operator_of o) ty)
  row Or (Int kind) f is c p = arithmetic op.Or kind is f (λ a b h k. tt)
  row Xor (Int kind) f is c p = arithmetic op.Xor kind is f (λ a b h k. tt)
  row And (Int kind) f is c p = arithmetic op.And kind is f (λ a b h k. tt)
  row Eq Truth f is c p = comparison op.Eq U16 Truth is (λ a b. int_eq a b) (λ a b. refl)
  row Eq (Int kind) f is c p = comparison op.Eq kind (Int kind) is (λ a b. int_eq a b) (λ a b. refl)
  row Eq (Ix n) f is c p = comparison op.Eq U16 (Ix n) is (λ a b. int_eq a b) (λ a b. refl)
  row Ne Truth f is c p = comparison op.Ne U16 Truth is (λ a b. not (int_eq a b)) (λ a b. refl)
  row Ne (Int kind) f is c p = comparison op.Ne kind (Int kind) is (λ a b. not (int_eq a b)) (λ a b. refl)
  row Ne (Ix n) f is c p = comparison op.Ne U16 (Ix n) is (λ a b. not (int_eq a b)) (λ a b. refl)
  row Lt (Int kind) f is c p = comparison op.Lt kind (Int kind) is (λ a b. int_lt a b) (λ a b. refl)
  row Lt (Ix n) f is c p = comparison op.Lt U16 (Ix n) is (λ a b. int_lt a b) (λ a b. refl)
  row Le (Int kind) f is c p = comparison op.Le kind (Int kind) is (λ a b. int_le a b) (λ a b. refl)
  row Le (Ix n) f is c p = comparison op.Le U16 (Ix n) is (λ a b. int_le a b) (λ a b. refl)
  row Gt (Int kind) f is c p = comparison op.Gt kind (Int kind) is (λ a b. int_lt b a) (λ a b. refl)
  row Gt (Ix n) f is c p = comparison op.Gt U16 (Ix n) is (λ a b. int_lt b a) (λ a b. refl)
  row Ge (Int kind) f is c p = comparison op.Ge kind (Int kind) is (λ a b. int_le b a) (λ a b. refl)
  row Ge (Ix n) f is c p = comparison op.Ge U16 (Ix n) is (λ a b. int_le b a) (λ a b. refl)
  row Shl (Int kind) f is c p = arithmetic op.Shl kind is f (λ a b h k. stops_if l.checks _ _ stop.Shift (kind_covered l.checks (Shift ∷ []) Shift c refl))
  row Shr (Int kind) f is c p = arithmetic op.Shr kind is f (λ a b h k. stops_if l.checks _ _ stop.Shift (kind_covered l.checks (Shift ∷ []) Shift c refl))
  row Add (Int kind) f is c p = arithmetic op.Add kind is refl (λ a b h k. stops_if l.checks _ _ stop.Overflow (kind_covered l.checks (Overflow ∷ []) Overflow c refl))
  row Sub (Int kind) f is c p = arithmetic op.Sub kind is refl (λ a b h k. stops_if l.checks _ _ stop.Overflow (kind_covered l.checks (Overflow ∷ []) Overflow c refl))
  row Mul (Int kind) f is c p = arithmetic op.Mul kind is refl (λ a b h k. stops_if l.checks _ _ stop.Overflow (kind_covered l.checks (Overflow ∷ []) Overflow c refl))
  row Div (Int kind) f is c p = arithmetic op.Div kind is refl (λ a b h k. divided l.checks (width kind) (is_signed kind) a b _ c h k)
  row Rem (Int kind) f is c p = arithmetic op.Rem kind is refl (λ a b h k. divided l.checks (width kind) (is_signed kind) a b _ c h k)
  row WrapAdd (Int kind) f is c p = arithmetic op.WrapAdd kind is f (λ a b h k. tt)
  row WrapSub (Int kind) f is c p = arithmetic op.WrapSub kind is f (λ a b h k. tt)
  row WrapMul (Int kind) f is c p = arithmetic op.WrapMul kind is f (λ a b h k. tt)
  row o ty f is c p = let no : ⊥ = cc in absurd no

-- every operator on two numbers; `&&` and `||` are none
pub operator_answers : (table : Table) (l : Label) (o : BinOp) (left right : ValueType) → BinaryTyped l o left right → IsTrue (not (is_logic o)) → AnswersTwo table left right l (operation (operator_of o) left)
operator_answers table l o left right t plain = subst (λ ty. AnswersTwo table left ty l (operation (operator_of o) left)) (sym t.same) (row table l o left t.is_for t.type t.checked plain)

-- ---- prefixes

-- the operator on numbers of `-` and `~`; `!` and `*` are none
abbrev pub prefix_of : PrefixOp → Op
prefix_of Neg = op.Neg
prefix_of _ = op.Not

module _ (table : Table) (l : Label) where
  prefix_row : (o : PrefixOp) (ty : ValueType) → IsTrue (prefix_is_for o ty) → l.ty ≡ ty → Checked l.checks (prefix_sites o) → IsTrue (is_arithmetic o) → AnswersOne table ty l (prefix_operation (prefix_of o) ty)
  prefix_row Neg (Int kind) f is c p = record {
    answer = λ a. in_kind op.Neg kind a a;
    has = refl;
    each = λ a h. of_kind table l op.Neg kind a a is f h h (stops_if l.checks _ _ stop.Overflow (kind_covered l.checks (Overflow ∷ []) Overflow c refl));
  }
  prefix_row Flip (Int kind) f is c p = record { answer = λ a. in_kind op.Not kind a a; has = refl; each = λ a h. of_kind table l op.Not kind a a is f h h tt }
  prefix_row o ty f is c p = let no : ⊥ = cc in absurd no

pub prefix_answers : (table : Table) (l : Label) (o : PrefixOp) (from : ValueType) → PrefixTyped l o from → IsTrue (is_arithmetic o) → AnswersOne table from l (prefix_operation (prefix_of o) from)
prefix_answers table l o from t plain = prefix_row table l o from t.is_for t.type t.checked plain

-- ---- truths

truth_is : (ty : ValueType) → IsTrue (is_truth ty) → ty ≡ Truth
truth_is Truth h = refl
truth_is ty h = let no : ⊥ = cc in absurd no

-- `&&` and `||` are of truths
pub record AreTruths (l : Label) (left right : ValueType) : Type 0 where
  pub left_is : left ≡ Truth
  pub right_is : right ≡ Truth
  pub type : l.ty ≡ Truth

pub logical_types : (l : Label) (o : BinOp) (left right : ValueType) → BinaryTyped l o left right → IsTrue (is_logic o) → AreTruths l left right
logical_types l o left right t h = go o t.is_for t.type h
  where
    go : (o : BinOp) → IsTrue (is_for o left) → l.ty ≡ result_type o left → IsTrue (is_logic o) → AreTruths l left right
    go OrElse f is h = let e = truth_is left f in record { left_is = e; right_is = t.same ∙ e; type = is ∙ e }
    go AndAlso f is h = let e = truth_is left f in record { left_is = e; right_is = t.same ∙ e; type = is ∙ e }
    go o f is h = let no : ⊥ = cc in absurd no

pub negated_types : (l : Label) (from : ValueType) → PrefixTyped l Not from → (from ≡ Truth) × (l.ty ≡ Truth)
negated_types l from t = let e = truth_is from t.is_for in (e, t.type ∙ e)

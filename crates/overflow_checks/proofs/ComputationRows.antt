-- Each computation comes to what its operator answers.
use Rattle.std.proofs.Common.{◌≡◌, ℕ, ℤ, pos, ◌+ℤ◌, ◌-ℤ◌, ◌*ℤ◌, neg_ℤ, Bool, true, false, not, IsTrue, Some, Result, Ok, Err, refl, sym, subst, ap, ◌∙◌}
use Rattle.std.specs.Prelude.{if◌then◌else◌, int_div, int_lt, int_le, bit_and, bit_or, bit_xor}
use Rattle.std.specs.Int.{int_div_euclid}
use Rattle.std.specs.Ordering.{int_eq}
use Rattle.iv_words.specs.Kinds.{in_range_of, in_range, greatest_of, width, is_signed}
use Rattle.iv_words.specs.declared.IntKind.{IntKind}
use Rattle.iv_words.specs.Bits.{modulo, two_to}
use Rattle.int_ops.specs.Operators.{is_allowed, is_allowed_at, is_binary, exact, exact_at, bitwise, truth}
use Rattle.int_ops.specs.declared.Op.{Op}
use Rattle.int_ops.specs.declared.Op.TheVariants as op
use Rattle.int_ops.specs.declared.Stop.{Stop}
use Rattle.int_ops.specs.declared.Stop.TheVariants.{Overflow, DivZero, Shift}
use Rattle.int_ops.proofs.Answers.{answer_in_range}
use Rattle.c_ast.specs.declared.Target.{Target}
use Rattle.c_ast.specs.declared.CScalar.TheVariants.{Truth, Int as Exact}
use Rattle.c_ast.specs.Syntax.{Expr}
use Rattle.c_ast.specs.Targets.{table_of}
use Rattle.c_ast.specs.Conversions.{converted}
use Rattle.c_meaning.specs.Operators as c
use Rattle.c_meaning.specs.State.{Program, CState}
use Rattle.c_meaning.specs.Expressions.{eval}
use Rattle.c_ast.proofs.Conversions.{held_stays}
use Rattle.iv_words.proofs.Modular.{modulo_of_held}
use Rattle.overflow_checks.specs.Contract.{IsGiven, IsOperand, OperandsStandFor, result_type, ComesTo, IsComputation}
use Rattle.overflow_checks.specs.Parts.{operand_of}
use Rattle.overflow_checks.specs.Forms.{computation_of, computation_for}
use Rattle.overflow_checks.proofs.Tables.{CTable, table_of_target}
use Rattle.overflow_checks.proofs.Given.{operand_is_given}
use Rattle.overflow_checks.proofs.Rows.{AreGiven, Tests, GivesNumber}
use Rattle.iv_words.proofs.Widths.{range_of_sign}
use Rattle.overflow_checks.proofs.TruthRows.{eq_tests, ne_tests, lt_tests, le_tests, gt_tests, ge_tests}
use Rattle.overflow_checks.proofs.UnsignedResults.{GivesModulo}
use Rattle.overflow_checks.proofs.UnsignedResults as unsigned
use Rattle.overflow_checks.proofs.SignedRows as signed

-- ---- what an answer says

abbrev AreSame : (r q : Result ℤ Stop) → Type 0
AreSame r q = r ≡ q

ok_is : (z v : ℤ) → AreSame (Ok z) (Ok v) → z ≡ v
ok_is z v e = cc

pub record Answered (test : Bool) (z v : ℤ) : Type 0 where
  pub holds : IsTrue test
  pub is : z ≡ v

tested : (why : Stop) (z v : ℤ) (test : Bool) → (if test then Ok z else Err why) ≡ Ok v → Answered test z v
tested why z v true e = record { holds = refl; is = ok_is z v e }
tested why z v false e = let no : ⊥ = cc in absurd no

pub record Divided (zero_divisor fits : Bool) (q v : ℤ) : Type 0 where
  pub nonzero : zero_divisor ≡ false
  pub fitted : IsTrue fits
  pub is_answer : q ≡ v

divided : (zero_divisor fits : Bool) (q v : ℤ) → (if zero_divisor then Err DivZero else (if fits then Ok q else Err Overflow)) ≡ Ok v → Divided zero_divisor fits q v
divided true fits q v e = let no : ⊥ = cc in absurd no
divided false fits q v e = let a = tested Overflow q v fits e in record { nonzero = refl; fitted = a.holds; is_answer = a.is }

module _ (p : Program) (s : CState) (table : CTable (table_of p.target)) (kind : IntKind) where
  abbrev w : ℕ
  w = width kind

  -- ---- what the expressions come to

  by_modulo : is_signed kind ≡ false → (e : Expr) (z v : ℤ) → GivesModulo p s w e z → modulo w z ≡ v → ComesTo p.target (Exact kind) v (eval p e s)
  by_modulo sign e z v g is =
      subst (ComesTo p.target (Exact kind) v) (sym g.gives) (ap (λ signed_one. converted w signed_one g.number) sign ∙ ap Some (g.reduced ∙ is))

  by_number : (e : Expr) (z v : ℤ) → GivesNumber p s e z → z ≡ v → IsTrue (in_range kind v) → ComesTo p.target (Exact kind) v (eval p e s)
  by_number e z v g is h =
      subst (ComesTo p.target (Exact kind) v) (sym g.gives) (ap (converted w (is_signed kind)) is ∙ held_stays w (is_signed kind) v h)

  truth_comes : (holds : Bool) → ComesTo p.target Truth (truth holds) (Ok (c.truth holds))
  truth_comes true = refl
  truth_comes false = refl

  by_truth : (e : Expr) (holds : Bool) (v : ℤ) → Tests p s e holds → AreSame (Ok (truth holds)) (Ok v) → ComesTo p.target Truth v (eval p e s)
  by_truth e holds v h is =
      subst (ComesTo p.target Truth v) (sym h) (subst (λ u. ComesTo p.target Truth u (Ok (c.truth holds))) (ok_is (truth holds) v is) (truth_comes holds))

  -- ---- rows

  module _ (a b : Expr) (x y v : ℤ) (v_in : IsTrue (in_range kind v)) where
    both : IsGiven p s kind a x → IsGiven p s kind b y → AreGiven p s kind a b x y
    both g h = record { table = table; left = g; right = h }

    stays : is_signed kind ≡ false → (z : ℤ) → z ≡ v → modulo w z ≡ v
    stays sign z is = ap (modulo w) is ∙ modulo_of_held w v (range_of_sign kind false sign v v_in)

    pub computation_row : (o : Op) (signed_one : Bool) → is_signed kind ≡ signed_one → IsTrue (is_allowed_at o signed_one) → IsGiven p s kind a x → (IsTrue (is_binary o) → IsGiven p s kind b y)
        → exact_at o w signed_one x y ≡ Ok v → ComesTo p.target (result_type o kind) v (eval p (computation_of w signed_one o a b) s)
    computation_row op.Add false e u g h is =
        let t = tested Overflow (x +ℤ y) v (in_range_of w false (x +ℤ y)) is in by_modulo e _ (x +ℤ y) v (unsigned.sum_gives p s kind e a b x y (both g (h refl))) (stays e (x +ℤ y) t.is)
    computation_row op.Add true e u g h is =
        let t = tested Overflow (x +ℤ y) v (in_range_of w true (x +ℤ y)) is in by_number _ (x +ℤ y) v (signed.sum_computed p s kind e a b x y (both g (h refl)) t.holds) t.is v_in
    computation_row op.Sub false e u g h is =
        let t = tested Overflow (x -ℤ y) v (in_range_of w false (x -ℤ y)) is in by_modulo e _ (x -ℤ y) v (unsigned.difference_gives p s kind e a b x y (both g (h refl))) (stays e (x -ℤ y) t.is)
    computation_row op.Sub true e u g h is =
        let t = tested Overflow (x -ℤ y) v (in_range_of w true (x -ℤ y)) is in by_number _ (x -ℤ y) v (signed.difference_computed p s kind e a b x y (both g (h refl)) t.holds) t.is v_in
    computation_row op.Mul false e u g h is =
        let t = tested Overflow (x *ℤ y) v (in_range_of w false (x *ℤ y)) is in by_modulo e _ (x *ℤ y) v (unsigned.product_of_gives p s kind e a b x y (both g (h refl))) (stays e (x *ℤ y) t.is)
    computation_row op.Mul true e u g h is =
        let t = tested Overflow (x *ℤ y) v (in_range_of w true (x *ℤ y)) is in by_number _ (x *ℤ y) v (signed.product_computed p s kind e a b x y (both g (h refl)) t.holds) t.is v_in
    computation_row op.Div false e u g h is =
        let t = divided (int_eq y (pos 0)) (in_range_of w false (int_div x y)) (int_div x y) v is in
        by_modulo e _ (int_div x y) v (unsigned.quotient_gives p s kind e a b x y (both g (h refl)) t.nonzero) (stays e (int_div x y) t.is_answer)
    computation_row op.Div true e u g h is =
        let t = divided (int_eq y (pos 0)) (in_range_of w true (int_div x y)) (int_div x y) v is in
        by_number _ (int_div x y) v (signed.quotient_computed p s kind e a b x y (both g (h refl)) t.nonzero t.fitted) t.is_answer v_in
    computation_row op.Rem false e u g h is =
        let r = x -ℤ int_div x y *ℤ y in
        let t = divided (int_eq y (pos 0)) (in_range_of w false (int_div x y)) r v is in
        by_modulo e _ r v (unsigned.remainder_gives p s kind e a b x y (both g (h refl)) t.nonzero) (stays e r t.is_answer)
    computation_row op.Rem true e u g h is =
        let r = x -ℤ int_div x y *ℤ y in
        let t = divided (int_eq y (pos 0)) (in_range_of w true (int_div x y)) r v is in
        by_number _ r v (signed.remainder_computed p s kind e a b x y (both g (h refl)) t.nonzero t.fitted) t.is_answer v_in
    computation_row op.Neg true e u g h is =
        let t = tested Overflow (neg_ℤ x) v (in_range_of w true (neg_ℤ x)) is in by_number _ (neg_ℤ x) v (signed.opposite_computed p s kind e table a x g t.holds) t.is v_in
    computation_row op.Not false e u g h is =
        let z = greatest_of w false -ℤ x in by_modulo e _ z v (unsigned.flip_gives p s kind e table a x g) (stays e z (ok_is z v is))
    computation_row op.Shl false e u g h is =
        let z = x *ℤ two_to y in
        let t = tested Shift (modulo w z) v (int_lt y (pos w)) is in by_modulo e _ z v (unsigned.left_shift_gives p s kind e a b x y (both g (h refl)) t.holds) t.is
    computation_row op.Shr false e u g h is =
        let z = int_div_euclid x (two_to y) in
        let t = tested Shift z v (int_lt y (pos w)) is in by_modulo e _ z v (unsigned.right_shift_gives p s kind e a b x y (both g (h refl)) t.holds) (stays e z t.is)
    computation_row op.And false e u g h is = let z = bitwise bit_and x y in by_modulo e _ z v (unsigned.and_gives p s kind e a b x y (both g (h refl))) (stays e z (ok_is z v is))
    computation_row op.Or false e u g h is = let z = bitwise bit_or x y in by_modulo e _ z v (unsigned.or_gives p s kind e a b x y (both g (h refl))) (stays e z (ok_is z v is))
    computation_row op.Xor false e u g h is = let z = bitwise bit_xor x y in by_modulo e _ z v (unsigned.xor_gives p s kind e a b x y (both g (h refl))) (stays e z (ok_is z v is))
    computation_row op.WrapAdd false e u g h is = by_modulo e _ (x +ℤ y) v (unsigned.sum_gives p s kind e a b x y (both g (h refl))) (ok_is (modulo w (x +ℤ y)) v is)
    computation_row op.WrapSub false e u g h is = by_modulo e _ (x -ℤ y) v (unsigned.difference_gives p s kind e a b x y (both g (h refl))) (ok_is (modulo w (x -ℤ y)) v is)
    computation_row op.WrapMul false e u g h is = by_modulo e _ (x *ℤ y) v (unsigned.product_of_gives p s kind e a b x y (both g (h refl))) (ok_is (modulo w (x *ℤ y)) v is)
    computation_row op.Eq signed_one e u g h is = by_truth (computation_of w signed_one op.Eq a b) (int_eq x y) v (eq_tests p s kind a b x y (both g (h refl))) is
    computation_row op.Ne signed_one e u g h is = by_truth (computation_of w signed_one op.Ne a b) (not (int_eq x y)) v (ne_tests p s kind a b x y (both g (h refl))) is
    computation_row op.Lt signed_one e u g h is = by_truth (computation_of w signed_one op.Lt a b) (int_lt x y) v (lt_tests p s kind a b x y (both g (h refl))) is
    computation_row op.Le signed_one e u g h is = by_truth (computation_of w signed_one op.Le a b) (int_le x y) v (le_tests p s kind a b x y (both g (h refl))) is
    computation_row op.Gt signed_one e u g h is = by_truth (computation_of w signed_one op.Gt a b) (int_lt y x) v (gt_tests p s kind a b x y (both g (h refl))) is
    computation_row op.Ge signed_one e u g h is = by_truth (computation_of w signed_one op.Ge a b) (int_le y x) v (ge_tests p s kind a b x y (both g (h refl))) is
    computation_row o signed_one e u g h is = let no : ⊥ = cc in absurd no

-- ---- the promise

computation_here : (p : Program) (s : CState) (o : Op) (kind : IntKind) (a b : Expr) (x y v : ℤ) → IsTrue (is_allowed o kind) → OperandsStandFor p s o kind a b x y → exact o kind x y ≡ Ok v
    → IsOperand p.target kind a → (IsTrue (is_binary o) → IsOperand p.target kind b) → ComesTo p.target (result_type o kind) v (eval p (computation_for (width kind) (is_signed kind) o a b) s)
computation_here p s o kind a b x y v allowed stands is left right =
    let g = operand_is_given p s kind a x left stands.left in
    let h : IsTrue (is_binary o) → IsGiven p s kind (operand_of (width kind) (is_signed kind) b) y = λ two. operand_is_given p s kind b y (right two) (stands.right two) in
    let v_in : IsTrue (in_range kind v) = answer_in_range o kind x y (Ok v) (sym is) allowed g.is_in (λ two. let i = h two in i.is_in) in
    computation_row p s (table_of_target p.target) kind (operand_of (width kind) (is_signed kind) a) (operand_of (width kind) (is_signed kind) b) x y v v_in o (is_signed kind) refl allowed g h is

pub computations_are_right : (t : Target) (o : Op) (kind : IntKind) (a b : Expr) → IsTrue (is_allowed o kind) → IsOperand t kind a → (IsTrue (is_binary o) → IsOperand t kind b)
    → IsComputation t o kind a b (computation_for (width kind) (is_signed kind) o a b)
computations_are_right t o kind a b allowed left right p s x y v same stands is =
    subst (λ u. IsOperand u kind a → (IsTrue (is_binary o) → IsOperand u kind b) → ComesTo u (result_type o kind) v (eval p (computation_for (width kind) (is_signed kind) o a b) s)) same
    (λ l r. computation_here p s o kind a b x y v allowed stands is l r) left right

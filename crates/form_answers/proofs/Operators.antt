-- The guards and the computation of an operator, on operands that stand exactly for their numbers, do what overflow_checks promises of them.
use Rattle.std.proofs.Common.{◌≡◌, ℕ, zero, suc, ℤ, pos, Bool, true, false, not, IsTrue, Result, Ok, Err, arith, refl, sym, subst, ap, ◌∙◌}
use Rattle.std.specs.Prelude.{◌≢◌, ◌-ℤ◌, ◌*ℤ◌, if◌then◌else◌, int_div, int_lt, nat_eq, List, [], ◌∷◌, All, map, Some}
use Rattle.std.specs.Ordering.{int_eq}
use Rattle.std.specs.Bool.{Decides}
use Rattle.std.proofs.lemmas.Bool.Decides.{Decides-int_eq, Decides-not, Decides-like, same_from_decides}
use Rattle.std.proofs.lemmas.List.Elements.{All-nil, All-cons}
use Rattle.iv_words.specs.Kinds.{in_range_of, width, is_signed}
use Rattle.iv_words.specs.declared.IntKind.{IntKind}
use Rattle.iv_words.proofs.Widths.{range_of_sign}
use Rattle.int_ops.specs.Operators.{is_allowed, exact}
use Rattle.int_ops.specs.declared.Op.{Op}
use Rattle.int_ops.specs.declared.Op.TheVariants as op
use Rattle.int_ops.specs.declared.Stop.{Stop}
use Rattle.int_ops.specs.declared.Stop.TheVariants.{Overflow, DivZero, Shift}
use Rattle.core_tree.specs.declared.SiteKind.{SiteKind}
use Rattle.core_tree.specs.declared.SiteKind.TheVariants as site
use Rattle.core_meaning.specs.Answers.{site_of, stopping, in_kind}
use Rattle.core_meaning.specs.Checks.{holds}
use Rattle.c_ast.specs.declared.CScalar.{CScalar}
use Rattle.c_ast.specs.declared.CKind.TheVariants.{Scalar}
use Rattle.c_ast.specs.Conversions.{convert}
use Rattle.c_ast.specs.Syntax.{Expr, Number, Read, Address, Unary, Binary, Cast, Cond}
use Rattle.c_meaning.specs.Values.{Trouble, CValue, Num, Ptr, is_true, on_ok}
use Rattle.c_meaning.specs.State.{Program, CState}
use Rattle.c_meaning.specs.Expressions.{eval}
use Rattle.overflow_checks.specs.Checks.{checks, checks_at, is_among, up_to}
use Rattle.overflow_checks.specs.Contract.{IsOperand, OperandsStandFor, IsTestOf, ComesTo, result_type}
use Rattle.overflow_checks.specs.Forms.{guard_for}
use Rattle.overflow_checks.proofs.ComputationRows.{computations_are_right}
use Rattle.overflow_checks.proofs.GuardRows.{guards_are_right}
use Rattle.overflow_checks.proofs.SignedNumbers.{quotient_test}
use Rattle.lower_values.specs.Frames.{Frame, int_bits_of}
use Rattle.lower_values.specs.Operators.{guard_in, computed}
use Rattle.lower_values.specs.Ranges.{settled, settled_by, is_division}
use Rattle.form_answers.specs.FormLaws.{Operand, OperatorsAnswer}
use Rattle.form_answers.specs.Standing.{Converts, TestIs}
use Rattle.form_answers.proofs.ExactOperands.{is_operand, stands_for}
use Rattle.form_answers.proofs.Guards.{Tells, EachTells, guards_tell, tells}

-- ---- what a value says that is 0 exactly where the operator stops

held_decides : (which : Stop) (answer : Result ℤ Stop) → Decides (holds (stopping answer) (site_of which)) (answer ≢ Err which)
held_decides which (Ok v) = (λ held e. cc, λ other. refl)
held_decides Overflow (Err Overflow) = (λ held. cc, λ other. absurd (other refl))
held_decides DivZero (Err DivZero) = (λ held. cc, λ other. absurd (other refl))
held_decides Shift (Err Shift) = (λ held. cc, λ other. absurd (other refl))
held_decides Overflow (Err DivZero) = (λ held e. cc, λ other. refl)
held_decides Overflow (Err Shift) = (λ held e. cc, λ other. refl)
held_decides DivZero (Err Overflow) = (λ held e. cc, λ other. refl)
held_decides DivZero (Err Shift) = (λ held e. cc, λ other. refl)
held_decides Shift (Err Overflow) = (λ held e. cc, λ other. refl)
held_decides Shift (Err DivZero) = (λ held e. cc, λ other. refl)

module _ (o : Op) (kind : IntKind) (x y : ℤ) where
  abbrev check_holds : Stop → Bool
  check_holds which = holds (in_kind o kind x y) (site_of which)

  true_where_it_holds : (which : Stop) (r : Result CValue Trouble) → IsTestOf o kind which x y r → on_ok r is_true ≡ Ok (check_holds which)
  true_where_it_holds which (Ok (Num of_kind v)) zero_where =
      let is_not = not (int_eq v (pos 0)) in
      let d : Decides is_not (exact o kind x y ≢ Err which) =
      Decides-like is_not (λ some e. some (zero_where.1 e)) (λ other z. other (zero_where.0 z)) (Decides-not (int_eq v (pos 0)) (Decides-int_eq v (pos 0))) in
      ap Ok (same_from_decides is_not (check_holds which) d (held_decides which (exact o kind x y)))
  true_where_it_holds which (Ok (Ptr constant base to)) no_value = absurd no_value
  true_where_it_holds which (Err trouble) no_value = absurd no_value

-- ---- what a constant right operand settles

-- what a quotient and a remainder answer
abbrev divided : (zero_divisor fits : Bool) → ℤ → Result ℤ Stop
divided zero_divisor fits v = if zero_divisor then Err DivZero else (if fits then Ok v else Err Overflow)

not_by_zero : (zero_divisor fits : Bool) (v : ℤ) → zero_divisor ≡ false → IsTrue (holds (stopping (divided zero_divisor fits v)) site.DivZero)
not_by_zero true fits v other = cc
not_by_zero false true v other = refl
not_by_zero false false v other = refl

quotient_fits : (zero_divisor fits : Bool) (v : ℤ) → (zero_divisor ≡ false → IsTrue fits) → IsTrue (holds (stopping (divided zero_divisor fits v)) site.Overflow)
quotient_fits true fits v h = refl
quotient_fits false fits v h = subst (λ b. IsTrue (holds (stopping (divided false b v)) site.Overflow)) (sym (h refl)) refl

shift_is_small : (small : Bool) (v : ℤ) → IsTrue small → IsTrue (holds (stopping (if small then Ok v else Err Shift)) site.Shift)
shift_is_small true v h = refl
shift_is_small false v h = cc

other_than_zero : (n : ℕ) → not (nat_eq n 0) ≡ true → int_eq (pos n) (pos 0) ≡ false
other_than_zero zero e = cc
other_than_zero (suc n) e = let d = Decides-int_eq (pos (suc n)) (pos 0) in grind arith

-- the constant right operand that settles a check
pub record SettledBy (kind : IntKind) (o : Op) (which : SiteKind) (y : ℤ) : Type 0 where
  pub number : ℕ
  pub is_value : pos number ≡ y
  pub settles : settled_by number kind o which ≡ true

settled_number : (p : Program) (u : CState) (kind : IntKind) (b : Expr) (y : ℤ) → Operand p u kind b y → (o : Op) (which : SiteKind) → settled kind o b which ≡ true → SettledBy kind o which y
settled_number p u kind (Number n suffix) y r o which e = record { number = n; is_value = r.exact.0; settles = e }
settled_number p u kind (Read place) y r o which e = cc
settled_number p u kind (Address place) y r o which e = cc
settled_number p u kind (Unary op e) y r o which is = cc
settled_number p u kind (Binary op a b) y r o which e = cc
settled_number p u kind (Cast to e) y r o which is = cc
settled_number p u kind (Cond c a b) y r o which e = cc

module _ (f : Frame) (p : Program) (same : f.target ≡ p.target) (u : CState) (kind : IntKind) (a b : Expr) (x y : ℤ) (l : Operand p u kind a x) (r : Operand p u kind b y) where
  abbrev w : ℕ
  w = width kind

  is_operand_there : (e : Expr) (n : ℤ) → Operand p u kind e n → IsOperand f.target kind e
  is_operand_there e n h = subst (λ t. IsOperand t kind e) (sym same) (is_operand p u kind e n h)

  stand_for : (o : Op) → OperandsStandFor p u o kind a b x y
  stand_for o = record { left = stands_for p u kind a x l; right = λ two. stands_for p u kind b y r }

  -- ---- guards

  -- none of these checks fails
  abbrev Passed : Op → List Stop → Type 0
  Passed o stops = All (λ earlier. exact o kind x y ≢ Err earlier) stops

  module _ (o : Op) (allowed : IsTrue (is_allowed o kind)) (signed : Bool) (sign : is_signed kind ≡ signed) where
    test_is : (which : Stop) → IsTrue (is_among (checks_at o signed) which) → Passed o (up_to (checks_at o signed) which)
        → TestIs p u (guard_for (int_bits_of f) (width kind) (is_signed kind) o which a b) (check_holds o kind x y which)
    test_is which check before =
        true_where_it_holds o kind x y which _
        (guards_are_right f.target o kind which a b allowed (subst (λ s. IsTrue (is_among (checks_at o s) which)) (sym sign) check) (is_operand_there a x l) (λ two. is_operand_there b y r)
        p u x y (sym same) (stand_for o) (subst (λ s. Passed o (up_to (checks_at o s) which)) (sym sign) before))

    abbrev TellsOf : Stop → Type 0
    TellsOf which = Tells p u (guard_in f kind o a b) (settled kind o b) (in_kind o kind x y) (site_of which)

    none_before : Passed o []
    none_before = All-nil (λ earlier. exact o kind x y ≢ Err earlier)

    overflow_tells : IsTrue (is_among (checks_at o signed) Overflow) → is_division o ≡ false → Passed o (up_to (checks_at o signed) Overflow) → TellsOf Overflow
    overflow_tells check other before =
        tells (settled kind o b site.Overflow) p u (guard_in f kind o a b site.Overflow) (check_holds o kind x y Overflow)
        (λ s. let q = settled_number p u kind b y r o site.Overflow s in let no : false ≡ true = sym other ∙ q.settles in cc)
        (test_is Overflow check before)

    shift_tells : (v : ℤ) → IsTrue (is_among (checks_at o signed) Shift) → exact o kind x y ≡ (if int_lt y (pos w) then Ok v else Err Shift) → Passed o (up_to (checks_at o signed) Shift) → TellsOf Shift
    shift_tells v check is before =
        tells (settled kind o b site.Shift) p u (guard_in f kind o a b site.Shift) (check_holds o kind x y Shift)
        (λ s. let q = settled_number p u kind b y r o site.Shift s in
        subst (λ answer. IsTrue (holds (stopping answer) site.Shift)) (sym is) (shift_is_small (int_lt y (pos w)) v (subst (λ z. int_lt z (pos w) ≡ true) q.is_value q.settles)))
        (test_is Shift check before)

    module _ (v : ℤ) (is : exact o kind x y ≡ divided (int_eq y (pos 0)) (in_range_of w (is_signed kind) (int_div x y)) v) where
      divisor_tells : IsTrue (is_among (checks_at o signed) DivZero) → Passed o (up_to (checks_at o signed) DivZero) → TellsOf DivZero
      divisor_tells check before =
          tells (settled kind o b site.DivZero) p u (guard_in f kind o a b site.DivZero) (check_holds o kind x y DivZero)
          (λ s. let q = settled_number p u kind b y r o site.DivZero s in
          subst (λ answer. IsTrue (holds (stopping answer) site.DivZero)) (sym is)
          (not_by_zero (int_eq y (pos 0)) (in_range_of w (is_signed kind) (int_div x y)) v (subst (λ z. int_eq z (pos 0) ≡ false) q.is_value (other_than_zero q.number q.settles))))
          (test_is DivZero check before)

      -- a quotient by a number from 0 is in the range
      natural_quotient : signed ≡ true → (n : ℕ) → int_eq (pos n) (pos 0) ≡ false → IsTrue (in_range_of w (is_signed kind) (int_div x (pos n)))
      natural_quotient s n other =
          let e = sign ∙ s in
          subst (λ b. IsTrue (in_range_of w b (int_div x (pos n)))) (sym e) (sym (quotient_test w x (pos n) other (range_of_sign kind true e x l.is_in)))

      quotient_tells : signed ≡ true → IsTrue (is_among (checks_at o signed) Overflow) → Passed o (up_to (checks_at o signed) Overflow) → TellsOf Overflow
      quotient_tells s check before =
          tells (settled kind o b site.Overflow) p u (guard_in f kind o a b site.Overflow) (check_holds o kind x y Overflow)
          (λ z. let q = settled_number p u kind b y r o site.Overflow z in
          subst (λ answer. IsTrue (holds (stopping answer) site.Overflow)) (sym is)
          (quotient_fits (int_eq y (pos 0)) (in_range_of w (is_signed kind) (int_div x y)) v
          (subst (λ m. int_eq m (pos 0) ≡ false → IsTrue (in_range_of w (is_signed kind) (int_div x m))) q.is_value (natural_quotient s q.number))))
          (test_is Overflow check before)

      divisor_before : IsTrue (check_holds o kind x y DivZero) → Passed o (DivZero ∷ [])
      divisor_before h = All-cons (λ earlier. exact o kind x y ≢ Err earlier) DivZero [] ((held_decides DivZero (exact o kind x y)).0 h) none_before

  each_tells : (o : Op) → IsTrue (is_allowed o kind) → (signed : Bool) → is_signed kind ≡ signed
      → EachTells p u (guard_in f kind o a b) (settled kind o b) (in_kind o kind x y) (map site_of (checks_at o signed))
  each_tells op.Add h signed e = (overflow_tells op.Add h signed e refl refl (none_before op.Add h signed e), λ held. tt)
  each_tells op.Sub h signed e = (overflow_tells op.Sub h signed e refl refl (none_before op.Sub h signed e), λ held. tt)
  each_tells op.Mul h signed e = (overflow_tells op.Mul h signed e refl refl (none_before op.Mul h signed e), λ held. tt)
  each_tells op.Neg h signed e = (overflow_tells op.Neg h signed e refl refl (none_before op.Neg h signed e), λ held. tt)
  each_tells op.Shl h signed e = (shift_tells op.Shl h signed e _ refl refl (none_before op.Shl h signed e), λ held. tt)
  each_tells op.Shr h signed e = (shift_tells op.Shr h signed e _ refl refl (none_before op.Shr h signed e), λ held. tt)
  each_tells op.Div h false e = (divisor_tells op.Div h false e (int_div x y) refl refl (none_before op.Div h false e), λ held. tt)
  each_tells op.Rem h false e = (divisor_tells op.Rem h false e (x -ℤ int_div x y *ℤ y) refl refl (none_before op.Rem h false e), λ held. tt)
  each_tells op.Div h true e =
      let v = int_div x y in
      (divisor_tells op.Div h true e v refl refl (none_before op.Div h true e), λ held. (quotient_tells op.Div h true e v refl refl refl (divisor_before op.Div h true e v refl held), λ fits. tt))
  each_tells op.Rem h true e =
      let v = x -ℤ int_div x y *ℤ y in
      (divisor_tells op.Rem h true e v refl refl (none_before op.Rem h true e), λ held. (quotient_tells op.Rem h true e v refl refl refl (divisor_before op.Rem h true e v refl held), λ fits. tt))
  each_tells op.And h signed e = tt
  each_tells op.Or h signed e = tt
  each_tells op.Xor h signed e = tt
  each_tells op.Not h signed e = tt
  each_tells op.WrapAdd h signed e = tt
  each_tells op.WrapSub h signed e = tt
  each_tells op.WrapMul h signed e = tt
  each_tells op.Eq h signed e = tt
  each_tells op.Ne h signed e = tt
  each_tells op.Lt h signed e = tt
  each_tells op.Le h signed e = tt
  each_tells op.Gt h signed e = tt
  each_tells op.Ge h signed e = tt

  -- ---- computations

  answered : (given : Result ℤ Stop) (v : ℤ) → stopping given ≡ Ok v → given ≡ Ok v
  answered (Ok n) v e = let is : n ≡ v = cc in ap Ok is
  answered (Err which) v e = cc

  comes_to : (to : CScalar) (e : Expr) (v : ℤ) (got : Result CValue Trouble) → eval p e u ≡ got → ComesTo f.target to v got → Converts p u to e v
  comes_to to e v (Ok (Num from n)) is c = record { kind = from; number = n; gives = is; converted = subst (λ t. convert t (Scalar to) n ≡ Some v) same c }
  comes_to to e v (Ok (Ptr constant base at)) is c = absurd c
  comes_to to e v (Err trouble) is c = absurd c

  converts : (o : Op) → IsTrue (is_allowed o kind) → (v : ℤ) → in_kind o kind x y ≡ Ok v → Converts p u (result_type o kind) (computed kind o a b) v
  converts o h v e =
      comes_to (result_type o kind) (computed kind o a b) v (eval p (computed kind o a b) u) refl
      (computations_are_right f.target o kind a b h (is_operand_there a x l) (λ two. is_operand_there b y r) p u x y v (sym same) (stand_for o) (answered (exact o kind x y) v e))

pub operators_answer : OperatorsAnswer
operators_answer f p same u o kind a b x y cs allowed l r kinds = (
  guards_tell p u (guard_in f kind o a b) (settled kind o b) (in_kind o kind x y) cs (map site_of (checks o kind)) kinds
      (each_tells f p same u kind a b x y l r o allowed (is_signed kind) refl),
  λ v e. converts f p same u kind a b x y l r o allowed v e,
)

-- Each guard is 0 exactly where its operator stops for the reason that is checked.
use Rattle.std.proofs.Common.{◌≡◌, ℕ, ℤ, pos, ◌+ℤ◌, ◌-ℤ◌, ◌*ℤ◌, neg_ℤ, Bool, true, false, not, IsTrue, Result, Ok, Err, refl, sym, subst, ap, ◌∙◌}
use Rattle.std.specs.Prelude.{◌≢◌, if◌then◌else◌, int_div, int_lt, [], All}
use Rattle.std.specs.Int.{int_div_euclid}
use Rattle.std.specs.Ordering.{int_eq}
use Rattle.std.proofs.Math.IntN.{*ℤ_comm}
use Rattle.std.proofs.lemmas.List.Elements.{All-head}
use Rattle.iv_words.specs.Kinds.{in_range_of, width, is_signed}
use Rattle.iv_words.specs.declared.IntKind.{IntKind}
use Rattle.run_records.specs.declared.Reason.{Reason}
use Rattle.iv_words.specs.Bits.{modulo, two_to}
use Rattle.int_ops.specs.Operators.{is_allowed, is_allowed_at, is_binary, exact, exact_at}
use Rattle.int_ops.specs.declared.Op.{Op}
use Rattle.int_ops.specs.declared.Op.TheVariants as op
use Rattle.int_ops.specs.declared.Stop.{Stop}
use Rattle.int_ops.specs.declared.Stop.TheVariants.{Overflow, DivZero, Shift}
use Rattle.c_ast.specs.declared.Target.{Target}
use Rattle.c_ast.specs.Syntax.{Expr}
use Rattle.c_ast.specs.Targets.{table_of}
use Rattle.c_meaning.specs.Values.{Trouble, CValue}
use Rattle.c_meaning.specs.Operators.{truth}
use Rattle.c_meaning.specs.State.{Program, CState}
use Rattle.c_meaning.specs.Expressions.{eval}
use Rattle.overflow_checks.specs.Checks.{checks_at, is_among, up_to, is_check, checks_before}
use Rattle.overflow_checks.specs.Contract.{IsGiven, IsOperand, OperandsStandFor, IsTestOf, IsGuard}
use Rattle.overflow_checks.specs.Parts.{operand_of, is_constant}
use Rattle.overflow_checks.specs.UnsignedForms.{divisor_is_some, shift_fits}
use Rattle.overflow_checks.specs.SignedForms.{opposite_fits, quotient_fits}
use Rattle.overflow_checks.specs.Forms.{sum_guard, difference_guard, product_guard, is_turned, turned_guard, guard_for}
use Rattle.overflow_checks.proofs.Tables.{CTable, table_of_target}
use Rattle.overflow_checks.proofs.Given.{operand_is_given}
use Rattle.overflow_checks.proofs.Rows.{AreGiven, Tests}
use Rattle.overflow_checks.proofs.TruthRows.{divisor_tested}
use Rattle.overflow_checks.proofs.UnsignedRows as unsigned
use Rattle.overflow_checks.proofs.SignedRows as signed

-- ---- where an operator stops

-- an answer stops exactly where a test fails
pub record StopsWhere (why : Stop) (answer : Result ℤ Stop) (holds : Bool) : Type 0 where
  pub stops : holds ≡ false → answer ≡ Err why
  pub stopped : answer ≡ Err why → holds ≡ false

tested_answer : (why : Stop) (v : ℤ) (test : Bool) → StopsWhere why (if test then Ok v else Err why) test
tested_answer why v true = record { stops = λ e. cc; stopped = λ e. cc }
tested_answer why v false = record { stops = λ e. refl; stopped = λ e. refl }

-- a quotient's answer: it stops first where the divisor is 0
abbrev of_quotient : Bool → Bool → ℤ → Result ℤ Stop
of_quotient zero_divisor fits v = if zero_divisor then Err DivZero else (if fits then Ok v else Err Overflow)

zero_stops : (zero_divisor fits : Bool) (v : ℤ) → StopsWhere DivZero (of_quotient zero_divisor fits v) (not zero_divisor)
zero_stops true fits v = record { stops = λ e. refl; stopped = λ e. refl }
zero_stops false true v = record { stops = λ e. cc; stopped = λ e. cc }
zero_stops false false v = record { stops = λ e. cc; stopped = λ e. cc }

quotient_stops : (zero_divisor fits : Bool) (v : ℤ) → zero_divisor ≡ false → StopsWhere Overflow (of_quotient zero_divisor fits v) fits
quotient_stops true fits v e = cc
quotient_stops false fits v e = tested_answer Overflow v fits

not_zero : (zero_divisor fits : Bool) (v : ℤ) → of_quotient zero_divisor fits v ≢ Err DivZero → zero_divisor ≡ false
not_zero true fits v n = absurd (n refl)
not_zero false fits v n = refl

-- ---- rows

-- the guard of a row tests what makes the operator stop
pub record GuardRow (p : Program) (s : CState) (bits : ℕ) (signed_one : Bool) (o : Op) (which : Stop) (guard : Expr) (x y : ℤ) : Type 0 where
  pub holds : Bool
  pub tests : Tests p s guard holds
  pub where_it_stops : StopsWhere which (exact_at o bits signed_one x y) holds

module _ (p : Program) (s : CState) (table : CTable (table_of p.target)) (kind : IntKind) where
  abbrev n : ℕ
  n = (table_of p.target).int_bits

  abbrev w : ℕ
  w = width kind

  sum_tests : (signed_one : Bool) → is_signed kind ≡ signed_one → (a b : Expr) (x y : ℤ) → AreGiven p s kind a b x y → Tests p s (sum_guard n w signed_one a b) (in_range_of w signed_one (x +ℤ y))
  sum_tests true e a b x y g = signed.sum_guarded p s kind e a b x y g
  sum_tests false e a b x y g = unsigned.sum_tested p s kind e a b x y g

  difference_tests : (signed_one : Bool) → is_signed kind ≡ signed_one → (a b : Expr) (x y : ℤ) → AreGiven p s kind a b x y → Tests p s (difference_guard n w signed_one a b) (in_range_of w signed_one (x -ℤ y))
  difference_tests true e a b x y g = signed.difference_guarded p s kind e a b x y g
  difference_tests false e a b x y g = unsigned.difference_tested p s kind e a b x y g

  product_tests : (signed_one : Bool) → is_signed kind ≡ signed_one → (a b : Expr) (x y : ℤ) → AreGiven p s kind a b x y → Tests p s (product_guard w signed_one a b) (in_range_of w signed_one (x *ℤ y))
  product_tests true e a b x y g = signed.product_guarded p s kind e a b x y g
  product_tests false e a b x y g = unsigned.product_tested p s kind e a b x y g

  product_row : (signed_one : Bool) → is_signed kind ≡ signed_one → (a b : Expr) (x y : ℤ) → IsGiven p s kind a x → IsGiven p s kind b y → (turned : Bool)
      → GuardRow p s w signed_one op.Mul Overflow (turned_guard n w signed_one op.Mul Overflow turned a b) x y
  product_row signed_one e a b x y g h false =
      record {
        holds = in_range_of w signed_one (x *ℤ y);
        tests = product_tests signed_one e a b x y (record { table = table; left = g; right = h });
        where_it_stops = tested_answer Overflow (x *ℤ y) (in_range_of w signed_one (x *ℤ y));
      }
  product_row signed_one e a b x y g h true =
      record {
        holds = in_range_of w signed_one (x *ℤ y);
        tests = product_tests signed_one e b a y x (record { table = table; left = h; right = g }) ∙ ap (λ z. Ok (truth (in_range_of w signed_one z))) (*ℤ_comm y x);
        where_it_stops = tested_answer Overflow (x *ℤ y) (in_range_of w signed_one (x *ℤ y));
      }

  module _ (signed_one : Bool) (e : is_signed kind ≡ signed_one) (a b : Expr) (x y : ℤ) where
    divisor_row : (o : Op) → (v : ℤ) → (is : exact_at o w signed_one x y ≡ of_quotient (int_eq y (pos 0)) (in_range_of w signed_one (int_div x y)) v) → IsGiven p s kind b y → GuardRow p s w signed_one o DivZero (divisor_is_some b) x y
    divisor_row o v is h =
        record {
          holds = not (int_eq y (pos 0));
          tests = divisor_tested p s table kind b y h;
          where_it_stops = subst (λ r. StopsWhere DivZero r (not (int_eq y (pos 0)))) (sym is) (zero_stops (int_eq y (pos 0)) (in_range_of w signed_one (int_div x y)) v);
        }

    quotient_row : signed_one ≡ true → (o : Op) → (v : ℤ) → (is : exact_at o w signed_one x y ≡ of_quotient (int_eq y (pos 0)) (in_range_of w signed_one (int_div x y)) v) → IsGiven p s kind a x → IsGiven p s kind b y
        → exact_at o w signed_one x y ≢ Err DivZero → GuardRow p s w signed_one o Overflow (quotient_fits w a b) x y
    quotient_row sign o v is g h earlier =
        let fits = in_range_of w signed_one (int_div x y) in
        let nonzero = not_zero (int_eq y (pos 0)) fits v (λ f. earlier (is ∙ f)) in
        record {
          holds = fits;
          tests = signed.quotient_guarded p s kind (e ∙ sign) a b x y (record { table = table; left = g; right = h }) nonzero ∙ ap (λ b. Ok (truth (in_range_of w b (int_div x y)))) (sym sign);
          where_it_stops = subst (λ r. StopsWhere Overflow r fits) (sym is) (quotient_stops (int_eq y (pos 0)) fits v nonzero);
        }

    shift_row : signed_one ≡ false → (o : Op) (v : ℤ) → (is : exact_at o w signed_one x y ≡ (if int_lt y (pos w) then Ok v else Err Shift)) → IsGiven p s kind b y → GuardRow p s w signed_one o Shift (shift_fits w b) x y
    shift_row sign o v is h =
        record {
          holds = int_lt y (pos w);
          tests = unsigned.shift_tested p s table kind (e ∙ sign) b y h;
          where_it_stops = subst (λ r. StopsWhere Shift r (int_lt y (pos w))) (sym is) (tested_answer Shift v (int_lt y (pos w)));
        }

  opposite_row : is_signed kind ≡ true → (a : Expr) (x y : ℤ) → IsGiven p s kind a x → GuardRow p s w true op.Neg Overflow (opposite_fits w a) x y
  opposite_row e a x y g =
      record {
        holds = in_range_of w true (neg_ℤ x);
        tests = signed.opposite_guarded p s kind e table a x g;
        where_it_stops = tested_answer Overflow (neg_ℤ x) (in_range_of w true (neg_ℤ x));
      }

  -- `raw` is the left operand as it was handed in
  pub guard_row : (o : Op) (which : Stop) (signed_one : Bool) → is_signed kind ≡ signed_one → (raw a b : Expr) (x y : ℤ)
      → IsTrue (is_allowed_at o signed_one) → IsTrue (is_among (checks_at o signed_one) which) → IsGiven p s kind a x → (IsTrue (is_binary o) → IsGiven p s kind b y)
      → All (λ earlier. exact_at o w signed_one x y ≢ Err earlier) (up_to (checks_at o signed_one) which)
      → GuardRow p s w signed_one o which (turned_guard n w signed_one o which (is_turned o raw) a b) x y
  guard_row op.Add Overflow signed_one e raw a b x y u c g h before =
      record {
        holds = in_range_of w signed_one (x +ℤ y);
        tests = sum_tests signed_one e a b x y (record { table = table; left = g; right = h refl });
        where_it_stops = tested_answer Overflow (x +ℤ y) (in_range_of w signed_one (x +ℤ y));
      }
  guard_row op.Sub Overflow signed_one e raw a b x y u c g h before =
      record {
        holds = in_range_of w signed_one (x -ℤ y);
        tests = difference_tests signed_one e a b x y (record { table = table; left = g; right = h refl });
        where_it_stops = tested_answer Overflow (x -ℤ y) (in_range_of w signed_one (x -ℤ y));
      }
  guard_row op.Mul Overflow signed_one e raw a b x y u c g h before = product_row signed_one e a b x y g (h refl) (is_constant raw)
  guard_row op.Neg Overflow true e raw a b x y u c g h before = opposite_row e a x y g
  guard_row op.Div DivZero signed_one e raw a b x y u c g h before = divisor_row signed_one e a b x y op.Div (int_div x y) refl (h refl)
  guard_row op.Rem DivZero signed_one e raw a b x y u c g h before = divisor_row signed_one e a b x y op.Rem (x -ℤ int_div x y *ℤ y) refl (h refl)
  guard_row op.Div Overflow true e raw a b x y u c g h before =
      quotient_row true e a b x y refl op.Div (int_div x y) refl g (h refl) (All-head (λ earlier. exact_at op.Div w true x y ≢ Err earlier) DivZero [] before)
  guard_row op.Rem Overflow true e raw a b x y u c g h before =
      quotient_row true e a b x y refl op.Rem (x -ℤ int_div x y *ℤ y) refl g (h refl) (All-head (λ earlier. exact_at op.Rem w true x y ≢ Err earlier) DivZero [] before)
  guard_row op.Shl Shift false e raw a b x y u c g h before = shift_row false e a b x y refl op.Shl (modulo w (x *ℤ two_to y)) refl (h refl)
  guard_row op.Shr Shift false e raw a b x y u c g h before = shift_row false e a b x y refl op.Shr (int_div_euclid x (two_to y)) refl (h refl)
  guard_row o which true e raw a b x y u c g h before = let no : ⊥ = cc in absurd no
  guard_row o which false e raw a b x y u c g h before = let no : ⊥ = cc in absurd no

-- ---- the promise

number_of_truth : (b : Bool) → ((if b then pos 1 else pos 0) ≡ pos 0 → b ≡ false) × (b ≡ false → (if b then pos 1 else pos 0) ≡ pos 0)
number_of_truth true = (λ e. cc, λ e. cc)
number_of_truth false = (λ e. refl, λ e. refl)

is_test : (o : Op) (kind : IntKind) (which : Stop) (x y : ℤ) (r : Result CValue Trouble) (holds : Bool) → r ≡ Ok (truth holds) → StopsWhere which (exact o kind x y) holds → IsTestOf o kind which x y r
is_test o kind which x y r holds e h =
    let n = number_of_truth holds in
    subst (IsTestOf o kind which x y) (sym e) ((λ z. h.stops (n.0 z)), (λ z. n.1 (h.stopped z)))

guard_here : (p : Program) (s : CState) (o : Op) (kind : IntKind) (which : Stop) (a b : Expr) (x y : ℤ) → IsTrue (is_allowed o kind) → IsTrue (is_check o kind which)
    → OperandsStandFor p s o kind a b x y → All (λ earlier. exact o kind x y ≢ Err earlier) (checks_before o kind which)
    → IsOperand p.target kind a → (IsTrue (is_binary o) → IsOperand p.target kind b)
    → IsTestOf o kind which x y (eval p (guard_for (table_of p.target).int_bits (width kind) (is_signed kind) o which a b) s)
guard_here p s o kind which a b x y allowed check stands before left right =
    let row = guard_row p s (table_of_target p.target) kind o which (is_signed kind) refl a (operand_of (width kind) (is_signed kind) a) (operand_of (width kind) (is_signed kind) b) x y allowed check
    (operand_is_given p s kind a x left stands.left) (λ two. operand_is_given p s kind b y (right two) (stands.right two)) before in
    is_test o kind which x y (eval p (guard_for (table_of p.target).int_bits (width kind) (is_signed kind) o which a b) s) row.holds row.tests row.where_it_stops

pub guards_are_right : (t : Target) (o : Op) (kind : IntKind) (which : Stop) (a b : Expr) → IsTrue (is_allowed o kind) → IsTrue (is_check o kind which)
    → IsOperand t kind a → (IsTrue (is_binary o) → IsOperand t kind b)
    → IsGuard t o kind which a b (guard_for (table_of t).int_bits (width kind) (is_signed kind) o which a b)
guards_are_right t o kind which a b allowed check left right p s x y same stands before =
    subst (λ u. IsOperand u kind a → (IsTrue (is_binary o) → IsOperand u kind b) → IsTestOf o kind which x y (eval p (guard_for (table_of u).int_bits (width kind) (is_signed kind) o which a b) s)) same
    (λ l r. guard_here p s o kind which a b x y allowed check stands before l r) left right

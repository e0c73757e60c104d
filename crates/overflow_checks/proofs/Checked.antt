-- Each reason for which an operator stops has a check, and which guards the contract refuses.
use Rattle.std.proofs.Common.{◌≡◌, ℤ, pos, ◌+ℤ◌, ◌-ℤ◌, ◌*ℤ◌, neg_ℤ, Bool, true, false, IsTrue, [], ◌∷◌, Ok, Err, refl, subst}
use Rattle.std.specs.Prelude.{if◌then◌else◌, ◌≢◌, int_div, int_lt, codes}
use Rattle.std.specs.Ordering.{int_eq}
use Rattle.std.proofs.lemmas.List.Elements.{All-nil, All-cons}
use Rattle.iv_words.specs.Kinds.{in_range_of, in_range, width, is_signed}
use Rattle.iv_words.specs.declared.IntKind.{IntKind}
use Rattle.iv_words.specs.declared.IntKind.TheVariants.{I32}
use Rattle.int_ops.specs.Operators.{is_binary, exact, exact_at}
use Rattle.int_ops.specs.declared.Op.{Op}
use Rattle.int_ops.specs.declared.Op.TheVariants as op
use Rattle.int_ops.specs.declared.Stop.{Stop}
use Rattle.int_ops.specs.declared.Stop.TheVariants.{Overflow, DivZero, Shift}
use Rattle.c_ast.specs.declared.Target.TheVariants.{T32}
use Rattle.c_meaning.specs.Values.{Num}
use Rattle.c_meaning.specs.State.{Program, program_of, Holding, CState}
use Rattle.overflow_checks.specs.Checks.{checks_at, is_among}
use Rattle.overflow_checks.specs.Laws.{StopsAreChecks, RefusedGuards}
use Rattle.overflow_checks.proofs.Given.{of_kind}
use Rattle.overflow_checks.proofs.Numbers.{from_zero, quotient_held}

-- ---- checks

tested : (why which : Stop) (z : ℤ) (test : Bool) → (if test then Ok z else Err why) ≡ Err which → why ≡ which
tested why which z true e = let no : ⊥ = cc in absurd no
tested why which z false e = cc

one_check : (why which : Stop) (z : ℤ) (test : Bool) → IsTrue (is_among (why ∷ []) why) → (if test then Ok z else Err why) ≡ Err which → IsTrue (is_among (why ∷ []) which)
one_check why which z test h e = subst (λ found. IsTrue (is_among (why ∷ []) found)) (tested why which z test e) h

two_checks : (which : Stop) (z : ℤ) (zero_divisor fits : Bool) → (if zero_divisor then Err DivZero else (if fits then Ok z else Err Overflow)) ≡ Err which → IsTrue (is_among (DivZero ∷ Overflow ∷ []) which)
two_checks which z true fits e = let is : DivZero ≡ which = cc in subst (λ found. IsTrue (is_among (DivZero ∷ Overflow ∷ []) found)) is refl
two_checks which z false fits e = subst (λ found. IsTrue (is_among (DivZero ∷ Overflow ∷ []) found)) (tested Overflow which z fits e) refl

divisor_check : (which : Stop) (z : ℤ) (zero_divisor fits : Bool) → IsTrue fits → (if zero_divisor then Err DivZero else (if fits then Ok z else Err Overflow)) ≡ Err which → IsTrue (is_among (DivZero ∷ []) which)
divisor_check which z true fits h e = let is : DivZero ≡ which = cc in subst (λ found. IsTrue (is_among (DivZero ∷ []) found)) is refl
divisor_check which z false true h e = let no : ⊥ = cc in absurd no
divisor_check which z false false h e = let no : ⊥ = cc in absurd no

-- of two numbers of an unsigned kind the quotient is one too
quotient_fits : (kind : IntKind) (x y : ℤ) → is_signed kind ≡ false → IsTrue (in_range kind x) → IsTrue (in_range kind y) → IsTrue (in_range_of (width kind) false (int_div x y))
quotient_fits kind x y e h k =
    let i = subst (λ signed. IsTrue (in_range_of (width kind) signed x)) e h in
    let j = subst (λ signed. IsTrue (in_range_of (width kind) signed y)) e k in
    quotient_held (width kind) false x y (from_zero (width kind) x i) (from_zero (width kind) y j) i

stop_is_check : (o : Op) (kind : IntKind) (signed : Bool) → is_signed kind ≡ signed → (which : Stop) (x y : ℤ) → IsTrue (in_range kind x) → (IsTrue (is_binary o) → IsTrue (in_range kind y))
    → exact_at o (width kind) signed x y ≡ Err which → IsTrue (is_among (checks_at o signed) which)
stop_is_check op.Add kind signed s which x y h k e = one_check Overflow which (x +ℤ y) (in_range_of (width kind) signed (x +ℤ y)) refl e
stop_is_check op.Sub kind signed s which x y h k e = one_check Overflow which (x -ℤ y) (in_range_of (width kind) signed (x -ℤ y)) refl e
stop_is_check op.Mul kind signed s which x y h k e = one_check Overflow which (x *ℤ y) (in_range_of (width kind) signed (x *ℤ y)) refl e
stop_is_check op.Neg kind signed s which x y h k e = one_check Overflow which (neg_ℤ x) (in_range_of (width kind) signed (neg_ℤ x)) refl e
stop_is_check op.Div kind true s which x y h k e = two_checks which (int_div x y) (int_eq y (pos 0)) (in_range_of (width kind) true (int_div x y)) e
stop_is_check op.Rem kind true s which x y h k e = two_checks which (x -ℤ int_div x y *ℤ y) (int_eq y (pos 0)) (in_range_of (width kind) true (int_div x y)) e
stop_is_check op.Div kind false s which x y h k e =
    divisor_check which (int_div x y) (int_eq y (pos 0)) (in_range_of (width kind) false (int_div x y)) (quotient_fits kind x y s h (k refl)) e
stop_is_check op.Rem kind false s which x y h k e =
    divisor_check which (x -ℤ int_div x y *ℤ y) (int_eq y (pos 0)) (in_range_of (width kind) false (int_div x y)) (quotient_fits kind x y s h (k refl)) e
stop_is_check op.Shl kind signed s which x y h k e = one_check Shift which _ (int_lt y (pos (width kind))) refl e
stop_is_check op.Shr kind signed s which x y h k e = one_check Shift which _ (int_lt y (pos (width kind))) refl e
stop_is_check o kind signed s which x y h k e = let no : ⊥ = cc in absurd no

pub stops_are_checks : StopsAreChecks
stops_are_checks o kind which x y h k e = stop_is_check o kind (is_signed kind) refl which x y h k e

-- ---- guards that the contract refuses

abbrev program : Program
program = program_of (record { structs = []; externs = []; objects = []; functions = [] }) T32

-- a state in which a and b hold these numbers
abbrev holding : ℤ → ℤ → CState
holding x y = record { frames = record { own = (codes "a", Holding (Num (of_kind I32) x)) ∷ (codes "b", Holding (Num (of_kind I32) y)) ∷ []; callers = [] }; objects = [] }

abbrev least : ℤ
least = pos 0 -ℤ pos 2147483648

abbrev minus_one : ℤ
minus_one = pos 0 -ℤ pos 1

no_zero : exact op.Div I32 least minus_one ≢ Err DivZero
no_zero e = cc

one_is_not_zero : pos 1 ≡ pos 0 → ⊥
one_is_not_zero e = cc

pub refused_guards : RefusedGuards
refused_guards = record {
  adds_first = λ guard. guard program (holding (pos 2147483647) (pos 1)) (pos 2147483647) (pos 1) refl
      (record { left = record { gives = refl; type = refl; is_in = refl }; right = λ two. record { gives = refl; type = refl; is_in = refl } }) (All-nil (λ earlier. exact op.Add I32 (pos 2147483647) (pos 1) ≢ Err earlier));
  always_passes = λ guard. let test = guard program (holding least minus_one) least minus_one refl
      (record { left = record { gives = refl; type = refl; is_in = refl }; right = λ two. record { gives = refl; type = refl; is_in = refl } })
      (All-cons (λ earlier. exact op.Div I32 least minus_one ≢ Err earlier) DivZero [] no_zero (All-nil (λ earlier. exact op.Div I32 least minus_one ≢ Err earlier))) in
      one_is_not_zero (test.1 refl);
}

-- The remainder that is not negative, by `?:` over an operand of a signed kind.
use Rattle.std.proofs.Common.{◌≡◌, ℕ, ◌-◌, ◌^◌, ◌<◌, ◌≤◌, ℤ, pos, ◌+ℤ◌, Bool, true, false, IsTrue, Result, Ok, refl, sym, subst, ap, ◌∙◌}
use Rattle.std.specs.Prelude.{if◌then◌else◌, Option, Some, int_lt, int_rem}
use Rattle.std.specs.Option.{option_map, option_and_then}
use Rattle.std.proofs.lemmas.Nat.{pow_pos}
use Rattle.iv_words.specs.Kinds.{in_range_of, is_signed}
use Rattle.iv_words.specs.declared.IntKind.{IntKind}
use Rattle.c_ast.specs.declared.Arith.{Arith}
use Rattle.c_ast.specs.declared.Arith.TheVariants.{Int}
use Rattle.c_ast.specs.declared.CKind.{CKind}
use Rattle.c_ast.specs.declared.CKind.TheVariants.{Arith as Computed}
use Rattle.c_ast.specs.declared.CBinary.TheVariants.{Add, Rem, Lt}
use Rattle.c_ast.specs.declared.Suffix.TheVariants.{Plain}
use Rattle.c_ast.specs.Syntax.{Expr, Number, Binary}
use Rattle.c_ast.specs.StaticTypes.{ValueType, Arithmetic, of_binary, of_choice, of_both}
use Rattle.c_ast.specs.Targets.{TargetTable, table_of, arith_bits, arith_signed, common_type}
use Rattle.c_ast.specs.Conversions.{constant_type_in}
use Rattle.c_meaning.specs.Values.{Trouble, CValue, Num, is_true, on_ok}
use Rattle.c_meaning.specs.Operators as c
use Rattle.c_meaning.specs.Operators.{computed, truth}
use Rattle.c_meaning.specs.State.{Program, CState}
use Rattle.c_meaning.specs.Expressions.{eval, static_type, as_common}
use Rattle.c_meaning.proofs.HeldNumbers.{held_as_kind}
use Rattle.overflow_checks.specs.Contract.{IsGiven}
use Rattle.overflow_checks.proofs.Tables.{CTable, promoted_signed}
use Rattle.overflow_checks.proofs.Given.{Gives, of_kind, binary_gives, constant_gives}
use Rattle.overflow_checks.proofs.Rows.{Tests}
use Rattle.overflow_checks.proofs.Alike.{Holds, fitted_held, AreSigned, common_is_signed, signed_left_kept, signed_right_kept, usual_signed, compared_signed}
use Rattle.overflow_checks.proofs.Constants.{IsTyped, plain_typed}
use Rattle.overflow_checks.proofs.SignedNaturals.{zero_type}
use Rattle.overflow_checks.proofs.SignedNumbers.{natural_held}
use Rattle.lower_values.specs.Conversions.{remainder}
use Rattle.form_answers.specs.Standing.{IsNumber}
use Rattle.form_answers.proofs.Remainders.{remainder_is, signed_quotient_held, rest_held, moved_held, moved}

module _ (p : Program) (u : CState) (table : CTable (table_of p.target)) (kind : IntKind) (signed : is_signed kind ≡ true) (e : Expr) (x : ℤ) (given : IsGiven p u kind e x)
    (n : ℕ) (some : 1 ≤ n) (small : n < 2 ^ 63) where
  abbrev t : TargetTable
  t = table_of p.target

  abbrev length : Expr
  length = Number n Plain

  length_typed : IsTyped t table true (pos n) (constant_type_in t Plain n)
  length_typed = plain_typed t table n small

  abbrev k : CKind
  k = of_kind kind

  abbrev l : CKind
  l = Computed length_typed.type

  abbrev rest_type : Arith
  rest_type = common_type t k l

  both : AreSigned t table k l x (pos n)
  both = record { left_signed = promoted_signed t table kind signed; right_signed = length_typed.sign; left_has = given.is_in; right_has = length_typed.holds }

  rest_sign : arith_signed rest_type ≡ true
  rest_sign = common_is_signed t table k l x (pos n) both

  -- a number of a type that is signed
  abbrev as_signed : (a : Arith) (v : ℤ) → arith_signed a ≡ true → Holds t table a v → IsTrue (in_range_of (arith_bits t a) true v)
  as_signed a v is h = subst (λ sign. IsTrue (in_range_of (arith_bits t a) sign v)) is h

  abbrev of_signed : (a : Arith) (v : ℤ) → arith_signed a ≡ true → IsTrue (in_range_of (arith_bits t a) true v) → Holds t table a v
  of_signed a v is h = subst (λ sign. IsTrue (in_range_of (arith_bits t a) sign v)) (sym is) h

  -- ---- the remainder toward zero

  abbrev rest : ℤ
  rest = int_rem x (pos n)

  abbrev rest_of : Expr
  rest_of = Binary Rem e length

  x_held : IsTrue (in_range_of (arith_bits t rest_type) true x)
  x_held = as_signed rest_type x rest_sign (signed_left_kept t table k l x (pos n) both)

  rest_gives : Gives p u rest_of (Num (Computed rest_type) rest)
  rest_gives =
      binary_gives p u Rem e length (Num k x) (Num l (pos n)) given.gives (constant_gives p u n Plain length_typed.type length_typed.found_it)
      ∙ usual_signed t table k l x (pos n) both c.remainder
      ∙ ap (λ sign. computed rest_type (c.remainder (arith_bits t rest_type) sign x (pos n))) rest_sign
      ∙ ap (computed rest_type) (remainder_is (arith_bits t rest_type) true x n some (signed_quotient_held (arith_bits t rest_type) x n some x_held))

  rest_has : Holds t table rest_type rest
  rest_has = of_signed rest_type rest rest_sign (rest_held (arith_bits t rest_type) x n x_held)

  -- ---- the sum with the length

  abbrev sum_type : Arith
  sum_type = common_type t (Computed rest_type) l

  abbrev sum_of : Expr
  sum_of = Binary Add rest_of length

  with_length : AreSigned t table (Computed rest_type) l rest (pos n)
  with_length = record { left_signed = rest_sign; right_signed = length_typed.sign; left_has = rest_has; right_has = length_typed.holds }

  sum_sign : arith_signed sum_type ≡ true
  sum_sign = common_is_signed t table (Computed rest_type) l rest (pos n) with_length

  length_there : Holds t table sum_type (pos n)
  length_there = signed_right_kept t table (Computed rest_type) l rest (pos n) with_length

  module _ (less : int_lt rest (pos 0) ≡ true) where
    sum_held : IsTrue (in_range_of (arith_bits t sum_type) true (rest +ℤ pos n))
    sum_held = moved_held (arith_bits t sum_type) x n some (as_signed sum_type (pos n) sum_sign length_there) less

    sum_gives : Gives p u sum_of (Num (Computed sum_type) (rest +ℤ pos n))
    sum_gives =
        binary_gives p u Add rest_of length (Num (Computed rest_type) rest) (Num l (pos n)) rest_gives (constant_gives p u n Plain length_typed.type length_typed.found_it)
        ∙ usual_signed t table (Computed rest_type) l rest (pos n) with_length c.sum
        ∙ ap (λ sign. computed sum_type (c.sum (arith_bits t sum_type) sign rest (pos n))) sum_sign
        ∙ ap (computed sum_type) (fitted_held (arith_bits t sum_type) true (rest +ℤ pos n) sum_held)

  -- ---- types

  abbrev type_of : Expr → Option ValueType
  type_of f = static_type p u f

  abbrev Typed : Expr → CKind → Type 0
  Typed f own = type_of f ≡ Some (Arithmetic own)

  abbrev constant_of : Option Arith → Option ValueType
  constant_of found = option_map (λ a. Arithmetic (Computed a)) found

  abbrev test_of : Expr
  test_of = Binary Lt rest_of (Number 0 Plain)

  abbrev whole_type : Arith
  whole_type = common_type t (Computed sum_type) (Computed rest_type)

  rest_typed : Typed rest_of (Computed rest_type)
  rest_typed =
      ap (λ o. of_both (of_binary t Rem) o (type_of length)) given.type ∙ ap (λ o. of_both (of_binary t Rem) (Some (Arithmetic k)) (constant_of o)) length_typed.found_it

  test_typed : Typed test_of (Computed Int)
  test_typed =
      ap (λ o. of_both (of_binary t Lt) o (type_of (Number 0 Plain))) rest_typed
      ∙ ap (λ o. of_both (of_binary t Lt) (Some (Arithmetic (Computed rest_type))) (constant_of o)) (zero_type t)

  sum_typed : Typed sum_of (Computed sum_type)
  sum_typed =
      ap (λ o. of_both (of_binary t Add) o (type_of length)) rest_typed
      ∙ ap (λ o. of_both (of_binary t Add) (Some (Arithmetic (Computed rest_type))) (constant_of o)) length_typed.found_it

  abbrev arms_type : Option ValueType → Option ValueType → Option ValueType
  arms_type = of_both (of_choice t (Arithmetic (Computed Int)))

  whole_typed : Typed (remainder true e length) (Computed whole_type)
  whole_typed =
      ap (λ o. option_and_then (λ test. of_both (of_choice t test) (type_of sum_of) (type_of rest_of)) o) test_typed
      ∙ ap (λ o. arms_type o (type_of rest_of)) sum_typed ∙ ap (λ o. arms_type (Some (Arithmetic (Computed sum_type))) o) rest_typed

  -- ---- the choice

  test_gives : Tests p u test_of (int_lt rest (pos 0))
  test_gives =
      let some_int = natural_held t.int_bits 0 (pow_pos (t.int_bits - 1)) in
      let compared : AreSigned t table (Computed rest_type) (Computed Int) rest (pos 0) = record { left_signed = rest_sign; right_signed = refl; left_has = rest_has; right_has = some_int } in
      binary_gives p u Lt rest_of (Number 0 Plain) (Num (Computed rest_type) rest) (Num (Computed Int) (pos 0)) rest_gives (constant_gives p u 0 Plain Int (zero_type t))
      ∙ compared_signed t table (Computed rest_type) (Computed Int) rest (pos 0) compared int_lt

  abbrev arm : Result CValue Trouble → Result CValue Trouble
  arm r = as_common t (Some (Arithmetic (Computed whole_type))) r

  arm_is : (r : Result CValue Trouble) (from : CKind) (v : ℤ) → Holds t table whole_type v → r ≡ Ok (Num from v) → arm r ≡ Ok (Num (Computed whole_type) v)
  arm_is r from v h is = ap arm is ∙ held_as_kind t (Computed whole_type) from v h

  arms : (test : Bool) → int_lt rest (pos 0) ≡ test → on_ok (is_true (truth test)) (λ holds. arm (if holds then eval p sum_of u else eval p rest_of u)) ≡ Ok (Num (Computed whole_type) (if test then rest +ℤ pos n else rest))
  arms true less =
      let v = rest +ℤ pos n in
      let joined : AreSigned t table (Computed sum_type) (Computed rest_type) v rest = record { left_signed = sum_sign; right_signed = rest_sign; left_has = of_signed sum_type v sum_sign (sum_held less); right_has = rest_has } in
      arm_is (eval p sum_of u) (Computed sum_type) v (signed_left_kept t table (Computed sum_type) (Computed rest_type) v rest joined) (sum_gives less)
  arms false less =
      let joined : AreSigned t table (Computed sum_type) (Computed rest_type) (pos n) rest = record { left_signed = sum_sign; right_signed = rest_sign; left_has = length_there; right_has = rest_has } in
      arm_is (eval p rest_of u) (Computed rest_type) rest (signed_right_kept t table (Computed sum_type) (Computed rest_type) (pos n) rest joined) rest_gives

  pub signed_remainder : IsNumber p u (remainder true e (Number n Plain)) (moved (int_rem x (pos n)) n)
  signed_remainder = (
    Computed whole_type,
    ap (λ r. let q : Result CValue Trouble = on_ok (on_ok r is_true) (λ holds. as_common t (type_of (remainder true e length)) (if holds then eval p sum_of u else eval p rest_of u)) in q) test_gives
        ∙ ap (λ o. let q : Result CValue Trouble = on_ok (is_true (truth (int_lt rest (pos 0)))) (λ holds. as_common t o (if holds then eval p sum_of u else eval p rest_of u)) in q) whole_typed
        ∙ arms (int_lt rest (pos 0)) refl,
  )

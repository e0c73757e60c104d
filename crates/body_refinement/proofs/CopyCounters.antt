-- The counter of a copy's loop: an object of a temporary from 0 to the last number, its test and its next number.
use Rattle.std.proofs.Common.{◌≡◌, ℕ, suc, ◌+◌, ◌^◌, ◌<◌, ◌≤◌, pos, Bool, true, false, IsTrue, Some, refl, ◌∙◌, ap, subst, arith, lit<}
use Rattle.std.specs.Prelude.{not}
use Rattle.std.specs.Ordering.{int_eq}
use Rattle.std.proofs.lemmas.Int.{ints}
use Rattle.std.proofs.lemmas.Bool.Decides.{Decides-int_eq}
use Rattle.iv_words.specs.declared.IntKind.TheVariants.{U16}
use Rattle.c_ast.specs.declared.CScalar.{CScalar}
use Rattle.c_ast.specs.declared.CScalar.TheVariants.{Int}
use Rattle.c_ast.specs.declared.CKind.TheVariants.{Scalar, Arith as Computed}
use Rattle.c_ast.specs.declared.Arith.{Arith}
use Rattle.c_ast.specs.declared.CUnary.TheVariants.{Not}
use Rattle.c_ast.specs.declared.CBinary.TheVariants.{Add, Ne}
use Rattle.c_ast.specs.declared.Suffix.TheVariants.{Plain}
use Rattle.c_ast.specs.Conversions.{can_hold}
use Rattle.c_ast.specs.Syntax.{Name, Number, Read, Unary, Binary, Var}
use Rattle.c_ast.specs.Targets.{TargetTable, table_of, arith_bits, arith_signed, common_type}
use Rattle.c_meaning.specs.Operators.{sum, fitted}
use Rattle.c_meaning.specs.State.{Program, CState}
use Rattle.c_meaning.proofs.HeldNumbers.{held_converts}
use Rattle.overflow_checks.proofs.Alike.{left_kept, fitted_held}
use Rattle.overflow_checks.proofs.Numbers.{natural}
use Rattle.overflow_checks.proofs.SignedNumbers.{from_zero}
use Rattle.overflow_checks.proofs.Tables.{CTable, table_of_target}
use Rattle.form_answers.specs.Standing.{HasScalar, Converts, TestIs}
use Rattle.form_answers.proofs.Guards.{truth_tested}
use Rattle.form_answers.proofs.Naturals.{plain_held, natural_tests, natural_gives}
use Rattle.form_answers.proofs.OperandValues.{IsHeld}
use Rattle.value_refinement.proofs.Objects.{ObjectIs, object_read}
use Rattle.value_refinement.proofs.Running.{not_tests}

abbrev pub counting : CScalar
counting = Int U16

-- the numbers that a counter holds
pub counter_holds : (t : TargetTable) (n : ℕ) → n ≤ 65_535 → IsTrue (can_hold t (Scalar counting) (pos n))
counter_holds t n le = natural 16 n (let lt : 65_535 < 2 ^ 16 = lit< tt in omega (arith, le, lt))

equal_test : (i j : ℕ) → i ≡ j → int_eq (pos i) (pos j) ≡ true
equal_test i j e = let d = Decides-int_eq (pos i) (pos j) in grind (arith, ints)

other_test : (i j : ℕ) → i < j → int_eq (pos i) (pos j) ≡ false
other_test i j e = let d = Decides-int_eq (pos i) (pos j) in grind (arith, ints)

module _ (p : Program) (u : CState) (x : Name) (o i : ℕ) (object : ObjectIs p u x counting o (Some (pos i))) (few : i ≤ 65_535) where
  abbrev t : TargetTable
  t = table_of p.target

  abbrev table : CTable (table_of p.target)
  table = table_of_target p.target

  pub counter_read : HasScalar p u counting (Read (Var x)) (pos i)
  counter_read = object_read p u x counting o (pos i) object (counter_holds t i few)

  abbrev held : IsHeld p u (Read (Var x)) (pos i)
  held = record { kind = Scalar counting; gives = counter_read.gives; has = counter_holds t i few }

  -- whether it is not yet the last
  pub counter_tests : (last : ℕ) → last ≤ 65_535 → (b : Bool) → int_eq (pos i) (pos last) ≡ b → TestIs p u (Unary Not (Binary Ne (Read (Var x)) (Number last Plain))) b
  counter_tests last le b is =
      let small : last < 2 ^ 63 = (let lt : 65_535 < 2 ^ 63 = lit< tt in omega (arith, le, lt)) in
      let tests = natural_tests p u table (Read (Var x)) (Number last Plain) i last held (plain_held p u table last small) Ne (λ v w. not (int_eq v w)) (λ v w. refl) in
      subst (TestIs p u (Unary Not (Binary Ne (Read (Var x)) (Number last Plain)))) (twice (int_eq (pos i) (pos last)) ∙ is)
      (not_tests p u (Binary Ne (Read (Var x)) (Number last Plain)) (not (int_eq (pos i) (pos last))) (truth_tested p u (Binary Ne (Read (Var x)) (Number last Plain)) (not (int_eq (pos i) (pos last))) tests))
    where
      twice : (b : Bool) → not (not b) ≡ b
      twice true = refl
      twice false = refl

  pub counter_is_last : (last : ℕ) → last ≤ 65_535 → i ≡ last → TestIs p u (Unary Not (Binary Ne (Read (Var x)) (Number last Plain))) true
  counter_is_last last le e = counter_tests last le true (equal_test i last e)

  pub counter_goes_on : (last : ℕ) → last ≤ 65_535 → i < last → TestIs p u (Unary Not (Binary Ne (Read (Var x)) (Number last Plain))) false
  counter_goes_on last le lt = counter_tests last le false (other_test i last lt)

  -- the next number
  pub counter_next : suc i ≤ 65_535 → Converts p u counting (Binary Add (Read (Var x)) (Number 1 Plain)) (pos (suc i))
  counter_next le =
      let one = plain_held p u table 1 (lit< tt) in
      let c : Arith = common_type t (Scalar counting) one.kind in
      let kept = left_kept t table (Scalar counting) one.kind (pos (suc i)) (pos 1) (record { left_from = from_zero (suc i); right_from = from_zero 1; left_held = counter_holds t (suc i) le; right_held = one.has }) in
      let same : i + 1 ≡ suc i = omega arith in
      record {
        kind = Computed c;
        number = pos (suc i);
        gives = natural_gives p u table (Read (Var x)) (Number 1 Plain) i 1 held one Add sum (λ v w. refl) (suc i)
            (ap (λ n. fitted (arith_bits t c) (arith_signed c) (pos n)) same ∙ fitted_held (arith_bits t c) (arith_signed c) (pos (suc i)) kept);
        converted = held_converts t (Scalar counting) (pos (suc i)) (counter_holds t (suc i) le);
      }

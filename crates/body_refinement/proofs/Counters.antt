-- The counter of a loop in C: an object of a uint16_t. What its tests and its next number come to, and what its declaration keeps.
use Rattle.std.proofs.Common.{◌≡◌, ℕ, suc, ◌^◌, ◌<◌, pos, ◌+ℤ◌, ◌-ℤ◌, Bool, true, false, Some, Ok, refl, sym, ◌∙◌, ap, subst, arith}
use Rattle.std.specs.Prelude.{IsTrue, not}
use Rattle.std.specs.Ordering.{int_eq}
use Rattle.std.proofs.lemmas.Int.{ints}
use Rattle.iv_words.specs.Kinds.{in_range_of}
use Rattle.iv_words.specs.declared.IntKind.TheVariants.{U16}
use Rattle.c_ast.specs.declared.Arith.TheVariants.{Int}
use Rattle.c_ast.specs.declared.CBinary.{CBinary}
use Rattle.c_ast.specs.declared.CBinary.TheVariants.{Add, Sub, Ne}
use Rattle.c_ast.specs.declared.CKind.TheVariants.{Scalar, Arith as Computed}
use Rattle.c_ast.specs.declared.CScalar.{CScalar}
use Rattle.c_ast.specs.declared.CScalar.TheVariants as scalar
use Rattle.c_ast.specs.declared.Suffix.TheVariants.{Plain}
use Rattle.c_ast.specs.declared.Target.{Target}
use Rattle.c_ast.specs.declared.Target.TheVariants.{T32}
use Rattle.c_ast.specs.Conversions.{can_hold}
use Rattle.c_ast.specs.Syntax.{Name, Expr, Number, Read, Var, Binary}
use Rattle.c_ast.specs.Targets.{TargetTable, table_of, arith_bits, arith_signed, common_type}
use Rattle.c_ast.proofs.Conversions.{held_stays}
use Rattle.c_meaning.specs.Operators.{Operator, truth, sum, difference, usual, binary}
use Rattle.c_meaning.specs.State.{Program, CState}
use Rattle.c_meaning.specs.Values.{CValue, Num, is_true, on_ok, constant_value}
use Rattle.overflow_checks.proofs.Alike.{fitted_held}
use Rattle.overflow_checks.proofs.Numbers.{natural}
use Rattle.overflow_checks.proofs.Tables.{table_of_target}
use Rattle.form_answers.specs.Standing.{HasScalar, Converts, TestIs}
use Rattle.form_answers.proofs.Naturals.{natural_tests, natural_gives}
use Rattle.form_answers.proofs.OperandValues.{IsHeld}
use Rattle.value_refinement.proofs.Objects.{ObjectIs, object_read}

-- ---- numbers

abbrev pub counter_scalar : CScalar
counter_scalar = scalar.Int U16

pub counter_holds : (t : TargetTable) (i : ℕ) → i < 2 ^ 16 → IsTrue (can_hold t (Scalar counter_scalar) (pos i))
counter_holds t i small = natural 16 i small

target_is : (t : Target) → t ≡ T32
target_is T32 = refl

of_truth : (b : Bool) → on_ok (Ok (truth b)) is_true ≡ Ok b
of_truth true = refl
of_truth false = refl

in_int : (i : ℕ) → i < 2 ^ 16 → IsTrue (in_range_of 32 true (pos i))
in_int i small = grind (arith, ints)

one_more : (i : ℕ) → suc i < 2 ^ 16 → sum 32 true (pos i) (pos 1) ≡ Ok (pos (suc i))
one_more i small =
    let e : pos i +ℤ pos 1 ≡ pos (suc i) = grind (arith, ints) in
    fitted_held 32 true (pos i +ℤ pos 1) (subst (λ v. IsTrue (in_range_of 32 true v)) (sym e) (in_int (suc i) small)) ∙ ap Ok e

one_less : (i : ℕ) → suc i < 2 ^ 16 → difference 32 true (pos (suc i)) (pos 1) ≡ Ok (pos i)
one_less i small =
    let e : pos (suc i) -ℤ pos 1 ≡ pos i = grind (arith, ints) in
    let less : i < 2 ^ 16 = omega (arith, small) in
    fitted_held 32 true (pos (suc i) -ℤ pos 1) (subst (λ v. IsTrue (in_range_of 32 true v)) (sym e) (in_int i less)) ∙ ap Ok e

-- ---- a counter that has come to i

module _ (p : Program) (u : CState) (x : Name) (o i : ℕ) (small : i < 2 ^ 16) (counter : ObjectIs p u x counter_scalar o (Some (pos i))) where
  pub counter_read : HasScalar p u counter_scalar (Read (Var x)) (pos i)
  counter_read = object_read p u x counter_scalar o (pos i) counter (counter_holds (table_of p.target) i small)

  abbrev counter_held : IsHeld p u (Read (Var x)) (pos i)
  counter_held = record { kind = Scalar counter_scalar; gives = counter_read.gives; has = counter_holds (table_of p.target) i small }

  -- whether it has come to a last number
  pub tests_last : (last : Expr) (n : ℕ) → IsHeld p u last (pos n) → TestIs p u (Binary Ne (Read (Var x)) last) (not (int_eq (pos i) (pos n)))
  tests_last last n held =
      ap (λ r. on_ok r is_true) (natural_tests p u (table_of_target p.target) (Read (Var x)) last i n counter_held held Ne (λ a b. not (int_eq a b)) (λ v w. refl))
      ∙ of_truth (not (int_eq (pos i) (pos n)))

  -- or to 0
  pub tests_nought : TestIs p u (Read (Var x)) (not (int_eq (pos i) (pos 0)))
  tests_nought = ap (λ r. on_ok r is_true) counter_read.gives

  abbrev one_held : IsHeld p u (Number 1 Plain) (pos 1)
  one_held = record {
    kind = Computed Int;
    gives = subst (λ t. constant_value t Plain 1 ≡ Ok (Num (Computed Int) (pos 1))) (sym (target_is p.target)) refl;
    has = subst (λ t. IsTrue (can_hold (table_of t) (Computed Int) (pos 1))) (sym (target_is p.target)) refl;
  }

  -- it is counted as an int
  counts_to : (op : CBinary) (f : Operator) → ((v w : CValue) → binary (table_of p.target) op v (Ok w) ≡ usual (table_of p.target) f v w) → (z : ℕ) → z < 2 ^ 16 → f 32 true (pos i) (pos 1) ≡ Ok (pos z)
      → Converts p u counter_scalar (Binary op (Read (Var x)) (Number 1 Plain)) (pos z)
  counts_to op f is z less e = record {
    kind = Computed (common_type (table_of p.target) (Scalar counter_scalar) (Computed Int));
    number = pos z;
    gives =
        natural_gives p u (table_of_target p.target) (Read (Var x)) (Number 1 Plain) i 1 counter_held one_held op f is z
        (subst (λ t. f (arith_bits (table_of t) (common_type (table_of t) (Scalar counter_scalar) (Computed Int))) (arith_signed (common_type (table_of t) (Scalar counter_scalar) (Computed Int))) (pos i) (pos 1) ≡ Ok (pos z)) (sym (target_is p.target)) e);
    converted = held_stays 16 false (pos z) (natural 16 z less);
  }

  pub counts_up : suc i < 2 ^ 16 → Converts p u counter_scalar (Binary Add (Read (Var x)) (Number 1 Plain)) (pos (suc i))
  counts_up less = counts_to Add sum (λ v w. refl) (suc i) less (one_more i less)

  pub counts_down : (z : ℕ) → i ≡ suc z → Converts p u counter_scalar (Binary Sub (Read (Var x)) (Number 1 Plain)) (pos z)
  counts_down z is =
      let less : suc z < 2 ^ 16 = omega (arith, is, small) in
      counts_to Sub difference (λ v w. refl) z (omega (arith, less)) (subst (λ k. difference 32 true (pos k) (pos 1) ≡ Ok (pos z)) (sym is) (one_less z less))

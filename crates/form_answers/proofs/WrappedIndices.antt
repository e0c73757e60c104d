-- `wrapix(N, e)`: the remainder by the length that is not negative.
use Rattle.std.proofs.Common.{◌≡◌, ℕ, ◌%◌, ◌≤◌, ℤ, pos, negsuc, Bool, true, false, IsTrue, arith, refl, subst}
use Rattle.iv_words.specs.Kinds.{width, is_signed}
use Rattle.iv_words.specs.declared.IntKind.{IntKind}
use Rattle.iv_words.proofs.Widths.{range_of_sign}
use Rattle.index_types.specs.Indices.{wrapped}
use Rattle.area_types.specs.Tables.{is_length}
use Rattle.c_ast.specs.declared.CKind.TheVariants.{Arith as Computed}
use Rattle.c_ast.specs.declared.CBinary.TheVariants.{Rem}
use Rattle.c_ast.specs.declared.Suffix.TheVariants.{Plain}
use Rattle.c_ast.specs.Syntax.{Expr, Number}
use Rattle.c_ast.specs.Targets.{table_of, arith_bits, arith_signed, common_type}
use Rattle.c_meaning.specs.Operators as c
use Rattle.c_meaning.specs.State.{Program, CState}
use Rattle.overflow_checks.specs.Contract.{IsGiven}
use Rattle.overflow_checks.specs.Parts.{operand_of}
use Rattle.overflow_checks.proofs.Tables.{CTable, table_of_target}
use Rattle.overflow_checks.proofs.Given.{of_kind}
use Rattle.overflow_checks.proofs.Alike.{left_kept}
use Rattle.overflow_checks.proofs.Numbers.{quotient_held}
use Rattle.overflow_checks.proofs.SignedNumbers.{from_zero}
use Rattle.lower_values.specs.Conversions.{remainder}
use Rattle.form_answers.specs.FormLaws.{WrapsAnswer}
use Rattle.form_answers.specs.Standing.{IsNumber}
use Rattle.form_answers.proofs.OperandValues.{operand_given, IsHeld}
use Rattle.form_answers.proofs.Naturals.{plain_held, are_natural, natural_gives}
use Rattle.form_answers.proofs.Remainders.{remainder_is, rest_wraps}
use Rattle.form_answers.proofs.SignedChoices.{signed_remainder}

first : (n : ℕ) → IsTrue (is_length n) → 1 ≤ n
first n h = grind arith

last : (n : ℕ) → IsTrue (is_length n) → n ≤ 65_535
last n h = grind arith

module _ (p : Program) (u : CState) (table : CTable (table_of p.target)) (kind : IntKind) (e : Expr) (n : ℕ) (some : 1 ≤ n) (few : n ≤ 65_535) where
  natural_wraps : (a : ℕ) → IsGiven p u kind e (pos a) → IsNumber p u (remainder false e (Number n Plain)) (pos (a % n))
  natural_wraps a given =
      let t = table_of p.target in
      let l : IsHeld p u e (pos a) = record { kind = of_kind kind; gives = given.gives; has = given.is_in } in
      let r = plain_held p u table n (omega arith) in
      let d = common_type t (of_kind kind) r.kind in
      let left = left_kept t table (of_kind kind) r.kind (pos a) (pos n) (are_natural p u table e (Number n Plain) a n l r) in (
        Computed d,
        natural_gives p u table e (Number n Plain) a n l r Rem c.remainder (λ v w. refl) (a % n)
            (remainder_is (arith_bits t d) (arith_signed d) (pos a) n some (quotient_held (arith_bits t d) (arith_signed d) (pos a) (pos n) (from_zero a) (from_zero n) left)),
      )

  by_sign : (signed : Bool) → is_signed kind ≡ signed → (x : ℤ) → IsGiven p u kind e x → IsNumber p u (remainder signed e (Number n Plain)) (pos (wrapped n x))
  by_sign true is x given = subst (IsNumber p u (remainder true e (Number n Plain))) (rest_wraps x n some) (signed_remainder p u table kind is e x given n some (omega arith))
  by_sign false is (pos a) given = natural_wraps a given
  by_sign false is (negsuc a) given = let h = range_of_sign kind false is (negsuc a) given.is_in in let no : ⊥ = cc in absurd no

pub wraps_answer : WrapsAnswer
wraps_answer p u n kind e x length o =
    by_sign p u (table_of_target p.target) kind (operand_of (width kind) (is_signed kind) e) n (first n length) (last n length) (is_signed kind) refl x (operand_given p u kind e x o)

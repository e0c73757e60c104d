-- An operand that stands exactly for a number of a kind is one of the kind's guards and computations, and with a constant cast it has the
-- kind's type.
use Rattle.std.proofs.Common.{ℤ, IsTrue, Some, sym, subst}
use Rattle.iv_words.specs.Kinds.{in_range}
use Rattle.iv_words.specs.declared.IntKind.{IntKind}
use Rattle.c_ast.specs.declared.CScalar.TheVariants as scalar
use Rattle.c_ast.specs.declared.CKind.TheVariants.{Scalar}
use Rattle.c_ast.specs.Syntax.{Expr, Number, Read, Address, Unary, Binary, Cast, Cond}
use Rattle.c_meaning.specs.State.{Program, CState}
use Rattle.overflow_checks.specs.Contract.{IsOperand, IsGiven, StandsFor}
use Rattle.overflow_checks.proofs.Given.{operand_is_given}
use Rattle.lower_values.specs.Conversions.{valued}
use Rattle.form_answers.specs.Standing.{HasScalar, IsNumber}
use Rattle.form_answers.specs.FormLaws.{Operand}

module _ (p : Program) (u : CState) (kind : IntKind) where
  pub is_operand : (e : Expr) (n : ℤ) → Operand p u kind e n → IsOperand p.target kind e
  is_operand (Number m suffix) n o = (o.exact.1, subst (λ v. IsTrue (in_range kind v)) (sym o.exact.0) o.is_in)
  is_operand (Read place) n o = tt
  is_operand (Address place) n o = tt
  is_operand (Unary op e) n o = tt
  is_operand (Binary op a b) n o = tt
  is_operand (Cast to e) n o = tt
  is_operand (Cond c a b) n o = tt

  as_given : (e : Expr) (n : ℤ) → HasScalar p u (scalar.Int kind) e n → IsTrue (in_range kind n) → IsGiven p u kind e n
  as_given e n h i = record { gives = h.gives; type = h.type; is_in = i }

  pub stands_for : (e : Expr) (n : ℤ) → Operand p u kind e n → StandsFor p u kind e n
  stands_for (Number m suffix) n o = o.exact.0
  stands_for (Read place) n o = as_given (Read place) n o.exact o.is_in
  stands_for (Address place) n o = as_given (Address place) n o.exact o.is_in
  stands_for (Unary op e) n o = as_given (Unary op e) n o.exact o.is_in
  stands_for (Binary op a b) n o = as_given (Binary op a b) n o.exact o.is_in
  stands_for (Cast to e) n o = as_given (Cast to e) n o.exact o.is_in
  stands_for (Cond c a b) n o = as_given (Cond c a b) n o.exact o.is_in

  pub is_given : (e : Expr) (n : ℤ) → Operand p u kind e n → IsGiven p u kind (valued (Some kind) e) n
  is_given e n o = operand_is_given p u kind e n (is_operand e n o) (stands_for e n o)

  pub has_number : (e : Expr) (n : ℤ) → Operand p u kind e n → IsNumber p u (valued (Some kind) e) n
  has_number e n o = let g = is_given e n o in (Scalar (scalar.Int kind), g.gives)

-- Operands that stand exactly for numbers: an operand of a kind is a value of the kind's type once a constant is cast, and each evaluates
-- to its number, in a type that has it.
use Rattle.std.proofs.Common.{◌≡◌, ℕ, ℤ, pos, IsTrue, Option, Some, None, Ok, refl, sym, subst}
use Rattle.std.specs.Prelude.{IsSome}
use Rattle.iv_words.specs.Kinds.{width, is_signed, in_range}
use Rattle.iv_words.specs.declared.IntKind.{IntKind}
use Rattle.c_ast.specs.declared.Arith.{Arith}
use Rattle.c_ast.specs.declared.CScalar.{CScalar}
use Rattle.c_ast.specs.declared.CKind.{CKind}
use Rattle.c_ast.specs.declared.CKind.TheVariants.{Scalar, Arith as Computed}
use Rattle.c_ast.specs.declared.Suffix.{Suffix}
use Rattle.c_ast.specs.Syntax.{Expr, Number, Read, Address, Unary, Binary, Cast, Cond}
use Rattle.c_ast.specs.Targets.{table_of}
use Rattle.c_ast.specs.Conversions.{candidates, can_hold, constant_type, constant_type_in}
use Rattle.c_meaning.specs.Values.{Num}
use Rattle.c_meaning.specs.State.{Program, CState}
use Rattle.c_meaning.specs.Expressions.{eval}
use Rattle.c_meaning.proofs.Expressions.{first_holds}
use Rattle.overflow_checks.specs.Contract.{IsGiven}
use Rattle.overflow_checks.specs.Parts.{operand_of}
use Rattle.overflow_checks.proofs.Given.{constant_gives, operand_is_given}
use Rattle.form_answers.specs.FormLaws.{Operand}
use Rattle.form_answers.specs.Standing.{ExactlyIs}

module _ (p : Program) (u : CState) where
  pub operand_given : (kind : IntKind) (e : Expr) (n : ℤ) → Operand p u kind e n → IsGiven p u kind (operand_of (width kind) (is_signed kind) e) n
  operand_given kind (Number m suffix) n o =
      let is : (pos m ≡ n) × IsSome (constant_type p.target suffix m) = o.exact in
      operand_is_given p u kind (Number m suffix) n (is.1, subst (λ v. IsTrue (in_range kind v)) (sym is.0) o.is_in) is.0
  operand_given kind (Read place) n o = record { gives = o.exact.gives; type = o.exact.type; is_in = o.is_in }
  operand_given kind (Address place) n o = record { gives = o.exact.gives; type = o.exact.type; is_in = o.is_in }
  operand_given kind (Unary op e) n o = record { gives = o.exact.gives; type = o.exact.type; is_in = o.is_in }
  operand_given kind (Binary op a b) n o = record { gives = o.exact.gives; type = o.exact.type; is_in = o.is_in }
  operand_given kind (Cast to e) n o = record { gives = o.exact.gives; type = o.exact.type; is_in = o.is_in }
  operand_given kind (Cond c a b) n o = record { gives = o.exact.gives; type = o.exact.type; is_in = o.is_in }

  -- the expression evaluates to the number, and its type has it
  pub record IsHeld (e : Expr) (n : ℤ) : Type 0 where
    pub kind : CKind
    pub gives : eval p e u ≡ Ok (Num kind n)
    pub has : IsTrue (can_hold (table_of p.target) kind n)

  constant_by : (m : ℕ) (suffix : Suffix) (found : Option Arith) → constant_type_in (table_of p.target) suffix m ≡ found → IsSome found → IsHeld (Number m suffix) (pos m)
  constant_by m suffix None e some = cc
  constant_by m suffix (Some c) e some = record {
    kind = Computed c;
    gives = constant_gives p u m suffix c e;
    has = first_holds (table_of p.target) (candidates suffix) (pos m) c e;
  }

  constant_held : (m : ℕ) (suffix : Suffix) → IsSome (constant_type p.target suffix m) → IsHeld (Number m suffix) (pos m)
  constant_held m suffix some = constant_by m suffix (constant_type p.target suffix m) refl some

  pub exact_held : (k : CScalar) (e : Expr) (n : ℤ) → ExactlyIs p u k e n → IsTrue (can_hold (table_of p.target) (Scalar k) n) → IsHeld e n
  exact_held k (Number m suffix) n is has =
      let both : (pos m ≡ n) × IsSome (constant_type p.target suffix m) = is in
      subst (IsHeld (Number m suffix)) both.0 (constant_held m suffix both.1)
  exact_held k (Read place) n is has = record { kind = Scalar k; gives = is.gives; has = has }
  exact_held k (Address place) n is has = record { kind = Scalar k; gives = is.gives; has = has }
  exact_held k (Unary op e) n is has = record { kind = Scalar k; gives = is.gives; has = has }
  exact_held k (Binary op a b) n is has = record { kind = Scalar k; gives = is.gives; has = has }
  exact_held k (Cast to e) n is has = record { kind = Scalar k; gives = is.gives; has = has }
  exact_held k (Cond c a b) n is has = record { kind = Scalar k; gives = is.gives; has = has }

-- How an expression of C stands for a number in a state: exactly, as a value of a scalar type's own or a constant (C99 6.4.4.1); by its number,
-- in whatever type; or by the number that it is once it is converted to the scalar type (6.3.1).
use Rattle.std.specs.Prelude.{◌≡◌, ℤ, pos, Bool, IsSome, Some, Ok}
use Rattle.c_ast.specs.declared.CKind.{CKind}
use Rattle.c_ast.specs.declared.CKind.TheVariants.{Scalar}
use Rattle.c_ast.specs.declared.CScalar.{CScalar}
use Rattle.c_ast.specs.Conversions.{constant_type, convert_in}
use Rattle.c_ast.specs.StaticTypes.{Arithmetic}
use Rattle.c_ast.specs.Syntax.{Expr, Number}
use Rattle.c_ast.specs.Targets.{table_of}
use Rattle.c_meaning.specs.Expressions.{eval, static_type}
use Rattle.c_meaning.specs.State.{Program, CState}
use Rattle.c_meaning.specs.Values.{Num, is_true, on_ok}
use Rattle.lower_values.specs.Pieces.{Standing, Exact, Same, Near}

-- an expression that evaluates to the number as a value of the scalar type, which is its own
pub record HasScalar (p : Program) (u : CState) (k : CScalar) (e : Expr) (n : ℤ) : Type 0 where
  pub gives : eval p e u ≡ Ok (Num (Scalar k) n)
  pub type : static_type p u e ≡ Some (Arithmetic (Scalar k))

-- a constant stands for its own number, where it has a type
abbrev pub ExactlyIs : Program → CState → CScalar → Expr → ℤ → Type 0
ExactlyIs p u k (Number m suffix) n = (pos m ≡ n) × IsSome (constant_type p.target suffix m)
ExactlyIs p u k e n = HasScalar p u k e n

abbrev pub IsNumber : Program → CState → Expr → ℤ → Type 0
IsNumber p u e n = (kind : CKind) × (eval p e u ≡ Ok (Num kind n))

pub record Converts (p : Program) (u : CState) (k : CScalar) (e : Expr) (n : ℤ) : Type 0 where
  pub kind : CKind
  pub number : ℤ
  pub gives : eval p e u ≡ Ok (Num kind number)
  pub converted : convert_in (table_of p.target) (Scalar k) number ≡ Some n

abbrev pub Stands : Standing → Program → CState → CScalar → Expr → ℤ → Type 0
Stands Exact p u k e n = ExactlyIs p u k e n
Stands Same p u k e n = IsNumber p u e n
Stands Near p u k e n = Converts p u k e n

-- the expression is true just where this holds
abbrev pub TestIs : Program → CState → Expr → Bool → Type 0
TestIs p u e holds = on_ok (eval p e u) is_true ≡ Ok holds

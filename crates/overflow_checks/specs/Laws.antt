-- What holds of the checks, and which guards the contract refuses.
use Rattle.std.specs.Prelude.{◌≡◌, ℤ, codes, IsTrue, Some, Err}
use Rattle.iv_words.specs.Kinds.{in_range}
use Rattle.iv_words.specs.declared.IntKind.{IntKind}
use Rattle.iv_words.specs.declared.IntKind.TheVariants.{I32}
use Rattle.int_ops.specs.Operators.{is_binary, exact}
use Rattle.int_ops.specs.declared.Op.{Op}
use Rattle.int_ops.specs.declared.Op.TheVariants as op
use Rattle.int_ops.specs.declared.Stop.{Stop}
use Rattle.int_ops.specs.declared.Stop.TheVariants.{Overflow}
use Rattle.c_ast.specs.declared.Target.TheVariants.{T32}
use Rattle.c_ast.specs.declared.Suffix.TheVariants.{Plain}
use Rattle.c_ast.specs.declared.CBinary.TheVariants.{Add, Ge}
use Rattle.c_ast.specs.declared.CScalar.TheVariants.{Int as Exact}
use Rattle.c_ast.specs.declared.CKind.TheVariants.{Scalar}
use Rattle.c_ast.specs.Syntax.{Name, Expr, Number, Read, Binary, Var}
use Rattle.c_meaning.specs.Values.{Num}
use Rattle.c_meaning.specs.State.{Program, CState}
use Rattle.c_meaning.specs.Scopes.{name_value}
use Rattle.overflow_checks.specs.Checks.{is_check}
use Rattle.overflow_checks.specs.Contract.{StandsFor, IsGuard}

-- An operator stops for no other reason than one that a check of it is for: where none of its checks fails, it answers.
abbrev pub StopsAreChecks : Type 0
StopsAreChecks =
    (o : Op) (kind : IntKind) (which : Stop) (x y : ℤ) → IsTrue (in_range kind x) → (IsTrue (is_binary o) → IsTrue (in_range kind y))
    → exact o kind x y ≡ Err which → IsTrue (is_check o kind which)

-- A name that holds a number of the kind as a value of the kind's type stands for it.
abbrev pub NamesStandFor : Type 0
NamesStandFor =
    (p : Program) (s : CState) (kind : IntKind) (x : Name) (v : ℤ) → name_value s x ≡ Some (Num (Scalar (Exact kind)) v) → IsTrue (in_range kind v)
    → StandsFor p s kind (Read (Var x)) v

-- two names
abbrev pub a : Expr
a = Read (Var (codes "a"))

abbrev pub b : Expr
b = Read (Var (codes "b"))

pub record RefusedGuards : Type 0 where
  -- add first, and test whether the sum wrapped: the sum itself is undefined where it does not fit
  pub adds_first : IsGuard T32 op.Add I32 Overflow a b (Binary Ge (Binary Add a b) a) → ⊥
  -- leave the least number by -1 out
  pub always_passes : IsGuard T32 op.Div I32 Overflow a b (Number 1 Plain) → ⊥

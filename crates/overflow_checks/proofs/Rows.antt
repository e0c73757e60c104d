-- What is proved of each row, where the operands of a kind are given: what its guard tests, and which number its computation gives.
use Rattle.std.proofs.Common.{◌≡◌, ℤ, Bool, Ok}
use Rattle.iv_words.specs.declared.IntKind.{IntKind}
use Rattle.c_ast.specs.declared.CKind.{CKind}
use Rattle.c_ast.specs.Syntax.{Expr}
use Rattle.c_ast.specs.Targets.{table_of}
use Rattle.c_meaning.specs.Values.{Num}
use Rattle.c_meaning.specs.Operators.{truth}
use Rattle.c_meaning.specs.State.{Program, CState}
use Rattle.c_meaning.specs.Expressions.{eval}
use Rattle.overflow_checks.proofs.Tables.{CTable}
use Rattle.overflow_checks.specs.Contract.{IsGiven}

-- the operands of a binary operator, over a table of a target
pub record AreGiven (p : Program) (s : CState) (kind : IntKind) (a b : Expr) (x y : ℤ) : Type 0 where
  pub table : CTable (table_of p.target)
  pub left : IsGiven p s kind a x
  pub right : IsGiven p s kind b y

-- the guard has a value, which is the truth of this
abbrev pub Tests : Program → CState → Expr → Bool → Type 0
Tests p s guard holds = eval p guard s ≡ Ok (truth holds)

-- the expression has a value, and its number is this
pub record GivesNumber (p : Program) (s : CState) (e : Expr) (v : ℤ) : Type 0 where
  pub kind : CKind
  pub gives : eval p e s ≡ Ok (Num kind v)

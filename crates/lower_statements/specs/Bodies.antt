-- Statements of C with the number of the temporary after them, put together in order.
use Rattle.std.specs.Prelude.{ℕ, List, [], ◌++◌}
use Rattle.c_ast.specs.Syntax.{Expr, Stmt}
use Rattle.lower_values.specs.Pieces.{Piece}

pub record Body : Type 0 where
  pub stmts : List Stmt
  pub next : ℕ

abbrev pub nothing : ℕ → Body
nothing k = record { stmts = []; next = k }

abbrev pub followed_by : Body → (ℕ → Body) → Body
followed_by a rest = let b = rest a.next in record { stmts = a.stmts ++ b.stmts; next = b.next }

-- what stands before a value, and then statements with it
abbrev pub with_value : Piece → (Expr → List Stmt) → Body
with_value p make = record { stmts = p.before ++ make p.value; next = p.next }

-- the statements within a block, which this statement is made of
abbrev pub around : (List Stmt → List Stmt) → Body → Body
around make b = record b { stmts = make b.stmts }

-- one expression after another, and what takes their values
pub record Pieces : Type 0 where
  pub before : List Stmt
  pub values : List Expr
  pub next : ℕ

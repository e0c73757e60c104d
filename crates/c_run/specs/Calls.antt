-- The functions that a function may call: those before it, of which the latest of a name counts; and how much there is to walk.
use Rattle.std.specs.Prelude.{ℕ, ◌+◌, List, [], ◌∷◌, map}
use Rattle.c_ast.specs.Syntax.{Function, Stmt, Const, ConstCall, Object, Assign, If, IfElse, Forever, Break, Return, Block, Call, Stmts, Nil, Cons}
use Rattle.c_ast.specs.View.{function_of}
use Rattle.c_ast.specs.declared.CFunction.{CFunction}
use Rattle.c_meaning.specs.Calls.{Calls, no_functions}
use Rattle.c_meaning.specs.Runs.{with_function}
use Rattle.c_meaning.specs.State.{Program}

abbrev pub calls_after : Program → Calls → List Function → Calls
calls_after p earlier [] = earlier
calls_after p earlier (f ∷ fs) = calls_after p (with_function p earlier f) fs

abbrev pub calls_of : Program → List CFunction → Calls
calls_of p fs = calls_after p (no_functions p) (map function_of fs)

-- ---- how many statements stand in a statement, each with itself

abbrev mutual
  pub weight : Stmt → ℕ
  weight (Const x t e) = 1
  weight (ConstCall x t c) = 1
  weight (Object x b i) = 1
  weight (Assign place e) = 1
  weight (If e a) = weights a + 1
  weight (IfElse e a b) = weights a + weights b + 1
  weight (Forever a) = weights a + 1
  weight Break = 1
  weight (Return e) = 1
  weight (Block a) = weights a + 1
  weight (Call c) = 1

  pub weights : Stmts → ℕ
  weights Nil = 0
  weights (Cons s rest) = weight s + weights rest + 1

-- those of functions
abbrev pub load : List Function → ℕ
load [] = 0
load (f ∷ fs) = weights f.body + 1 + load fs

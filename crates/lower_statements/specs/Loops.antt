-- Loops. A counter is an object that is tested after each turn, so that it is never counted past the last one: its type need hold no more
-- than the indices.
use Rattle.std.specs.Prelude.{ℕ, ◌-◌, List, [], ◌∷◌, ◌++◌, Some}
use Rattle.iv_words.specs.declared.IntKind.TheVariants.{U16}
use Rattle.c_ast.specs.declared.CScalar.TheVariants.{Int}
use Rattle.c_ast.specs.declared.CBase.TheVariants.{Scalar}
use Rattle.c_ast.specs.declared.Suffix.TheVariants.{Plain}
use Rattle.c_ast.specs.declared.CUnary.TheVariants.{Not}
use Rattle.c_ast.specs.declared.CBinary.TheVariants.{Add, Sub, Ne}
use Rattle.c_ast.specs.Syntax.{Name, Expr, Number, Read, Unary, Binary, Var, Stmt, Object, Assign, If, Forever, Break, Nil, Cons, One}
use Rattle.c_ast.specs.View.{stmts_from}

-- `uint16_t NAME = E;`
abbrev pub counter : Name → Expr → Stmt
counter x e = Object x (Scalar (Int U16)) (Some (One e))

-- `if ((!E)) { break; }`
abbrev pub unless_left : Expr → Stmt
unless_left e = If (Unary Not e) (Cons Break Nil)

-- the body, the test of the last turn, and the next number
abbrev pub turns : List Stmt → (more next : Expr) → Name → Stmt
turns body more next x = Forever (stmts_from (body ++ unless_left more ∷ Assign (Var x) next ∷ []))

-- from 0 up to a last number
abbrev pub counting_to : Name → (last : Expr) → List Stmt → List Stmt
counting_to x last body =
    counter x (Number 0 Plain) ∷ turns body (Binary Ne (Read (Var x)) last) (Binary Add (Read (Var x)) (Number 1 Plain)) x ∷ []

-- all indices of a length
abbrev pub counting_up : Name → (length : ℕ) → List Stmt → List Stmt
counting_up x n body = counting_to x (Number (n - 1) Plain) body

-- from a first number down to 0
abbrev pub counting_down : Name → (first : Expr) → List Stmt → List Stmt
counting_down x first body = counter x first ∷ turns body (Read (Var x)) (Binary Sub (Read (Var x)) (Number 1 Plain)) x ∷ []

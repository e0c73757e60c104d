-- An expression comes out as statements before it and an expression of C. Each step of the source is paid by a statement of its own:
-- by the test of a check, by a declaration that keeps a value, by the source's own statement, or else by an `if` that does nothing.
-- `owed` says that the step of the last operator is still to be paid, by what takes the expression.
use Rattle.std.specs.Prelude.{ℕ, suc, Bool, true, false, not, ◌&&◌, if◌then◌else◌, List, [], ◌∷◌, ◌++◌}
use Rattle.c_ast.specs.declared.CType.{CType}
use Rattle.c_ast.specs.declared.Suffix.TheVariants.{Plain}
use Rattle.c_ast.specs.Syntax.{Expr, Number, Read, Cast, Place, Var, Stmt, Const, If, Nil}
use Rattle.lower_types.specs.Names.{local_name}

-- How well the expression stands for the value: exactly, as a value of the type's own C type or a constant; by its number, in whatever
-- type; or by the number that it has once it is converted to that type.
pub data Standing : Type 0 where
  Exact Same Near : Standing

-- `next` is the number of the next temporary
pub record Piece : Type 0 where
  pub before : List Stmt
  pub value : Expr
  pub owed : Bool
  pub standing : Standing
  pub next : ℕ

-- a reference comes out as the place that it leads to; its steps are all paid
pub record PlacePiece : Type 0 where
  pub before : List Stmt
  pub place : Place
  pub next : ℕ

-- ---- steps

-- `if (1) { }`
abbrev pub pad : Stmt
pad = If (Number 1 Plain) Nil

abbrev pub paid : Bool → List Stmt
paid true = pad ∷ []
paid false = []

-- ---- how an expression is taken

-- as it is, for a statement that pays a step of its own
abbrev pub inline : Piece → Piece
inline p = record p { before = p.before ++ paid p.owed; owed = false }

-- by the name of a temporary, whose declaration pays what is owed
abbrev pub named : CType → Piece → Piece
named ty p = record {
  before = p.before ++ Const (local_name p.next) ty p.value ∷ [];
  value = Read (Var (local_name p.next));
  owed = false;
  standing = Exact;
  next = suc p.next;
}

-- A constant or a name, which can stand more than once. What is owed nothing and stands by its number is a cast only of a constant.
abbrev pub is_atom : Expr → Bool
is_atom (Number n suffix) = true
is_atom (Cast ty e) = true
is_atom (Read (Var x)) = true
is_atom _ = false

-- a constant, or what is read of a place
abbrev pub is_read : Expr → Bool
is_read (Read place) = true
is_read e = is_atom e

-- A constant or a name that stands as it is: what is read of a place owes a step, and may change before it is taken again.
abbrev pub stays : Piece → Bool
stays p = is_atom p.value && not p.owed

abbrev pub is_exact : Standing → Bool
is_exact Exact = true
is_exact Same = false
is_exact Near = false

abbrev pub has_number : Standing → Bool
has_number Exact = true
has_number Same = true
has_number Near = false

-- an index or a bound, of which the number alone matters
abbrev pub atom : CType → Piece → Piece
atom ty p = if has_number p.standing && stays p then p else named ty p

-- an operand that stands once, and one that may stand more often
abbrev pub once : CType → Piece → Piece
once ty p = if is_exact p.standing && is_read p.value then inline p else named ty p

abbrev pub often : CType → Piece → Piece
often ty p = if is_exact p.standing && stays p then p else named ty p

abbrev pub taken : (again : Bool) → CType → Piece → Piece
taken true ty p = often ty p
taken false ty p = once ty p

-- ---- two operands

pub record Operands : Type 0 where
  pub before : List Stmt
  pub left : Expr
  pub right : Expr
  pub next : ℕ

-- the left one, which is taken before the right one is made, and the right one
abbrev pub both : (left right : Piece) → Operands
both p q = record { before = p.before ++ q.before; left = p.value; right = q.value; next = q.next }

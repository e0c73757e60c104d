-- `&&`, `||` and `? :` in C. The right operand and the arms have statements of their own, so they stand in blocks and leave their values in
-- an object. A chain of `&&` and `||` has one object for all its operands.
use Rattle.std.specs.Prelude.{suc, Bool, true, false, List, [], ◌∷◌, ◌++◌, Some, None}
use Rattle.ivory_tree.specs.declared.BinOp.{BinOp}
use Rattle.ivory_tree.specs.declared.BinOp.TheVariants.{OrElse, AndAlso}
use Rattle.area_types.specs.Syntax.{ValueType, Truth}
use Rattle.core_tree.specs.Syntax as core
use Rattle.core_tree.specs.Syntax.{ExprCore}
use Rattle.c_ast.specs.declared.CUnary.TheVariants.{Not}
use Rattle.c_ast.specs.declared.CBinary.TheVariants as c
use Rattle.c_ast.specs.Syntax.{Name, Expr, Read, Unary, Binary, Place, Var, Stmt, Object, Assign, If, IfElse, One}
use Rattle.c_ast.specs.View.{stmts_from}
use Rattle.lower_types.specs.Names.{local_name}
use Rattle.lower_values.specs.Frames.{Frame, base_in}
use Rattle.lower_values.specs.Pieces.{Piece, Exact}

-- ---- `&&` and `||`

abbrev pub is_logic : BinOp → Bool
is_logic OrElse = true
is_logic AndAlso = true
is_logic _ = false

-- the expression is a chain of `&&` and `||`, whose value is in an object
abbrev pub is_truth_chain : ExprCore → Bool
is_truth_chain (core.Binary l op left right) = is_logic op
is_truth_chain (core.Whole l e) = is_truth_chain e
is_truth_chain _ = false

-- the object with the value of the left operand
abbrev pub left_object : Frame → (is_chain : Bool) → Piece → Piece
left_object f true p = p
left_object f false p = record {
  before = p.before ++ Object (local_name p.next) (base_in f Truth) (Some (One p.value)) ∷ [];
  value = Read (Var (local_name p.next));
  owed = false;
  standing = Exact;
  next = suc p.next;
}

-- the right operand is evaluated where the left one does not settle the truth
abbrev pub goes_on : BinOp → Expr → Expr
goes_on OrElse e = Unary Not e
goes_on _ e = e

abbrev pub place_of : Expr → Place
place_of (Read place) = place
place_of _ = Var []

-- statements that leave a value in a place
abbrev pub into : Place → Piece → List Stmt
into place p = p.before ++ Assign place p.value ∷ []

-- the left operand has its object already
abbrev pub logic : BinOp → (left right : Piece) → Piece
logic o p q = record p { before = p.before ++ If (goes_on o p.value) (stmts_from (into (place_of p.value) q)) ∷ []; next = q.next }

-- ---- conditions

-- in a condition an equality is written as what it is not, since compilers take `if ((x == n))` for a slip
abbrev pub condition : Expr → Expr
condition (Binary c.Eq a b) = Unary Not (Binary c.Ne a b)
condition e = e

-- ---- `? :`

-- the object that takes the value of an arm
abbrev pub arm_object : Piece → Name
arm_object test = local_name test.next

abbrev pub choice : Frame → ValueType → (test first second : Piece) → Piece
choice f ty t p q = record {
  before = t.before ++ Object (arm_object t) (base_in f ty) None ∷ IfElse (condition t.value) (stmts_from (into (Var (arm_object t)) p)) (stmts_from (into (Var (arm_object t)) q)) ∷ [];
  value = Read (Var (arm_object t));
  owed = false;
  standing = Exact;
  next = q.next;
}

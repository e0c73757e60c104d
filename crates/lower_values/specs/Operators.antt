-- Operators in C, of operands that stand for their values: the tests of its checks, and then its computation, both as overflow_checks
-- has them for each kind. A truth is compared as it is.
use Rattle.std.specs.Prelude.{ℕ, true, List, ◌++◌, Option, Some, None}
use Rattle.iv_words.specs.Kinds.{width, is_signed}
use Rattle.iv_words.specs.declared.IntKind.{IntKind}
use Rattle.int_ops.specs.declared.Op.{Op}
use Rattle.int_ops.specs.declared.Op.TheVariants as op
use Rattle.int_ops.specs.declared.Stop.{Stop}
use Rattle.int_ops.specs.declared.Stop.TheVariants as stop
use Rattle.area_types.specs.Syntax.{ValueType}
use Rattle.core_tree.specs.declared.SiteKind.{SiteKind}
use Rattle.core_tree.specs.declared.SiteKind.TheVariants.{Overflow, DivZero, Shift}
use Rattle.core_tree.specs.Syntax.{Label}
use Rattle.c_ast.specs.declared.CBinary.TheVariants as c
use Rattle.c_ast.specs.Syntax.{Expr, Binary, Stmt}
use Rattle.overflow_checks.specs.Forms.{guard_for, computation_for}
use Rattle.lower_values.specs.Frames.{Frame, kind_in, type_in, int_bits_of}
use Rattle.lower_values.specs.Pieces.{Piece, Near, Operands, taken, both}
use Rattle.lower_values.specs.Ranges.{settled}
use Rattle.lower_values.specs.Tests.{tests, has_checks, are_none}

-- ---- one operator

abbrev pub stop_of : SiteKind → Stop
stop_of DivZero = stop.DivZero
stop_of Shift = stop.Shift
stop_of _ = stop.Overflow

abbrev pub guard_in : Frame → IntKind → Op → (left right : Expr) → SiteKind → Expr
guard_in f kind o a b which = guard_for (int_bits_of f) (width kind) (is_signed kind) o (stop_of which) a b

abbrev pub computed : IntKind → Op → (left right : Expr) → Expr
computed kind o a b = computation_for (width kind) (is_signed kind) o a b

-- of two truths
abbrev pub compared : Op → (left right : Expr) → Expr
compared op.Ne a b = Binary c.Ne a b
compared _ a b = Binary c.Eq a b

-- ---- with operands

-- the value of an operator, whose step the last test pays where there is one
abbrev pub with_tests : (before test_stmts : List Stmt) → Expr → ℕ → Piece
with_tests before test_stmts e next = record { before = before ++ test_stmts; value = e; owed = are_none test_stmts; standing = Near; next = next }

abbrev pub applied : Frame → Option IntKind → Op → Label → Operands → Piece
applied f None o l at = record { before = at.before; value = compared o at.left at.right; owed = true; standing = Near; next = at.next }
applied f (Some kind) o l at =
    with_tests at.before (tests f (guard_in f kind o at.left at.right) (settled kind o at.right) l.checks) (computed kind o at.left at.right) at.next

-- an operand, which the guards of checks use again
abbrev pub operand : Frame → Label → ValueType → Piece → Piece
operand f l ty p = taken (has_checks l) (type_in f ty) p

-- a binary operator on operands of the type; the left one is taken before the right one is made
abbrev pub binary : Frame → Op → Label → ValueType → (left right : Piece) → Piece
binary f o l ty p q = applied f (kind_in f ty) o l (both p (operand f l ty q))

-- a prefix operator, whose one operand is its left one
abbrev pub single : Piece → Operands
single p = record { before = p.before; left = p.value; right = p.value; next = p.next }

abbrev pub prefix : Frame → Op → Label → ValueType → Piece → Piece
prefix f o l ty p = applied f (kind_in f ty) o l (single (operand f l ty p))

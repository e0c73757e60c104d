-- The C of statements: each statement of the source is one of C with what stands before it, and a block of the source is one of C.
use Rattle.std.specs.Prelude.{ℕ, if◌then◌else◌, List, [], ◌∷◌, ◌++◌, slice_get, get_or, Option, Some, None}
use Rattle.area_types.specs.Syntax.{ValueType, Truth, Ref, Area, Stored}
use Rattle.area_types.specs.Tables.{written_out}
use Rattle.area_types.specs.Trees.{Written}
use Rattle.core_tree.specs.Syntax as core
use Rattle.core_tree.specs.Syntax.{ExprCore, CallCore, StmtCore, StmtsCore, ContractCore, ImportCore, ProcCore, type_of}
use Rattle.c_ast.specs.declared.CType.{CType}
use Rattle.c_ast.specs.Syntax.{Name, Expr, FunctionCall, Stmt, Const, ConstCall, Object, Assign, If, IfElse, Forever, Break, Block, Call}
use Rattle.c_ast.specs.View.{stmts_from}
use Rattle.lower_types.specs.Names.{item_name, local_name}
use Rattle.lower_types.specs.Types.{base_for}
use Rattle.lower_values.specs.Frames.{Frame, type_in}
use Rattle.lower_values.specs.Pieces.{Piece, PlacePiece, atom}
use Rattle.lower_values.specs.Choices.{condition}
use Rattle.lower_values.specs.Expressions.{raw, place, value_of}
use Rattle.lower_statements.specs.Bodies.{Body, nothing, with_value, around, Pieces}
use Rattle.lower_statements.specs.Parts.{copied}
use Rattle.lower_statements.specs.Loops.{counting_to, counting_up, counting_down}
use Rattle.lower_statements.specs.Locals.{InitPiece, local_init}
use Rattle.lower_statements.specs.Conditions.{tested, return_value, return_nothing}

-- what the C of a procedure's statements is made over besides its frame: its result's type, the types of its locals, what it ensures
pub record Home : Type 0 where
  pub result : CType
  pub locals : List ValueType
  pub ensures : List ContractCore

-- ---- calls

abbrev pub join_pieces : Piece → Pieces → Pieces
join_pieces p q = record { before = p.before ++ q.before; values = p.value ∷ q.values; next = q.next }

abbrev pub arguments : Frame → List ExprCore → ℕ → Pieces
arguments f [] k = record { before = []; values = []; next = k }
arguments f (e ∷ es) k = let p = value_of f e k in join_pieces p (arguments f es p.next)

abbrev pub import_name : Option ImportCore → Name
import_name None = []
import_name (Some i) = item_name i.name

abbrev pub proc_name : Option ProcCore → Name
proc_name None = []
proc_name (Some p) = item_name p.name

abbrev pub callee_name : Frame → CallCore → Name
callee_name f c = if c.import then import_name (slice_get f.core.imports c.callee) else proc_name (slice_get f.core.procs c.callee)

abbrev pub called : Frame → (FunctionCall → Stmt) → CallCore → ℕ → Body
called f make c k =
    let p = arguments f c.args k in
    record { stmts = p.before ++ make (record { name = callee_name f c; args = p.values }) ∷ []; next = p.next }

-- ---- single statements

-- the type of a local
abbrev pub local_type : List ValueType → ℕ → ValueType
local_type locals x = get_or locals x Truth

abbrev pub behind : ValueType → Area
behind (Ref constant region target) = target
behind ty = Stored ty

-- the value comes first, and then the place
abbrev pub stored : Piece → PlacePiece → Body
stored p q = record { stmts = p.before ++ (q.before ++ Assign q.place p.value ∷ []); next = q.next }

abbrev pub copied_to : Frame → Written → (target source : PlacePiece) → Body
copied_to f ty p q =
    let b = copied f ty p.place q.place q.next in
    record b { stmts = p.before ++ (q.before ++ b.stmts) }

abbrev pub object_of : Frame → Name → Area → InitPiece → Body
object_of f x area p = record { stmts = p.before ++ Object x (base_for f.table area) (Some p.init) ∷ []; next = p.next }

-- a loop whose bound is evaluated before it
abbrev pub bounded : Piece → (Expr → List Stmt → List Stmt) → (ℕ → Body) → Body
bounded p loop body = let b = body p.next in record { stmts = p.before ++ loop p.value b.stmts; next = b.next }

abbrev pub chosen : Piece → (ℕ → Body) → Body
chosen p body = let b = body p.next in record { stmts = p.before ++ If (condition p.value) (stmts_from b.stmts) ∷ []; next = b.next }

abbrev pub chosen_of : Piece → Body → Body → Body
chosen_of p a b = record { stmts = p.before ++ IfElse (condition p.value) (stmts_from a.stmts) (stmts_from b.stmts) ∷ []; next = b.next }

-- ---- all statements

module _ (f : Frame) (home : Home) where
  abbrev pub type_of_local : ℕ → CType
  type_of_local x = type_in f (local_type home.locals x)

  abbrev mutual
    pub stmt_body : StmtCore → ℕ → Body
    stmt_body (core.Let x e) k = with_value (value_of f e k) (λ v. Const (local_name x) (type_of_local x) v ∷ [])
    stmt_body (core.LetCall x c) k = called f (ConstCall (local_name x) (type_of_local x)) c k
    stmt_body (core.Alloc x area init) k = object_of f (local_name x) area (local_init f init (written_out f.core.structs area) k)
    stmt_body (core.Store target e) k = let p = value_of f e k in stored p (place f target p.next)
    stmt_body (core.Copy target source) k =
        let p = place f target k in
        copied_to f (written_out f.core.structs (behind (type_of target))) p (place f source p.next)
    stmt_body (core.Call c) k = called f Call c k
    stmt_body (core.If e a) k = chosen (value_of f e k) (stmts_body a)
    stmt_body (core.IfElse e a b) k =
        let p = value_of f e k in
        let first = stmts_body a p.next in
        chosen_of p first (stmts_body b first.next)
    stmt_body (core.Map x n a) k = around (counting_up (local_name x) n) (stmts_body a k)
    stmt_body (core.Upto x n e a) k = bounded (atom (type_in f (type_of e)) (raw f e k)) (counting_to (local_name x)) (stmts_body a)
    stmt_body (core.Downto x n e a) k = bounded (value_of f e k) (counting_down (local_name x)) (stmts_body a)
    stmt_body (core.Forever a) k = around (λ ss. Forever (stmts_from ss) ∷ []) (stmts_body a k)
    stmt_body core.Break k = record { stmts = Break ∷ []; next = k }
    stmt_body (core.Return None) k = return_nothing f home.ensures k
    stmt_body (core.Return (Some e)) k = return_value f home.ensures home.result (raw f e k)
    stmt_body (core.Assert e check) k = tested f e check k
    stmt_body (core.NoAlloc a) k = around (λ ss. Block (stmts_from ss) ∷ []) (stmts_body a k)
    stmt_body (core.NoBreak a) k = around (λ ss. Block (stmts_from ss) ∷ []) (stmts_body a k)
    stmt_body (core.NoReturn a) k = around (λ ss. Block (stmts_from ss) ∷ []) (stmts_body a k)

    pub stmts_body : StmtsCore → ℕ → Body
    stmts_body core.NoStmts k = nothing k
    stmts_body (core.MoreStmts s ss) k =
        let a = stmt_body s k in
        let b = stmts_body ss a.next in
        record { stmts = a.stmts ++ b.stmts; next = b.next }

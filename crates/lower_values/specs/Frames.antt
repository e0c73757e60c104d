-- What the C of a body is made over: the module, the target, the sites whose check is left out, the procedure's parameters, the locals
-- that are objects, and what stands for `result`.
use Rattle.std.specs.Prelude.{ℕ, Bool, false, ◌||◌, nat_eq, List, [], ◌∷◌, ◌++◌, Option, Some, None, slice_get}
use Rattle.iv_words.specs.declared.IntKind.{IntKind}
use Rattle.area_types.specs.Syntax.{ValueType}
use Rattle.core_tree.specs.Syntax.{ModuleCore, StmtCore, Let, LetCall, Alloc, Store, Copy, Call, If, IfElse, Map, Upto, Downto, Forever, Break, Return, Assert, NoAlloc, NoBreak, NoReturn, StmtsCore, NoStmts, MoreStmts}
use Rattle.c_ast.specs.declared.Target.{Target}
use Rattle.c_ast.specs.declared.CType.{CType}
use Rattle.c_ast.specs.declared.CBase.{CBase}
use Rattle.c_ast.specs.declared.CBase.TheVariants as base
use Rattle.c_ast.specs.Targets.{table_of}
use Rattle.c_ast.specs.Syntax.{Name, Expr}
use Rattle.lower_types.specs.Names.{item_name, local_name}
use Rattle.lower_types.specs.Types.{TypeTable, kind_of, scalar_for, type_for}

pub record Frame : Type 0 where
  pub core : ModuleCore
  pub table : TypeTable
  pub target : Target
  pub skip : ℕ → Bool
  pub params : List Name
  pub objects : List ℕ
  pub outcome : Expr

-- ---- locals

-- an `alloc` is an object of its own; all other locals are names that hold values
abbrev mutual
  pub allocated_stmt : StmtCore → List ℕ
  allocated_stmt (Alloc number area init) = number ∷ []
  allocated_stmt (If test first) = allocated first
  allocated_stmt (IfElse test first second) = allocated first ++ allocated second
  allocated_stmt (Map number length body) = allocated body
  allocated_stmt (Upto number length bound body) = allocated body
  allocated_stmt (Downto number length bound body) = allocated body
  allocated_stmt (Forever body) = allocated body
  allocated_stmt (NoAlloc body) = allocated body
  allocated_stmt (NoBreak body) = allocated body
  allocated_stmt (NoReturn body) = allocated body
  allocated_stmt (Let number value) = []
  allocated_stmt (LetCall number call) = []
  allocated_stmt (Store target value) = []
  allocated_stmt (Copy target source) = []
  allocated_stmt (Call call) = []
  allocated_stmt Break = []
  allocated_stmt (Return value) = []
  allocated_stmt (Assert cond check) = []

  pub allocated : StmtsCore → List ℕ
  allocated NoStmts = []
  allocated (MoreStmts s ss) = allocated_stmt s ++ allocated ss

abbrev pub is_among : ℕ → List ℕ → Bool
is_among x [] = false
is_among x (y ∷ ys) = nat_eq x y || is_among x ys

abbrev pub is_object : Frame → ℕ → Bool
is_object f x = is_among x f.objects

-- a parameter has its own name, and each other local one of its number
abbrev pub named_or : ℕ → Option Name → Name
named_or x None = local_name x
named_or x (Some name) = item_name name

abbrev pub name_of : Frame → ℕ → Name
name_of f x = named_or x (slice_get f.params x)

-- ---- types

abbrev pub kind_in : Frame → ValueType → Option IntKind
kind_in f ty = kind_of f.table ty

abbrev pub base_in : Frame → ValueType → CBase
base_in f ty = base.Scalar (scalar_for f.table ty)

abbrev pub type_in : Frame → ValueType → CType
type_in f ty = type_for f.table ty

abbrev pub int_bits_of : Frame → ℕ
int_bits_of f = (table_of f.target).int_bits

-- The abstract syntax of resolved modules: what a core says, for definitions by cases. Names are numbers here: structs, layouts, areas,
-- imports and procedures in order of declaration, and in a procedure first its parameters and then its other locals in order of text.
-- Each expression carries its type and its own checks. A chain is nested to the left, and so are the fields and indices after an operand.
use Rattle.std.specs.Prelude.{ℕ, ℤ, Bool, List, Option}
use Rattle.run_records.specs.declared.Plain.{Plain}
use Rattle.ivory_tree.specs.declared.expr.PrefixOp.{PrefixOp}
use Rattle.ivory_tree.specs.declared.expr.BinOp.{BinOp}
use Rattle.area_types.specs.Syntax.{Name, ValueType, Area}
use Rattle.area_types.specs.Tables.{Table}
use Rattle.bit_data.specs.declared.layout.BitLayout.{BitLayout}
use Rattle.core_tree.specs.declared.check.Check.{Check}

-- what each expression carries: its type, and the checks of its own operator or form, in order
pub record Label : Type 0 where
  pub ty : ValueType
  pub checks : List Check

-- A truth is the number 1 or 0. A conversion goes to the number type, and an index to the length, of its label. Field is a field of bit data,
-- or of the struct behind a reference; Element is an element of the array behind one. Whole is a chain or a postfix with all its links or steps.
pub data ExprCore : Type 0 where
  Number : Label → (value : ℤ) → ExprCore
  Outcome : Label → ExprCore
  Local AreaName : Label → (number : ℕ) → ExprCore
  Cast ToIndex WrapIndex MakeBits Raw : Label → ExprCore → ExprCore
  SetField : Label → ExprCore → (field : ℕ) → (value : ExprCore) → ExprCore
  Prefix : Label → PrefixOp → ExprCore → ExprCore
  Binary : Label → BinOp → (left right : ExprCore) → ExprCore
  Field : Label → ExprCore → (field : ℕ) → ExprCore
  Element : Label → ExprCore → (index : ExprCore) → ExprCore
  Cond : Label → (test first second : ExprCore) → ExprCore
  Whole : Label → ExprCore → ExprCore

mutual
  -- initializers: of a stored value, or of elements or fields in order
  pub data InitCore : Type 0 where
    One : ExprCore → InitCore
    Many : InitsCore → InitCore

  pub data InitsCore : Type 0 where
    NoInits : InitsCore
    MoreInits : InitCore → InitsCore → InitsCore

-- a call of the import or the procedure of that number
pub record CallCore : Type 0 where
  pub import : Bool
  pub callee : ℕ
  pub args : List ExprCore

-- A store's target and both sides of a copy are references, and the target is evaluated as one. A loop has the number of its name and
-- the length of its index type.
mutual
  pub data StmtCore : Type 0 where
    Let : (number : ℕ) → ExprCore → StmtCore
    LetCall : (number : ℕ) → CallCore → StmtCore
    Alloc : (number : ℕ) → Area → Option InitCore → StmtCore
    Store : (target value : ExprCore) → StmtCore
    Copy : (target source : ExprCore) → StmtCore
    Call : CallCore → StmtCore
    If : ExprCore → StmtsCore → StmtCore
    IfElse : ExprCore → (first second : StmtsCore) → StmtCore
    Map : (number length : ℕ) → StmtsCore → StmtCore
    Upto Downto : (number length : ℕ) → (bound : ExprCore) → StmtsCore → StmtCore
    Forever : StmtsCore → StmtCore
    Break : StmtCore
    Return : Option ExprCore → StmtCore
    Assert : ExprCore → Check → StmtCore
    NoAlloc NoBreak NoReturn : StmtsCore → StmtCore

  pub data StmtsCore : Type 0 where
    NoStmts : StmtsCore
    MoreStmts : StmtCore → StmtsCore → StmtsCore

-- an area of the module, with the first value of each of its cells
pub record AreaCore : Type 0 where
  pub name : Name
  pub constant : Bool
  pub area : Area
  pub first : List ℤ

pub record ImportCore : Type 0 where
  pub name : Name
  pub params : List ValueType
  pub result : Option Plain

pub record ParamCore : Type 0 where
  pub name : Name
  pub ty : ValueType

-- `requires`, where before, or `ensures`
pub record ContractCore : Type 0 where
  pub before : Bool
  pub cond : ExprCore
  pub check : Check

-- `locals` has the types of all locals, those of the parameters first
pub record ProcCore : Type 0 where
  pub name : Name
  pub exported : Bool
  pub params : List ParamCore
  pub result : Option ValueType
  pub contracts : List ContractCore
  pub locals : List ValueType
  pub body : StmtsCore

pub record ModuleCore : Type 0 where
  pub structs : Table
  pub layouts : List BitLayout
  pub areas : List AreaCore
  pub imports : List ImportCore
  pub procs : List ProcCore

abbrev pub label_of : ExprCore → Label
label_of (Number l value) = l
label_of (Outcome l) = l
label_of (Local l number) = l
label_of (AreaName l number) = l
label_of (Cast l e) = l
label_of (ToIndex l e) = l
label_of (WrapIndex l e) = l
label_of (MakeBits l e) = l
label_of (Raw l e) = l
label_of (SetField l e field value) = l
label_of (Prefix l op e) = l
label_of (Binary l op left right) = l
label_of (Field l e field) = l
label_of (Element l e index) = l
label_of (Cond l test first second) = l
label_of (Whole l e) = l

-- the type that an expression carries
abbrev pub type_of : ExprCore → ValueType
type_of e = (label_of e).ty

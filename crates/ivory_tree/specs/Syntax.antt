-- The abstract syntax of modules: what a tree says, for definitions by cases. Each node carries its place in the text.
-- A chain is nested to the left here, and so are the fields and indices after an operand: each prefix is a node with its place.
-- Types without trees in them, as RegionText and BitsItem, are used as they are declared.
use Rattle.std.specs.Prelude.{ℕ, ℤ, Bool, List, Option}
use Rattle.iv_words.specs.declared.IntKind.{IntKind}
use Rattle.iv_words.specs.declared.Name.{Name}
use Rattle.iv_words.specs.declared.Span.{Span}
use Rattle.ivory_tree.specs.declared.types.RegionText.{RegionText}
use Rattle.ivory_tree.specs.declared.expr.PrefixOp.{PrefixOp}
use Rattle.ivory_tree.specs.declared.expr.BinOp.{BinOp}
use Rattle.ivory_tree.specs.declared.items.BitsItem.{BitsItem}

-- the bytes of a name
abbrev pub Word : Type 0
Word = List ℕ

mutual
  -- types: bool, a whole number, ix(N), bit data, a reference to an area
  pub data TypeSyntax : Type 0 where
    TruthType : Span → TypeSyntax
    IntType : Span → IntKind → TypeSyntax
    IndexType : Span → (length : ℕ) → TypeSyntax
    BitsType : Span → Word → TypeSyntax
    RefType : Span → (constant : Bool) → RegionText → AreaSyntax → TypeSyntax

  -- areas: one stored value, an array, a struct
  pub data AreaSyntax : Type 0 where
    StoredArea : Span → TypeSyntax → AreaSyntax
    ArrayArea : Span → (length : ℕ) → (element : AreaSyntax) → AreaSyntax
    StructArea : Span → Word → AreaSyntax

-- Expressions. Binary has the place of its operator, Element that of its brackets. Bare is a chain without a link or a
-- postfix without a step, which no text spells.
pub data ExprSyntax : Type 0 where
  Literal : Span → (value : ℤ) → ExprSyntax
  Truth : Span → (value : Bool) → ExprSyntax
  Outcome : Span → ExprSyntax
  Variable : Span → Word → ExprSyntax
  Cast : Span → IntKind → ExprSyntax → ExprSyntax
  ToIndex WrapIndex : Span → (length : ℕ) → ExprSyntax → ExprSyntax
  MakeBits : Span → Word → ExprSyntax → ExprSyntax
  Raw : Span → ExprSyntax → ExprSyntax
  SetField : Span → ExprSyntax → Name → (value : ExprSyntax) → ExprSyntax
  Prefix : Span → PrefixOp → ExprSyntax → ExprSyntax
  Binary : Span → BinOp → (at : Span) → (left right : ExprSyntax) → ExprSyntax
  Field : Span → ExprSyntax → Name → ExprSyntax
  Element : Span → (brackets : Span) → ExprSyntax → (index : ExprSyntax) → ExprSyntax
  Cond : Span → (test first second : ExprSyntax) → ExprSyntax
  Bare : Span → ExprSyntax → ExprSyntax

mutual
  -- initializers: of a stored value, or in braces
  pub data InitSyntax : Type 0 where
    One : ExprSyntax → InitSyntax
    Many : Span → InitsSyntax → InitSyntax

  pub data InitsSyntax : Type 0 where
    NoInits : InitsSyntax
    MoreInits : InitSyntax → InitsSyntax → InitsSyntax

-- a call of an import or a procedure
pub record CallSyntax : Type 0 where
  pub name : Name
  pub args : List ExprSyntax
  pub span : Span

mutual
  pub data StmtSyntax : Type 0 where
    Let : Span → Name → ExprSyntax → StmtSyntax
    LetCall : Span → Name → CallSyntax → StmtSyntax
    Alloc : Span → Name → AreaSyntax → Option InitSyntax → StmtSyntax
    Store : Span → (target value : ExprSyntax) → StmtSyntax
    Copy : Span → (target source : ExprSyntax) → StmtSyntax
    Call : Span → CallSyntax → StmtSyntax
    If : Span → ExprSyntax → BlockSyntax → StmtSyntax
    IfElse : Span → ExprSyntax → (first second : BlockSyntax) → StmtSyntax
    Map : Span → Name → (length : ℕ) → BlockSyntax → StmtSyntax
    Upto Downto : Span → Name → (length : ℕ) → (bound : ExprSyntax) → BlockSyntax → StmtSyntax
    Forever : Span → BlockSyntax → StmtSyntax
    Break : Span → StmtSyntax
    Return : Span → Option ExprSyntax → StmtSyntax
    Assert : Span → ExprSyntax → StmtSyntax
    NoAlloc NoBreak NoReturn : Span → BlockSyntax → StmtSyntax

  -- statements in braces
  pub data BlockSyntax : Type 0 where
    Braces : Span → StmtsSyntax → BlockSyntax

  pub data StmtsSyntax : Type 0 where
    NoStmts : StmtsSyntax
    MoreStmts : StmtSyntax → StmtsSyntax → StmtsSyntax

-- a field of a struct
pub record FieldSyntax : Type 0 where
  pub name : Name
  pub area : AreaSyntax
  pub span : Span

pub record StructSyntax : Type 0 where
  pub name : Name
  pub fields : List FieldSyntax
  pub span : Span

-- an area of the module
pub record GlobalSyntax : Type 0 where
  pub name : Name
  pub constant : Bool
  pub area : AreaSyntax
  pub init : Option InitSyntax
  pub span : Span

pub record ParamSyntax : Type 0 where
  pub name : Name
  pub ty : TypeSyntax
  pub span : Span

pub record HeaderSyntax : Type 0 where
  pub name : Name
  pub params : List ParamSyntax
  pub result : Option TypeSyntax
  pub span : Span

-- `requires`, where before, or `ensures`
pub record ContractSyntax : Type 0 where
  pub before : Bool
  pub cond : ExprSyntax
  pub span : Span

pub record ProcSyntax : Type 0 where
  pub exported : Bool
  pub header : HeaderSyntax
  pub contracts : List ContractSyntax
  pub body : BlockSyntax
  pub span : Span

pub data ItemSyntax : Type 0 where
  BitsData : BitsItem → ItemSyntax
  Struct : StructSyntax → ItemSyntax
  Global : GlobalSyntax → ItemSyntax
  Import : HeaderSyntax → ItemSyntax
  Procedure : ProcSyntax → ItemSyntax

pub record ModuleSyntax : Type 0 where
  pub name : Name
  pub items : List ItemSyntax
  pub span : Span

-- The abstract syntax of the C subset (C99 6.5 to 6.9): what a tree says, for definitions by cases.
-- Types without trees in them, as CType and CExtern, are used as they are declared.
use Rattle.std.specs.Prelude.{ℕ, Bool, List, Option}
use Rattle.c_ast.specs.declared.types.CBase.{CBase}
use Rattle.c_ast.specs.declared.types.CType.{CType}
use Rattle.c_ast.specs.declared.expr.Suffix.{Suffix}
use Rattle.c_ast.specs.declared.expr.CUnary.{CUnary}
use Rattle.c_ast.specs.declared.expr.CBinary.{CBinary}
use Rattle.c_ast.specs.declared.unit.CStruct.{CStruct}
use Rattle.c_ast.specs.declared.unit.CExtern.{CExtern}
use Rattle.c_ast.specs.declared.unit.CParam.{CParam}

-- the bytes of an identifier
abbrev pub Name : Type 0
Name = List ℕ

mutual
  -- expressions (6.5)
  pub data Expr : Type 0 where
    Number : (value : ℕ) → Suffix → Expr
    Read Address : Place → Expr
    Unary : CUnary → Expr → Expr
    Binary : CBinary → (left right : Expr) → Expr
    Cast : CType → Expr → Expr
    Cond : (test first second : Expr) → Expr

  -- lvalues (6.3.2.1): a name, what a pointer points to, a member, an element
  pub data Place : Type 0 where
    Var : Name → Place
    At : (pointer : Expr) → Place
    Member : Place → Name → Place
    Element : Place → (index : Expr) → Place

mutual
  -- initializers (6.7.8)
  pub data Init : Type 0 where
    One : Expr → Init
    Zero : Init
    Many : Inits → Init

  pub data Inits : Type 0 where
    NoInits : Inits
    MoreInits : Init → Inits → Inits

-- a call (6.5.2.2)
pub record FunctionCall : Type 0 where
  pub name : Name
  pub args : List Expr

mutual
  -- statements and declarations in blocks (6.7, 6.8)
  pub data Stmt : Type 0 where
    Const : Name → CType → Expr → Stmt
    ConstCall : Name → CType → FunctionCall → Stmt
    Object : Name → CBase → Option Init → Stmt
    Assign : Place → Expr → Stmt
    If : Expr → Stmts → Stmt
    IfElse : Expr → (first second : Stmts) → Stmt
    Forever : Stmts → Stmt
    Break : Stmt
    Return : Option Expr → Stmt
    Block : Stmts → Stmt
    Call : FunctionCall → Stmt

  pub data Stmts : Type 0 where
    Nil : Stmts
    Cons : Stmt → Stmts → Stmts

-- an object of file scope (6.9.2)
pub record FileObject : Type 0 where
  pub name : Name
  pub constant : Bool
  pub base : CBase
  pub init : Init

-- a function with its body (6.9.1); hidden is `static`
pub record Function : Type 0 where
  pub hidden : Bool
  pub name : Name
  pub params : List CParam
  pub result : CType
  pub body : Stmts

-- a translation unit (6.9)
pub record TranslationUnit : Type 0 where
  pub structs : List CStruct
  pub externs : List CExtern
  pub objects : List FileObject
  pub functions : List Function

-- When a tree has the form and the places of one that a text spells.
use Rattle.std.specs.Prelude.{◌≡◌, ◌≢◌, ℕ, ◌<◌, ◌≤◌, [], IsTrue, All, IfSome}
use Rattle.iv_words.specs.declared.Span.{Span}
use Rattle.ivory_tree.specs.Syntax.{TypeSyntax, TruthType, IntType, IndexType, BitsType, RefType, AreaSyntax, StoredArea, ArrayArea, StructArea, ExprSyntax, Literal, Truth, Outcome, Variable, Cast, ToIndex, WrapIndex, MakeBits, Raw, SetField, Prefix, Binary, Field, Element, Cond, Bare, InitSyntax, One, Many, InitsSyntax, NoInits, MoreInits, CallSyntax, StmtSyntax, Let, LetCall, Alloc, Store, Copy, Call, If, IfElse, Map, Upto, Downto, Forever, Break, Return, Assert, NoAlloc, NoBreak, NoReturn, BlockSyntax, Braces, StmtsSyntax, NoStmts, MoreStmts, FieldSyntax, ParamSyntax, HeaderSyntax, ContractSyntax, ProcSyntax, ItemSyntax, BitsData, Struct, Global, Import, Procedure, ModuleSyntax}
use Rattle.ivory_tree.specs.Places.{expr_span}
use Rattle.ivory_tree.specs.Nodes.{Node, At, Nodes, Nil, Cons, place, module_nodes}
use Rattle.ivory_tree.specs.declared.items.BitField.{BitField}

-- The places of nodes: none is empty, each lies in that of the node around it, and of two side by side the later one lies after
-- the earlier one.

-- the end of the last of these nodes, or this place where there is none
abbrev pub last_end : ℕ → Nodes → ℕ
last_end low Nil = low
last_end low (Cons n ns) = last_end (place n).end ns

abbrev mutual
  pub Placed : Node → Type 0
  Placed (At s within) = (s.start < s.end) × PlacedRow s.start within × (last_end s.start within ≤ s.end)

  -- one after another, from this place on
  pub PlacedRow : ℕ → Nodes → Type 0
  PlacedRow low Nil = Unit {0}
  PlacedRow low (Cons n ns) = (low ≤ (place n).start) × Placed n × PlacedRow (place n).end ns

-- The form of each node: a stored type is no reference; a chain has a link, and a postfix a step.

abbrev pub NoReference : TypeSyntax → Type 0
NoReference (TruthType s) = Unit {0}
NoReference (IntType s kind) = Unit {0}
NoReference (IndexType s length) = Unit {0}
NoReference (BitsType s name) = Unit {0}
NoReference (RefType s constant region area) = ⊥

abbrev mutual
  pub FormedType : TypeSyntax → Type 0
  FormedType (TruthType s) = Unit {0}
  FormedType (IntType s kind) = Unit {0}
  FormedType (IndexType s length) = Unit {0}
  FormedType (BitsType s name) = Unit {0}
  FormedType (RefType s constant region area) = FormedArea area

  pub FormedArea : AreaSyntax → Type 0
  FormedArea (StoredArea s ty) = NoReference ty × FormedType ty
  FormedArea (ArrayArea s length element) = FormedArea element
  FormedArea (StructArea s name) = Unit {0}

-- the node at this place begins before the expression within it
abbrev pub Before : Span → ExprSyntax → Type 0
Before s e = s.start < (expr_span e).start

-- an operator's place is not empty, and lies between its operands
abbrev pub Between : ExprSyntax → Span → ExprSyntax → Type 0
Between left at right = ((expr_span left).end ≤ at.start) × (at.start < at.end) × (at.end ≤ (expr_span right).start)

abbrev pub FormedExpr : ExprSyntax → Type 0
FormedExpr (Literal s value) = Unit {0}
FormedExpr (Truth s value) = Unit {0}
FormedExpr (Outcome s) = Unit {0}
FormedExpr (Variable s name) = Unit {0}
FormedExpr (Cast s kind e) = Before s e × FormedExpr e
FormedExpr (ToIndex s length e) = Before s e × FormedExpr e
FormedExpr (WrapIndex s length e) = FormedExpr e
FormedExpr (MakeBits s name e) = FormedExpr e
FormedExpr (Raw s e) = FormedExpr e
FormedExpr (SetField s e field value) = Before s e × Before s value × FormedExpr e × FormedExpr value
FormedExpr (Prefix s op e) = Before s e × FormedExpr e
FormedExpr (Binary s op at left right) = Between left at right × FormedExpr left × FormedExpr right
FormedExpr (Field s e field) = FormedExpr e
FormedExpr (Element s brackets e index) = FormedExpr e × FormedExpr index
FormedExpr (Cond s test first second) = FormedExpr test × FormedExpr first × FormedExpr second
FormedExpr (Bare s e) = ⊥

abbrev mutual
  pub FormedInit : InitSyntax → Type 0
  FormedInit (One e) = FormedExpr e
  FormedInit (Many s inits) = FormedInits inits

  pub FormedInits : InitsSyntax → Type 0
  FormedInits NoInits = Unit {0}
  FormedInits (MoreInits i is) = FormedInit i × FormedInits is

abbrev pub FormedCall : CallSyntax → Type 0
FormedCall c = All FormedExpr c.args

abbrev mutual
  pub FormedStmt : StmtSyntax → Type 0
  FormedStmt (Let s name value) = FormedExpr value
  FormedStmt (LetCall s name call) = FormedCall call
  FormedStmt (Alloc s name area init) = FormedArea area × IfSome init FormedInit
  FormedStmt (Store s target value) = FormedExpr target × FormedExpr value
  FormedStmt (Copy s target source) = FormedExpr target × FormedExpr source
  FormedStmt (Call s call) = FormedCall call
  FormedStmt (If s test first) = FormedExpr test × FormedBlock first
  FormedStmt (IfElse s test first second) = FormedExpr test × FormedBlock first × FormedBlock second
  FormedStmt (Map s name length body) = FormedBlock body
  FormedStmt (Upto s name length bound body) = FormedExpr bound × FormedBlock body
  FormedStmt (Downto s name length bound body) = FormedExpr bound × FormedBlock body
  FormedStmt (Forever s body) = FormedBlock body
  FormedStmt (Break s) = Unit {0}
  FormedStmt (Return s value) = IfSome value FormedExpr
  FormedStmt (Assert s cond) = Before s cond × FormedExpr cond
  FormedStmt (NoAlloc s body) = FormedBlock body
  FormedStmt (NoBreak s body) = FormedBlock body
  FormedStmt (NoReturn s body) = FormedBlock body

  pub FormedBlock : BlockSyntax → Type 0
  FormedBlock (Braces s stmts) = FormedStmts stmts

  pub FormedStmts : StmtsSyntax → Type 0
  FormedStmts NoStmts = Unit {0}
  FormedStmts (MoreStmts s ss) = FormedStmt s × FormedStmts ss

-- Items: a struct has a field, and a field of bit data that is a bool has one bit.

abbrev pub FormedBitField : BitField → Type 0
FormedBitField f = IsTrue f.truth → f.width ≡ 1

abbrev pub FormedField : FieldSyntax → Type 0
FormedField f = FormedArea f.area

abbrev pub FormedParam : ParamSyntax → Type 0
FormedParam p = FormedType p.ty

abbrev pub FormedHeader : HeaderSyntax → Type 0
FormedHeader h = All FormedParam h.params × IfSome h.result FormedType

abbrev pub FormedContract : ContractSyntax → Type 0
FormedContract c = Before c.span c.cond × FormedExpr c.cond

abbrev pub FormedProc : ProcSyntax → Type 0
FormedProc p = FormedHeader p.header × All FormedContract p.contracts × FormedBlock p.body

abbrev pub FormedItem : ItemSyntax → Type 0
FormedItem (BitsData i) = All FormedBitField i.fields
FormedItem (Struct i) = (i.fields ≢ []) × All FormedField i.fields
FormedItem (Global i) = FormedArea i.area × IfSome i.init FormedInit
FormedItem (Import h) = FormedHeader h
FormedItem (Procedure p) = FormedProc p

pub record Formed (m : ModuleSyntax) : Type 0 where
  pub items : All FormedItem m.items
  pub places : PlacedRow 0 (module_nodes m)

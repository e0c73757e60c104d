-- The nodes of a tree: items, fields, parameters, types, areas, contracts, initializers, blocks, statements, calls and
-- expressions, each prefix of a chain or postfix too. A tree is seen as its nodes, each with its place and, in the order of the
-- text, the nodes within it.
use Rattle.std.specs.Prelude.{ℕ, ◌+◌, List, [], ◌∷◌, map, Option, Some, None}
use Rattle.std.specs.Option.{option_map}
use Rattle.iv_words.specs.declared.Span.{Span}
use Rattle.ivory_tree.specs.Syntax.{TypeSyntax, TruthType, IntType, IndexType, BitsType, RefType, AreaSyntax, StoredArea, ArrayArea, StructArea, ExprSyntax, Literal, Truth, Outcome, Variable, Cast, ToIndex, WrapIndex, MakeBits, Raw, SetField, Prefix, Binary, Field, Element, Cond, Bare, InitSyntax, One, Many, InitsSyntax, NoInits, MoreInits, CallSyntax, StmtSyntax, Let, LetCall, Alloc, Store, Copy, Call, If, IfElse, Map, Upto, Downto, Forever, Break, Return, Assert, NoAlloc, NoBreak, NoReturn, BlockSyntax, Braces, StmtsSyntax, NoStmts, MoreStmts, FieldSyntax, GlobalSyntax, ParamSyntax, HeaderSyntax, ContractSyntax, ProcSyntax, ItemSyntax, BitsData, Struct, Global, Import, Procedure, ModuleSyntax}
use Rattle.ivory_tree.specs.Places.{expr_span}
use Rattle.ivory_tree.specs.declared.items.BitField.{BitField}

mutual
  pub data Node : Type 0 where
    At : Span → (within : Nodes) → Node

  pub data Nodes : Type 0 where
    Nil : Nodes
    Cons : Node → Nodes → Nodes

abbrev pub place : Node → Span
place (At s within) = s

-- rows of nodes

abbrev pub nodes_from : List Node → Nodes
nodes_from [] = Nil
nodes_from (n ∷ ns) = Cons n (nodes_from ns)

abbrev pub one : Node → Nodes
one n = Cons n Nil

abbrev pub two : Node → Node → Nodes
two n m = Cons n (one m)

abbrev pub three : Node → Node → Node → Nodes
three n m k = Cons n (two m k)

abbrev pub none_or_one : Option Node → Nodes
none_or_one None = Nil
none_or_one (Some n) = one n

abbrev pub joined : Nodes → Nodes → Nodes
joined Nil ms = ms
joined (Cons n ns) ms = Cons n (joined ns ms)

-- types and areas; the area of a reference and what is stored in an area are nodes

abbrev mutual
  pub type_node : TypeSyntax → Node
  type_node (TruthType s) = At s Nil
  type_node (IntType s kind) = At s Nil
  type_node (IndexType s length) = At s Nil
  type_node (BitsType s name) = At s Nil
  type_node (RefType s constant region area) = At s (one (area_node area))

  pub area_node : AreaSyntax → Node
  area_node (StoredArea s ty) = At s (one (type_node ty))
  area_node (ArrayArea s length element) = At s (one (area_node element))
  area_node (StructArea s name) = At s Nil

abbrev pub expr_node : ExprSyntax → Node
expr_node (Literal s value) = At s Nil
expr_node (Truth s value) = At s Nil
expr_node (Outcome s) = At s Nil
expr_node (Variable s name) = At s Nil
expr_node (Cast s kind e) = At s (one (expr_node e))
expr_node (ToIndex s length e) = At s (one (expr_node e))
expr_node (WrapIndex s length e) = At s (one (expr_node e))
expr_node (MakeBits s name e) = At s (one (expr_node e))
expr_node (Raw s e) = At s (one (expr_node e))
expr_node (SetField s e field value) = At s (two (expr_node e) (expr_node value))
expr_node (Prefix s op e) = At s (one (expr_node e))
expr_node (Binary s op at left right) = At s (two (expr_node left) (expr_node right))
expr_node (Field s e field) = At s (one (expr_node e))
expr_node (Element s brackets e index) = At s (two (expr_node e) (expr_node index))
expr_node (Cond s test first second) = At s (three (expr_node test) (expr_node first) (expr_node second))
expr_node (Bare s e) = At s (one (expr_node e))

-- initializers; one without braces has its expression's place and is outer to it

abbrev mutual
  pub init_node : InitSyntax → Node
  init_node (One e) = At (expr_span e) (one (expr_node e))
  init_node (Many s inits) = At s (init_nodes inits)

  pub init_nodes : InitsSyntax → Nodes
  init_nodes NoInits = Nil
  init_nodes (MoreInits i is) = Cons (init_node i) (init_nodes is)

-- statements

abbrev pub call_node : CallSyntax → Node
call_node c = At c.span (nodes_from (map expr_node c.args))

abbrev mutual
  pub stmt_node : StmtSyntax → Node
  stmt_node (Let s name value) = At s (one (expr_node value))
  stmt_node (LetCall s name call) = At s (one (call_node call))
  stmt_node (Alloc s name area None) = At s (one (area_node area))
  stmt_node (Alloc s name area (Some init)) = At s (two (area_node area) (init_node init))
  stmt_node (Store s target value) = At s (two (expr_node target) (expr_node value))
  stmt_node (Copy s target source) = At s (two (expr_node target) (expr_node source))
  stmt_node (Call s call) = At s (one (call_node call))
  stmt_node (If s test first) = At s (two (expr_node test) (block_node first))
  stmt_node (IfElse s test first second) = At s (three (expr_node test) (block_node first) (block_node second))
  stmt_node (Map s name length body) = At s (one (block_node body))
  stmt_node (Upto s name length bound body) = At s (two (expr_node bound) (block_node body))
  stmt_node (Downto s name length bound body) = At s (two (expr_node bound) (block_node body))
  stmt_node (Forever s body) = At s (one (block_node body))
  stmt_node (Break s) = At s Nil
  stmt_node (Return s None) = At s Nil
  stmt_node (Return s (Some value)) = At s (one (expr_node value))
  stmt_node (Assert s cond) = At s (one (expr_node cond))
  stmt_node (NoAlloc s body) = At s (one (block_node body))
  stmt_node (NoBreak s body) = At s (one (block_node body))
  stmt_node (NoReturn s body) = At s (one (block_node body))

  pub block_node : BlockSyntax → Node
  block_node (Braces s stmts) = At s (stmt_nodes stmts)

  pub stmt_nodes : StmtsSyntax → Nodes
  stmt_nodes NoStmts = Nil
  stmt_nodes (MoreStmts s ss) = Cons (stmt_node s) (stmt_nodes ss)

-- items; a header is no node of its own

abbrev pub bit_field_node : BitField → Node
bit_field_node f = At f.span Nil

abbrev pub field_node : FieldSyntax → Node
field_node f = At f.span (one (area_node f.area))

abbrev pub param_node : ParamSyntax → Node
param_node p = At p.span (one (type_node p.ty))

-- the parameters and the type of the result
abbrev pub header_nodes : HeaderSyntax → Nodes
header_nodes h = joined (nodes_from (map param_node h.params)) (none_or_one (option_map type_node h.result))

abbrev pub contract_node : ContractSyntax → Node
contract_node c = At c.span (one (expr_node c.cond))

abbrev pub global_nodes : GlobalSyntax → Nodes
global_nodes i = Cons (area_node i.area) (none_or_one (option_map init_node i.init))

abbrev pub proc_nodes : ProcSyntax → Nodes
proc_nodes p = joined (header_nodes p.header) (joined (nodes_from (map contract_node p.contracts)) (one (block_node p.body)))

abbrev pub item_node : ItemSyntax → Node
item_node (BitsData i) = At i.span (nodes_from (map bit_field_node i.fields))
item_node (Struct i) = At i.span (nodes_from (map field_node i.fields))
item_node (Global i) = At i.span (global_nodes i)
item_node (Import h) = At h.span (header_nodes h)
item_node (Procedure p) = At p.span (proc_nodes p)

abbrev pub module_nodes : ModuleSyntax → Nodes
module_nodes m = nodes_from (map item_node m.items)

-- the number of nodes

abbrev mutual
  pub node_count : Node → ℕ
  node_count (At s within) = 1 + nodes_count within

  pub nodes_count : Nodes → ℕ
  nodes_count Nil = 0
  nodes_count (Cons n ns) = node_count n + nodes_count ns

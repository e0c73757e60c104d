-- The names in a tree, in the order of the text.
use Rattle.std.specs.Prelude.{List, [], ◌∷◌, ◌++◌, Option, Some, None}
use Rattle.std.specs.List.{flat_map}
use Rattle.ivory_tree.specs.Syntax.{Word, TypeSyntax, TruthType, IntType, IndexType, BitsType, RefType, AreaSyntax, StoredArea, ArrayArea, StructArea, ExprSyntax, Literal, Truth, Outcome, Variable, Cast, ToIndex, WrapIndex, MakeBits, Raw, SetField, Prefix, Binary, Field, Element, Cond, Bare, InitSyntax, One, Many, InitsSyntax, NoInits, MoreInits, CallSyntax, StmtSyntax, Let, LetCall, Alloc, Store, Copy, Call, If, IfElse, Map, Upto, Downto, Forever, Break, Return, Assert, NoAlloc, NoBreak, NoReturn, BlockSyntax, Braces, StmtsSyntax, NoStmts, MoreStmts, FieldSyntax, ParamSyntax, HeaderSyntax, ContractSyntax, ItemSyntax, BitsData, Struct, Global, Import, Procedure, ModuleSyntax}
use Rattle.ivory_tree.specs.declared.types.RegionText.{RegionText}
use Rattle.ivory_tree.specs.declared.types.RegionText.TheVariants as region
use Rattle.ivory_tree.specs.declared.items.BitField.{BitField}

-- the names in a part that may be absent
abbrev pub if_any : {A : Type 0} → (A → List Word) → Option A → List Word
if_any names None = []
if_any names (Some x) = names x

abbrev pub region_names : RegionText → List Word
region_names region.Global = []
region_names (region.Named name) = name ∷ []

abbrev mutual
  pub type_names : TypeSyntax → List Word
  type_names (TruthType s) = []
  type_names (IntType s kind) = []
  type_names (IndexType s length) = []
  type_names (BitsType s name) = name ∷ []
  type_names (RefType s constant region area) = region_names region ++ area_names area

  pub area_names : AreaSyntax → List Word
  area_names (StoredArea s ty) = type_names ty
  area_names (ArrayArea s length element) = area_names element
  area_names (StructArea s name) = name ∷ []

abbrev pub expr_names : ExprSyntax → List Word
expr_names (Literal s value) = []
expr_names (Truth s value) = []
expr_names (Outcome s) = []
expr_names (Variable s name) = name ∷ []
expr_names (Cast s kind e) = expr_names e
expr_names (ToIndex s length e) = expr_names e
expr_names (WrapIndex s length e) = expr_names e
expr_names (MakeBits s name e) = name ∷ expr_names e
expr_names (Raw s e) = expr_names e
expr_names (SetField s e field value) = expr_names e ++ field.text ∷ expr_names value
expr_names (Prefix s op e) = expr_names e
expr_names (Binary s op at left right) = expr_names left ++ expr_names right
expr_names (Field s e field) = expr_names e ++ field.text ∷ []
expr_names (Element s brackets e index) = expr_names e ++ expr_names index
expr_names (Cond s test first second) = expr_names test ++ (expr_names first ++ expr_names second)
expr_names (Bare s e) = expr_names e

abbrev mutual
  pub init_names : InitSyntax → List Word
  init_names (One e) = expr_names e
  init_names (Many s inits) = inits_names inits

  pub inits_names : InitsSyntax → List Word
  inits_names NoInits = []
  inits_names (MoreInits i is) = init_names i ++ inits_names is

abbrev pub call_names : CallSyntax → List Word
call_names c = c.name.text ∷ flat_map expr_names c.args

abbrev mutual
  pub stmt_names : StmtSyntax → List Word
  stmt_names (Let s name value) = name.text ∷ expr_names value
  stmt_names (LetCall s name call) = name.text ∷ call_names call
  stmt_names (Alloc s name area init) = name.text ∷ (area_names area ++ if_any init_names init)
  stmt_names (Store s target value) = expr_names target ++ expr_names value
  stmt_names (Copy s target source) = expr_names target ++ expr_names source
  stmt_names (Call s call) = call_names call
  stmt_names (If s test first) = expr_names test ++ block_names first
  stmt_names (IfElse s test first second) = expr_names test ++ (block_names first ++ block_names second)
  stmt_names (Map s name length body) = name.text ∷ block_names body
  stmt_names (Upto s name length bound body) = name.text ∷ (expr_names bound ++ block_names body)
  stmt_names (Downto s name length bound body) = name.text ∷ (expr_names bound ++ block_names body)
  stmt_names (Forever s body) = block_names body
  stmt_names (Break s) = []
  stmt_names (Return s value) = if_any expr_names value
  stmt_names (Assert s cond) = expr_names cond
  stmt_names (NoAlloc s body) = block_names body
  stmt_names (NoBreak s body) = block_names body
  stmt_names (NoReturn s body) = block_names body

  pub block_names : BlockSyntax → List Word
  block_names (Braces s stmts) = stmts_names stmts

  pub stmts_names : StmtsSyntax → List Word
  stmts_names NoStmts = []
  stmts_names (MoreStmts s ss) = stmt_names s ++ stmts_names ss

abbrev pub bit_field_names : BitField → List Word
bit_field_names f = f.name.text ∷ []

abbrev pub field_names : FieldSyntax → List Word
field_names f = f.name.text ∷ area_names f.area

abbrev pub param_names : ParamSyntax → List Word
param_names p = p.name.text ∷ type_names p.ty

abbrev pub header_names : HeaderSyntax → List Word
header_names h = h.name.text ∷ (flat_map param_names h.params ++ if_any type_names h.result)

abbrev pub contract_names : ContractSyntax → List Word
contract_names c = expr_names c.cond

abbrev pub item_names : ItemSyntax → List Word
item_names (BitsData i) = i.name.text ∷ flat_map bit_field_names i.fields
item_names (Struct i) = i.name.text ∷ flat_map field_names i.fields
item_names (Global i) = i.name.text ∷ (area_names i.area ++ if_any init_names i.init)
item_names (Import h) = header_names h
item_names (Procedure p) = header_names p.header ++ (flat_map contract_names p.contracts ++ block_names p.body)

abbrev pub module_names : ModuleSyntax → List Word
module_names m = m.name.text ∷ flat_map item_names m.items

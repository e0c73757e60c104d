-- What each tree says in the abstract syntax, by the trees' own folds.
use Rattle.std.specs.Prelude.{Bool, List, [], ◌∷◌, map, Option, Some, None}
use Rattle.std.specs.Option.{option_map}
use Rattle.iv_words.specs.declared.Name.{Name}
use Rattle.iv_words.specs.declared.Span.{Span}
use Rattle.ivory_tree.specs.Syntax as syntax
use Rattle.ivory_tree.specs.Syntax.{TypeSyntax, AreaSyntax, ExprSyntax, InitSyntax, InitsSyntax, NoInits, MoreInits, CallSyntax, StmtSyntax, BlockSyntax, Braces, StmtsSyntax, NoStmts, MoreStmts, FieldSyntax, StructSyntax, GlobalSyntax, ParamSyntax, HeaderSyntax, ContractSyntax, ProcSyntax, ItemSyntax, ModuleSyntax}
use Rattle.ivory_tree.specs.Places.{expr_span}
use Rattle.ivory_tree.specs.declared.types.RegionText.{RegionText}
use Rattle.ivory_tree.specs.declared.types.TypeText.{TypeText, fold-TypeText}
use Rattle.ivory_tree.specs.declared.types.AreaText.{AreaText, fold-AreaText}
use Rattle.ivory_tree.specs.declared.types.TypeKind.{TypeKind, fold-TypeKind}
use Rattle.ivory_tree.specs.declared.types.AreaKind.{AreaKind, fold-AreaKind}
use Rattle.ivory_tree.specs.declared.types.RefText.{RefText, fold-RefText}
use Rattle.ivory_tree.specs.declared.types.AreaKind.TheOpen.{TypeKind-F, AreaKind-F}
use Rattle.ivory_tree.specs.declared.expr.BinOp.{BinOp}
use Rattle.ivory_tree.specs.declared.expr.Expr.{Expr, fold-Expr}
use Rattle.ivory_tree.specs.declared.expr.ExprKind.{ExprKind, fold-ExprKind}
use Rattle.ivory_tree.specs.declared.expr.Link.{Link, fold-Link}
use Rattle.ivory_tree.specs.declared.expr.Step.{Step, fold-Step}
use Rattle.ivory_tree.specs.declared.expr.ExprKind.TheOpen.{ExprKind-F, Step-F}
use Rattle.ivory_tree.specs.declared.inits.InitText.{InitText, fold-InitText}
use Rattle.ivory_tree.specs.declared.inits.InitText.TheOpen.{InitText-F}
use Rattle.ivory_tree.specs.declared.stmt.CallText.{CallText}
use Rattle.ivory_tree.specs.declared.stmt.Stmt.{Stmt, fold-Stmt}
use Rattle.ivory_tree.specs.declared.stmt.StmtKind.{StmtKind, fold-StmtKind}
use Rattle.ivory_tree.specs.declared.stmt.Block.{Block, fold-Block}
use Rattle.ivory_tree.specs.declared.stmt.StmtKind.TheOpen.{StmtKind-F}
use Rattle.ivory_tree.specs.declared.items.AreaField.{AreaField}
use Rattle.ivory_tree.specs.declared.items.StructItem.{StructItem}
use Rattle.ivory_tree.specs.declared.items.AreaItem.{AreaItem}
use Rattle.ivory_tree.specs.declared.items.Param.{Param}
use Rattle.ivory_tree.specs.declared.items.Header.{Header}
use Rattle.ivory_tree.specs.declared.items.Contract.{Contract}
use Rattle.ivory_tree.specs.declared.items.ProcItem.{ProcItem}
use Rattle.ivory_tree.specs.declared.items.Item.{Item}
use Rattle.ivory_tree.specs.declared.items.Item.TheVariants as item
use Rattle.ivory_tree.specs.declared.items.Module.{Module}

-- types and areas

-- a reference, still without its place
pub record RefSyntax : Type 0 where
  pub constant : Bool
  pub region : RegionText
  pub area : AreaSyntax

abbrev pub type_step : TypeKind-F (Span → AreaSyntax) (Span → TypeSyntax) AreaSyntax RefSyntax TypeSyntax → Span → TypeSyntax
type_step TypeKind-F.Bool s = syntax.TruthType s
type_step (TypeKind-F.Int kind) s = syntax.IntType s kind
type_step (TypeKind-F.Ix length) s = syntax.IndexType s length
type_step (TypeKind-F.Bits name) s = syntax.BitsType s name
type_step (TypeKind-F.Ref r) s = syntax.RefType s r.constant r.region r.area

abbrev pub area_step : AreaKind-F (Span → AreaSyntax) (Span → TypeSyntax) AreaSyntax RefSyntax TypeSyntax → Span → AreaSyntax
area_step (AreaKind-F.Stored ty) s = syntax.StoredArea s ty
area_step (AreaKind-F.Array length element) s = syntax.ArrayArea s length element
area_step (AreaKind-F.Struct name) s = syntax.StructArea s name

-- forms are seen as what they say at each place

abbrev pub type_kind_of : TypeKind → Span → TypeSyntax
type_kind_of = fold-TypeKind (Span → AreaSyntax) (Span → TypeSyntax) AreaSyntax RefSyntax TypeSyntax area_step type_step (λ a. a.kind a.span) (λ r. record { constant = r.constant; region = r.region; area = r.area }) (λ t. t.kind t.span)

abbrev pub area_kind_of : AreaKind → Span → AreaSyntax
area_kind_of = fold-AreaKind (Span → AreaSyntax) (Span → TypeSyntax) AreaSyntax RefSyntax TypeSyntax area_step type_step (λ a. a.kind a.span) (λ r. record { constant = r.constant; region = r.region; area = r.area }) (λ t. t.kind t.span)

abbrev pub ref_of : RefText → RefSyntax
ref_of = fold-RefText (Span → AreaSyntax) (Span → TypeSyntax) AreaSyntax RefSyntax TypeSyntax area_step type_step (λ a. a.kind a.span) (λ r. record { constant = r.constant; region = r.region; area = r.area }) (λ t. t.kind t.span)

abbrev pub type_of : TypeText → TypeSyntax
type_of = fold-TypeText (Span → AreaSyntax) (Span → TypeSyntax) AreaSyntax RefSyntax TypeSyntax area_step type_step (λ a. a.kind a.span) (λ r. record { constant = r.constant; region = r.region; area = r.area }) (λ t. t.kind t.span)

abbrev pub area_of : AreaText → AreaSyntax
area_of = fold-AreaText (Span → AreaSyntax) (Span → TypeSyntax) AreaSyntax RefSyntax TypeSyntax area_step type_step (λ a. a.kind a.span) (λ r. record { constant = r.constant; region = r.region; area = r.area }) (λ t. t.kind t.span)

-- expressions

-- an operator of a chain with its right operand
pub record LinkSyntax : Type 0 where
  pub op : BinOp
  pub at : Span
  pub right : ExprSyntax

-- what follows an operand
pub data StepSyntax : Type 0 where
  FieldStep : Name → StepSyntax
  IndexStep : ExprSyntax → Span → StepSyntax

-- A prefix of a whole begins where the whole does, and ends with its own last part; the whole has its own place.
abbrev pub prefix_span : {A : Type 0} → (whole last : Span) → (later : List A) → Span
prefix_span whole last [] = whole
prefix_span whole last (x ∷ later) = record { start = whole.start; end = last.end }

-- the left-nested tree of an operand and the links after it
abbrev pub linked : Span → ExprSyntax → List LinkSyntax → ExprSyntax
linked s left [] = left
linked s left (l ∷ ls) = linked s (syntax.Binary (prefix_span s (expr_span l.right) ls) l.op l.at left l.right) ls

abbrev pub chain_from : Span → ExprSyntax → List LinkSyntax → ExprSyntax
chain_from s first [] = syntax.Bare s first
chain_from s first (l ∷ ls) = linked s first (l ∷ ls)

-- the last token of a step
abbrev pub step_span : StepSyntax → Span
step_span (FieldStep field) = field.span
step_span (IndexStep index brackets) = brackets

abbrev pub part_of : Span → ExprSyntax → StepSyntax → ExprSyntax
part_of s base (FieldStep field) = syntax.Field s base field
part_of s base (IndexStep index brackets) = syntax.Element s brackets base index

-- the left-nested tree of an operand and the steps after it
abbrev pub stepped : Span → ExprSyntax → List StepSyntax → ExprSyntax
stepped s base [] = base
stepped s base (t ∷ ts) = stepped s (part_of (prefix_span s (step_span t) ts) base t) ts

abbrev pub postfix_from : Span → ExprSyntax → List StepSyntax → ExprSyntax
postfix_from s base [] = syntax.Bare s base
postfix_from s base (t ∷ ts) = stepped s base (t ∷ ts)

abbrev pub expr_step : ExprKind-F (Span → ExprSyntax) StepSyntax ExprSyntax LinkSyntax → Span → ExprSyntax
expr_step (ExprKind-F.Lit value) s = syntax.Literal s value
expr_step (ExprKind-F.Truth value) s = syntax.Truth s value
expr_step ExprKind-F.Outcome s = syntax.Outcome s
expr_step (ExprKind-F.Var name) s = syntax.Variable s name
expr_step (ExprKind-F.Cast kind e) s = syntax.Cast s kind e
expr_step (ExprKind-F.ToIx length e) s = syntax.ToIndex s length e
expr_step (ExprKind-F.WrapIx length e) s = syntax.WrapIndex s length e
expr_step (ExprKind-F.MakeBits name e) s = syntax.MakeBits s name e
expr_step (ExprKind-F.Raw e) s = syntax.Raw s e
expr_step (ExprKind-F.Set e field value) s = syntax.SetField s e field value
expr_step (ExprKind-F.Prefix op e) s = syntax.Prefix s op e
expr_step (ExprKind-F.Chain first links) s = chain_from s first links
expr_step (ExprKind-F.Postfix base steps) s = postfix_from s base steps
expr_step (ExprKind-F.Cond test first second) s = syntax.Cond s test first second

abbrev pub step_step : Step-F (Span → ExprSyntax) StepSyntax ExprSyntax LinkSyntax → StepSyntax
step_step (Step-F.Field field) = FieldStep field
step_step (Step-F.Index index brackets) = IndexStep index brackets

abbrev pub expr_kind_of : ExprKind → Span → ExprSyntax
expr_kind_of = fold-ExprKind (Span → ExprSyntax) StepSyntax ExprSyntax LinkSyntax expr_step step_step (λ e. e.kind e.span) (λ l. record { op = l.op; at = l.at; right = l.right })

abbrev pub expr_of : Expr → ExprSyntax
expr_of = fold-Expr (Span → ExprSyntax) StepSyntax ExprSyntax LinkSyntax expr_step step_step (λ e. e.kind e.span) (λ l. record { op = l.op; at = l.at; right = l.right })

abbrev pub link_of : Link → LinkSyntax
link_of = fold-Link (Span → ExprSyntax) StepSyntax ExprSyntax LinkSyntax expr_step step_step (λ e. e.kind e.span) (λ l. record { op = l.op; at = l.at; right = l.right })

abbrev pub step_of : Step → StepSyntax
step_of = fold-Step (Span → ExprSyntax) StepSyntax ExprSyntax LinkSyntax expr_step step_step (λ e. e.kind e.span) (λ l. record { op = l.op; at = l.at; right = l.right })

-- initializers

abbrev pub inits_from : List InitSyntax → InitsSyntax
inits_from [] = NoInits
inits_from (i ∷ is) = MoreInits i (inits_from is)

abbrev pub init_step : InitText-F InitSyntax → InitSyntax
init_step (InitText-F.One e) = syntax.One (expr_of e)
init_step (InitText-F.Many is s) = syntax.Many s (inits_from is)

abbrev pub init_of : InitText → InitSyntax
init_of = fold-InitText InitSyntax init_step

abbrev pub inits_of : List InitText → InitsSyntax
inits_of is = inits_from (map init_of is)

-- statements

abbrev pub call_of : CallText → CallSyntax
call_of c = record { name = c.name; args = map expr_of c.args; span = c.span }

abbrev pub stmts_from : List StmtSyntax → StmtsSyntax
stmts_from [] = NoStmts
stmts_from (s ∷ ss) = MoreStmts s (stmts_from ss)

-- an `if` with or without `else`
abbrev pub if_from : Span → ExprSyntax → BlockSyntax → Option BlockSyntax → StmtSyntax
if_from s test first None = syntax.If s test first
if_from s test first (Some second) = syntax.IfElse s test first second

abbrev pub stmt_step : StmtKind-F (Span → StmtSyntax) BlockSyntax StmtSyntax → Span → StmtSyntax
stmt_step (StmtKind-F.Let name value) s = syntax.Let s name (expr_of value)
stmt_step (StmtKind-F.LetCall name call) s = syntax.LetCall s name (call_of call)
stmt_step (StmtKind-F.Alloc name area init) s = syntax.Alloc s name (area_of area) (option_map init_of init)
stmt_step (StmtKind-F.Store target value) s = syntax.Store s (expr_of target) (expr_of value)
stmt_step (StmtKind-F.Copy target source) s = syntax.Copy s (expr_of target) (expr_of source)
stmt_step (StmtKind-F.Call call) s = syntax.Call s (call_of call)
stmt_step (StmtKind-F.If test first second) s = if_from s (expr_of test) first second
stmt_step (StmtKind-F.Map name length body) s = syntax.Map s name length body
stmt_step (StmtKind-F.Upto name length last body) s = syntax.Upto s name length (expr_of last) body
stmt_step (StmtKind-F.Downto name length first body) s = syntax.Downto s name length (expr_of first) body
stmt_step (StmtKind-F.Forever body) s = syntax.Forever s body
stmt_step StmtKind-F.Break s = syntax.Break s
stmt_step (StmtKind-F.Return value) s = syntax.Return s (option_map expr_of value)
stmt_step (StmtKind-F.Assert cond) s = syntax.Assert s (expr_of cond)
stmt_step (StmtKind-F.NoAlloc body) s = syntax.NoAlloc s body
stmt_step (StmtKind-F.NoBreak body) s = syntax.NoBreak s body
stmt_step (StmtKind-F.NoReturn body) s = syntax.NoReturn s body

abbrev pub stmt_kind_of : StmtKind → Span → StmtSyntax
stmt_kind_of = fold-StmtKind (Span → StmtSyntax) BlockSyntax StmtSyntax stmt_step (λ b. Braces b.span (stmts_from b.stmts)) (λ s. s.kind s.span)

abbrev pub stmt_of : Stmt → StmtSyntax
stmt_of = fold-Stmt (Span → StmtSyntax) BlockSyntax StmtSyntax stmt_step (λ b. Braces b.span (stmts_from b.stmts)) (λ s. s.kind s.span)

abbrev pub block_of : Block → BlockSyntax
block_of = fold-Block (Span → StmtSyntax) BlockSyntax StmtSyntax stmt_step (λ b. Braces b.span (stmts_from b.stmts)) (λ s. s.kind s.span)

abbrev pub stmts_of : List Stmt → StmtsSyntax
stmts_of ss = stmts_from (map stmt_of ss)

-- items

abbrev pub field_of : AreaField → FieldSyntax
field_of f = record { name = f.name; area = area_of f.area; span = f.span }

abbrev pub struct_of : StructItem → StructSyntax
struct_of i = record { name = i.name; fields = map field_of i.fields; span = i.span }

abbrev pub global_of : AreaItem → GlobalSyntax
global_of i = record { name = i.name; constant = i.constant; area = area_of i.area; init = option_map init_of i.init; span = i.span }

abbrev pub param_of : Param → ParamSyntax
param_of p = record { name = p.name; ty = type_of p.ty; span = p.span }

abbrev pub header_of : Header → HeaderSyntax
header_of h = record { name = h.name; params = map param_of h.params; result = option_map type_of h.result; span = h.span }

abbrev pub contract_of : Contract → ContractSyntax
contract_of c = record { before = c.before; cond = expr_of c.cond; span = c.span }

abbrev pub proc_of : ProcItem → ProcSyntax
proc_of p = record { exported = p.exported; header = header_of p.header; contracts = map contract_of p.contracts; body = block_of p.body; span = p.span }

abbrev pub item_of : Item → ItemSyntax
item_of (item.Bits i) = syntax.BitsData i
item_of (item.Struct i) = syntax.Struct (struct_of i)
item_of (item.Area i) = syntax.Global (global_of i)
item_of (item.Import h) = syntax.Import (header_of h)
item_of (item.Proc p) = syntax.Procedure (proc_of p)

abbrev pub module_of : Module → ModuleSyntax
module_of m = record { name = m.name; items = map item_of m.items; span = m.span }

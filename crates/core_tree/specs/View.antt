-- What each tree says in the abstract syntax, by the trees' own folds.
use Rattle.std.specs.Prelude.{ℕ, List, [], ◌∷◌, map, Option, Some, None}
use Rattle.std.specs.Option.{option_map}
use Rattle.area_types.specs.Syntax.{ValueType}
use Rattle.area_types.specs.View.{area_of}
use Rattle.area_types.specs.View as types
use Rattle.ivory_tree.specs.declared.expr.BinOp.{BinOp}
use Rattle.core_tree.specs.Syntax as syntax
use Rattle.core_tree.specs.Syntax.{Label, ExprCore, InitCore, InitsCore, NoInits, MoreInits, CallCore, StmtCore, StmtsCore, NoStmts, MoreStmts, AreaCore, ImportCore, ParamCore, ContractCore, ProcCore}
use Rattle.core_tree.specs.declared.expr.CoreExpr.{CoreExpr, fold-CoreExpr}
use Rattle.core_tree.specs.declared.expr.CoreKind.{CoreKind, fold-CoreKind}
use Rattle.core_tree.specs.declared.expr.CoreLink.{CoreLink, fold-CoreLink}
use Rattle.core_tree.specs.declared.expr.CoreStep.{CoreStep, fold-CoreStep}
use Rattle.core_tree.specs.declared.expr.CoreKind.TheOpen.{CoreKind-F, CoreStep-F}
use Rattle.core_tree.specs.declared.init.CoreInit.{CoreInit}
use Rattle.core_tree.specs.declared.init.CoreInit.TheOpen.{CoreInit-F}
use Rattle.core_tree.specs.declared.init.CoreInit.TheFolds.{fold-CoreInit}
use Rattle.core_tree.specs.declared.stmt.CoreCall.{CoreCall}
use Rattle.core_tree.specs.declared.stmt.CoreStmt.{CoreStmt}
use Rattle.core_tree.specs.declared.stmt.CoreStmt.TheOpen.{CoreStmt-F}
use Rattle.core_tree.specs.declared.stmt.CoreStmt.TheFolds.{fold-CoreStmt}
use Rattle.core_tree.specs.declared.items.CoreArea.{CoreArea}
use Rattle.core_tree.specs.declared.items.CoreImport.{CoreImport}
use Rattle.core_tree.specs.declared.items.CoreParam.{CoreParam}
use Rattle.core_tree.specs.declared.items.CoreContract.{CoreContract}
use Rattle.core_tree.specs.declared.items.CoreProc.{CoreProc}

-- expressions

-- an operator of a chain with its right operand
pub record LinkCore : Type 0 where
  pub label : Label
  pub op : BinOp
  pub right : ExprCore

-- what follows an operand
pub data StepCore : Type 0 where
  FieldStep : ValueType → (field : ℕ) → StepCore
  IndexStep : ValueType → (index : ExprCore) → StepCore

-- the left-nested tree of an operand and the links after it, each of which has its own type and checks
abbrev pub linked : ExprCore → List LinkCore → ExprCore
linked left [] = left
linked left (l ∷ ls) = linked (syntax.Binary l.label l.op left l.right) ls

-- a step has no check
abbrev pub part_of : ExprCore → StepCore → ExprCore
part_of base (FieldStep ty field) = syntax.Field (record { ty = ty; checks = [] }) base field
part_of base (IndexStep ty index) = syntax.Element (record { ty = ty; checks = [] }) base index

-- the left-nested tree of an operand and the steps after it
abbrev pub stepped : ExprCore → List StepCore → ExprCore
stepped base [] = base
stepped base (t ∷ ts) = stepped (part_of base t) ts

-- forms are seen as what they say with each label

abbrev pub kind_step : CoreKind-F (Label → ExprCore) StepCore ExprCore LinkCore → Label → ExprCore
kind_step (CoreKind-F.Number value) l = syntax.Number l value
kind_step CoreKind-F.Outcome l = syntax.Outcome l
kind_step (CoreKind-F.Local number) l = syntax.Local l number
kind_step (CoreKind-F.AreaName number) l = syntax.AreaName l number
kind_step (CoreKind-F.Cast e) l = syntax.Cast l e
kind_step (CoreKind-F.ToIx e) l = syntax.ToIndex l e
kind_step (CoreKind-F.WrapIx e) l = syntax.WrapIndex l e
kind_step (CoreKind-F.MakeBits e) l = syntax.MakeBits l e
kind_step (CoreKind-F.Raw e) l = syntax.Raw l e
kind_step (CoreKind-F.Set e field value) l = syntax.SetField l e field value
kind_step (CoreKind-F.Prefix op e) l = syntax.Prefix l op e
kind_step (CoreKind-F.Chain first links) l = syntax.Whole l (linked first links)
kind_step (CoreKind-F.Postfix base steps) l = syntax.Whole l (stepped base steps)
kind_step (CoreKind-F.Cond test first second) l = syntax.Cond l test first second

abbrev pub step_step : CoreStep-F (Label → ExprCore) StepCore ExprCore LinkCore → StepCore
step_step (CoreStep-F.Field field ty) = FieldStep (types.type_of ty) field
step_step (CoreStep-F.Index index ty) = IndexStep (types.type_of ty) index

abbrev pub kind_of : CoreKind → Label → ExprCore
kind_of = fold-CoreKind (Label → ExprCore) StepCore ExprCore LinkCore kind_step step_step (λ e. e.kind (record { ty = types.type_of e.ty; checks = e.checks })) (λ l. record { label = record { ty = types.type_of l.ty; checks = l.checks }; op = l.op; right = l.right })

abbrev pub expr_of : CoreExpr → ExprCore
expr_of = fold-CoreExpr (Label → ExprCore) StepCore ExprCore LinkCore kind_step step_step (λ e. e.kind (record { ty = types.type_of e.ty; checks = e.checks })) (λ l. record { label = record { ty = types.type_of l.ty; checks = l.checks }; op = l.op; right = l.right })

abbrev pub link_of : CoreLink → LinkCore
link_of = fold-CoreLink (Label → ExprCore) StepCore ExprCore LinkCore kind_step step_step (λ e. e.kind (record { ty = types.type_of e.ty; checks = e.checks })) (λ l. record { label = record { ty = types.type_of l.ty; checks = l.checks }; op = l.op; right = l.right })

abbrev pub step_of : CoreStep → StepCore
step_of = fold-CoreStep (Label → ExprCore) StepCore ExprCore LinkCore kind_step step_step (λ e. e.kind (record { ty = types.type_of e.ty; checks = e.checks })) (λ l. record { label = record { ty = types.type_of l.ty; checks = l.checks }; op = l.op; right = l.right })

-- initializers

abbrev pub inits_from : List InitCore → InitsCore
inits_from [] = NoInits
inits_from (i ∷ is) = MoreInits i (inits_from is)

abbrev pub init_step : CoreInit-F InitCore → InitCore
init_step (CoreInit-F.One e) = syntax.One (expr_of e)
init_step (CoreInit-F.Many is) = syntax.Many (inits_from is)

abbrev pub init_of : CoreInit → InitCore
init_of = fold-CoreInit InitCore init_step

abbrev pub inits_of : List CoreInit → InitsCore
inits_of is = inits_from (map init_of is)

-- statements

abbrev pub call_of : CoreCall → CallCore
call_of c = record { import = c.import; callee = c.callee; args = map expr_of c.args }

abbrev pub stmts_from : List StmtCore → StmtsCore
stmts_from [] = NoStmts
stmts_from (s ∷ ss) = MoreStmts s (stmts_from ss)

-- an `if` with or without `else`
abbrev pub if_from : ExprCore → List StmtCore → Option (List StmtCore) → StmtCore
if_from test first None = syntax.If test (stmts_from first)
if_from test first (Some second) = syntax.IfElse test (stmts_from first) (stmts_from second)

abbrev pub stmt_step : CoreStmt-F StmtCore → StmtCore
stmt_step (CoreStmt-F.Let number value) = syntax.Let number (expr_of value)
stmt_step (CoreStmt-F.LetCall number call) = syntax.LetCall number (call_of call)
stmt_step (CoreStmt-F.Alloc number area init) = syntax.Alloc number (area_of area) (option_map init_of init)
stmt_step (CoreStmt-F.Store target value) = syntax.Store (expr_of target) (expr_of value)
stmt_step (CoreStmt-F.Copy target source) = syntax.Copy (expr_of target) (expr_of source)
stmt_step (CoreStmt-F.Call call) = syntax.Call (call_of call)
stmt_step (CoreStmt-F.If test first second) = if_from (expr_of test) first second
stmt_step (CoreStmt-F.Map number length body) = syntax.Map number length (stmts_from body)
stmt_step (CoreStmt-F.Upto number length last body) = syntax.Upto number length (expr_of last) (stmts_from body)
stmt_step (CoreStmt-F.Downto number length first body) = syntax.Downto number length (expr_of first) (stmts_from body)
stmt_step (CoreStmt-F.Forever body) = syntax.Forever (stmts_from body)
stmt_step CoreStmt-F.Break = syntax.Break
stmt_step (CoreStmt-F.Return value) = syntax.Return (option_map expr_of value)
stmt_step (CoreStmt-F.Assert cond check) = syntax.Assert (expr_of cond) check
stmt_step (CoreStmt-F.NoAlloc body) = syntax.NoAlloc (stmts_from body)
stmt_step (CoreStmt-F.NoBreak body) = syntax.NoBreak (stmts_from body)
stmt_step (CoreStmt-F.NoReturn body) = syntax.NoReturn (stmts_from body)

abbrev pub stmt_of : CoreStmt → StmtCore
stmt_of = fold-CoreStmt StmtCore stmt_step

abbrev pub stmts_of : List CoreStmt → StmtsCore
stmts_of ss = stmts_from (map stmt_of ss)

-- items

abbrev pub area_item_of : CoreArea → AreaCore
area_item_of a = record { name = a.name; constant = a.constant; area = area_of a.area; first = a.first }

abbrev pub import_of : CoreImport → ImportCore
import_of i = record { name = i.name; params = map types.type_of i.params; result = i.result }

abbrev pub param_of : CoreParam → ParamCore
param_of p = record { name = p.name; ty = types.type_of p.ty }

abbrev pub contract_of : CoreContract → ContractCore
contract_of c = record { before = c.before; cond = expr_of c.cond; check = c.check }

abbrev pub proc_of : CoreProc → ProcCore
proc_of p = record { name = p.name; exported = p.exported; params = map param_of p.params; result = option_map types.type_of p.result; contracts = map contract_of p.contracts; locals = map types.type_of p.locals; body = stmts_of p.body }

-- What each form of a tree says in the abstract syntax: one equation for each variant.
use Rattle.std.proofs.Common.{◌≡◌, ℕ, ℤ, List, map, ap, sym, ◌∙◌}
use Rattle.std.specs.Prelude.{Option, Some, None}
use Rattle.std.specs.Option.{option_map}
use Rattle.area_types.specs.View as types
use Rattle.area_types.specs.View.{area_of}
use Rattle.area_types.specs.declared.area.ValueType.{ValueType}
use Rattle.area_types.specs.declared.area.Area.{Area}
use Rattle.ivory_tree.specs.declared.expr.PrefixOp.{PrefixOp}
use Rattle.ivory_tree.specs.declared.expr.BinOp.{BinOp}
use Rattle.core_tree.specs.Syntax as syntax
use Rattle.core_tree.specs.Syntax.{Label, ExprCore, InitCore, StmtCore}
use Rattle.core_tree.specs.View.{LinkCore, StepCore, FieldStep, IndexStep, kind_step, step_step, linked, stepped, kind_of, expr_of, link_of, step_of, init_step, init_of, inits_of, call_of, stmt_step, stmt_of, stmts_of}
use Rattle.core_tree.specs.declared.check.Check.{Check}
use Rattle.core_tree.specs.declared.expr.CoreExpr.{CoreExpr, fold_out-CoreExpr}
use Rattle.core_tree.specs.declared.expr.CoreKind.{CoreKind, fold-roll-CoreKind, roll-CoreKind, map-CoreKind}
use Rattle.core_tree.specs.declared.expr.CoreKind.TheOpen.{CoreKind-F, CoreStep-F}
use Rattle.core_tree.specs.declared.expr.CoreKind.TheVariants as expr
use Rattle.core_tree.specs.declared.expr.CoreLink.{CoreLink, fold_out-CoreLink}
use Rattle.core_tree.specs.declared.expr.CoreStep.{CoreStep, fold-roll-CoreStep}
use Rattle.core_tree.specs.declared.expr.CoreStep.TheVariants as step
use Rattle.core_tree.specs.declared.init.CoreInit.{CoreInit}
use Rattle.core_tree.specs.declared.init.CoreInit.TheOpen.{CoreInit-F}
use Rattle.core_tree.specs.declared.init.CoreInit.TheFolds.{fold-roll-CoreInit}
use Rattle.core_tree.specs.declared.init.CoreInit.TheVariants as init
use Rattle.core_tree.specs.declared.stmt.CoreCall.{CoreCall}
use Rattle.core_tree.specs.declared.stmt.CoreStmt.{CoreStmt}
use Rattle.core_tree.specs.declared.stmt.CoreStmt.TheOpen.{CoreStmt-F}
use Rattle.core_tree.specs.declared.stmt.CoreStmt.TheFolds.{fold-roll-CoreStmt}
use Rattle.core_tree.specs.declared.stmt.CoreStmt.TheVariants as stmt

-- expressions

-- what an expression of this type and with these checks is labelled
abbrev pub label : ValueType → List Check → Label
label ty checks = record { ty = types.type_of ty; checks = checks }

-- an expression of this form, type and checks
abbrev pub expr_with : CoreKind → ValueType → List Check → ExprCore
expr_with k ty checks = expr_of (record { kind = k; ty = ty; checks = checks })

expr_rolled : (z : CoreKind-F CoreKind CoreStep CoreExpr CoreLink) (ty : ValueType) (checks : List Check) → expr_with (roll-CoreKind z) ty checks ≡ kind_step (map-CoreKind CoreKind CoreStep CoreExpr CoreLink (Label → ExprCore) StepCore ExprCore LinkCore kind_of step_of expr_of link_of z) (label ty checks)
expr_rolled z ty checks = fold_out-CoreExpr (Label → ExprCore) StepCore ExprCore LinkCore kind_step step_step (λ e. e.kind (record { ty = types.type_of e.ty; checks = e.checks })) (λ l. record { label = record { ty = types.type_of l.ty; checks = l.checks }; op = l.op; right = l.right }) (record { kind = roll-CoreKind z; ty = ty; checks = checks }) ∙ ap (λ (f : Label → ExprCore). f (label ty checks)) (fold-roll-CoreKind (Label → ExprCore) StepCore ExprCore LinkCore kind_step step_step (λ e. e.kind (record { ty = types.type_of e.ty; checks = e.checks })) (λ l. record { label = record { ty = types.type_of l.ty; checks = l.checks }; op = l.op; right = l.right }) z)

pub number_is : (value : ℤ) (t : ValueType) (c : List Check) → expr_with (expr.Number value) t c ≡ syntax.Number (label t c) value
number_is value t c = ap (λ k. expr_with k t c) (sym (expr.rolls-Number value)) ∙ expr_rolled (CoreKind-F.Number value) t c

pub outcome_is : (t : ValueType) (c : List Check) → expr_with expr.Outcome t c ≡ syntax.Outcome (label t c)
outcome_is t c = ap (λ k. expr_with k t c) (sym expr.rolls-Outcome) ∙ expr_rolled CoreKind-F.Outcome t c

pub local_is : (number : ℕ) (t : ValueType) (c : List Check) → expr_with (expr.Local number) t c ≡ syntax.Local (label t c) number
local_is number t c = ap (λ k. expr_with k t c) (sym (expr.rolls-Local number)) ∙ expr_rolled (CoreKind-F.Local number) t c

pub area_name_is : (number : ℕ) (t : ValueType) (c : List Check) → expr_with (expr.AreaName number) t c ≡ syntax.AreaName (label t c) number
area_name_is number t c = ap (λ k. expr_with k t c) (sym (expr.rolls-AreaName number)) ∙ expr_rolled (CoreKind-F.AreaName number) t c

pub cast_is : (e : CoreExpr) (t : ValueType) (c : List Check) → expr_with (expr.Cast e) t c ≡ syntax.Cast (label t c) (expr_of e)
cast_is e t c = ap (λ k. expr_with k t c) (sym (expr.rolls-Cast e)) ∙ expr_rolled (CoreKind-F.Cast e) t c

pub to_index_is : (e : CoreExpr) (t : ValueType) (c : List Check) → expr_with (expr.ToIx e) t c ≡ syntax.ToIndex (label t c) (expr_of e)
to_index_is e t c = ap (λ k. expr_with k t c) (sym (expr.rolls-ToIx e)) ∙ expr_rolled (CoreKind-F.ToIx e) t c

pub wrap_index_is : (e : CoreExpr) (t : ValueType) (c : List Check) → expr_with (expr.WrapIx e) t c ≡ syntax.WrapIndex (label t c) (expr_of e)
wrap_index_is e t c = ap (λ k. expr_with k t c) (sym (expr.rolls-WrapIx e)) ∙ expr_rolled (CoreKind-F.WrapIx e) t c

pub make_bits_is : (e : CoreExpr) (t : ValueType) (c : List Check) → expr_with (expr.MakeBits e) t c ≡ syntax.MakeBits (label t c) (expr_of e)
make_bits_is e t c = ap (λ k. expr_with k t c) (sym (expr.rolls-MakeBits e)) ∙ expr_rolled (CoreKind-F.MakeBits e) t c

pub raw_is : (e : CoreExpr) (t : ValueType) (c : List Check) → expr_with (expr.Raw e) t c ≡ syntax.Raw (label t c) (expr_of e)
raw_is e t c = ap (λ k. expr_with k t c) (sym (expr.rolls-Raw e)) ∙ expr_rolled (CoreKind-F.Raw e) t c

pub set_field_is : (e : CoreExpr) (field : ℕ) (value : CoreExpr) (t : ValueType) (c : List Check) → expr_with (expr.Set e field value) t c ≡ syntax.SetField (label t c) (expr_of e) field (expr_of value)
set_field_is e field value t c = ap (λ k. expr_with k t c) (sym (expr.rolls-Set e field value)) ∙ expr_rolled (CoreKind-F.Set e field value) t c

pub prefix_is : (op : PrefixOp) (e : CoreExpr) (t : ValueType) (c : List Check) → expr_with (expr.Prefix op e) t c ≡ syntax.Prefix (label t c) op (expr_of e)
prefix_is op e t c = ap (λ k. expr_with k t c) (sym (expr.rolls-Prefix op e)) ∙ expr_rolled (CoreKind-F.Prefix op e) t c

pub chain_is : (first : CoreExpr) (links : List CoreLink) (t : ValueType) (c : List Check) → expr_with (expr.Chain first links) t c ≡ syntax.Whole (label t c) (linked (expr_of first) (map link_of links))
chain_is first links t c = ap (λ k. expr_with k t c) (sym (expr.rolls-Chain first links)) ∙ expr_rolled (CoreKind-F.Chain first links) t c

pub postfix_is : (base : CoreExpr) (steps : List CoreStep) (t : ValueType) (c : List Check) → expr_with (expr.Postfix base steps) t c ≡ syntax.Whole (label t c) (stepped (expr_of base) (map step_of steps))
postfix_is base steps t c = ap (λ k. expr_with k t c) (sym (expr.rolls-Postfix base steps)) ∙ expr_rolled (CoreKind-F.Postfix base steps) t c

pub cond_is : (test : CoreExpr) (first : CoreExpr) (second : CoreExpr) (t : ValueType) (c : List Check) → expr_with (expr.Cond test first second) t c ≡ syntax.Cond (label t c) (expr_of test) (expr_of first) (expr_of second)
cond_is test first second t c = ap (λ k. expr_with k t c) (sym (expr.rolls-Cond test first second)) ∙ expr_rolled (CoreKind-F.Cond test first second) t c

pub link_is : (op : BinOp) (right : CoreExpr) (t : ValueType) (c : List Check) → link_of (record { op = op; right = right; ty = t; checks = c }) ≡ record { label = label t c; op = op; right = expr_of right }
link_is op right t c = fold_out-CoreLink (Label → ExprCore) StepCore ExprCore LinkCore kind_step step_step (λ e. e.kind (record { ty = types.type_of e.ty; checks = e.checks })) (λ l. record { label = record { ty = types.type_of l.ty; checks = l.checks }; op = l.op; right = l.right }) (record { op = op; right = right; ty = t; checks = c })

pub field_step_is : (field : ℕ) (t : ValueType) → step_of (step.Field field t) ≡ FieldStep (types.type_of t) field
field_step_is field t = ap step_of (sym (step.rolls-Field field t)) ∙ fold-roll-CoreStep (Label → ExprCore) StepCore ExprCore LinkCore kind_step step_step (λ e. e.kind (record { ty = types.type_of e.ty; checks = e.checks })) (λ l. record { label = record { ty = types.type_of l.ty; checks = l.checks }; op = l.op; right = l.right }) (CoreStep-F.Field field t)

pub index_step_is : (index : CoreExpr) (t : ValueType) → step_of (step.Index index t) ≡ IndexStep (types.type_of t) (expr_of index)
index_step_is index t = ap step_of (sym (step.rolls-Index index t)) ∙ fold-roll-CoreStep (Label → ExprCore) StepCore ExprCore LinkCore kind_step step_step (λ e. e.kind (record { ty = types.type_of e.ty; checks = e.checks })) (λ l. record { label = record { ty = types.type_of l.ty; checks = l.checks }; op = l.op; right = l.right }) (CoreStep-F.Index index t)

-- initializers

pub one_is : (e : CoreExpr) → init_of (init.One e) ≡ syntax.One (expr_of e)
one_is e = ap init_of (sym (init.rolls-One e)) ∙ fold-roll-CoreInit InitCore init_step (CoreInit-F.One e)

pub many_is : (inits : List CoreInit) → init_of (init.Many inits) ≡ syntax.Many (inits_of inits)
many_is inits = ap init_of (sym (init.rolls-Many inits)) ∙ fold-roll-CoreInit InitCore init_step (CoreInit-F.Many inits)

-- statements

pub let_is : (number : ℕ) (value : CoreExpr) → stmt_of (stmt.Let number value) ≡ syntax.Let number (expr_of value)
let_is number value = ap stmt_of (sym (stmt.rolls-Let number value)) ∙ fold-roll-CoreStmt StmtCore stmt_step (CoreStmt-F.Let number value)

pub let_call_is : (number : ℕ) (call : CoreCall) → stmt_of (stmt.LetCall number call) ≡ syntax.LetCall number (call_of call)
let_call_is number call = ap stmt_of (sym (stmt.rolls-LetCall number call)) ∙ fold-roll-CoreStmt StmtCore stmt_step (CoreStmt-F.LetCall number call)

pub alloc_is : (number : ℕ) (area : Area) (i : Option CoreInit) → stmt_of (stmt.Alloc number area i) ≡ syntax.Alloc number (area_of area) (option_map init_of i)
alloc_is number area i = ap stmt_of (sym (stmt.rolls-Alloc number area i)) ∙ fold-roll-CoreStmt StmtCore stmt_step (CoreStmt-F.Alloc number area i)

pub store_is : (target : CoreExpr) (value : CoreExpr) → stmt_of (stmt.Store target value) ≡ syntax.Store (expr_of target) (expr_of value)
store_is target value = ap stmt_of (sym (stmt.rolls-Store target value)) ∙ fold-roll-CoreStmt StmtCore stmt_step (CoreStmt-F.Store target value)

pub copy_is : (target : CoreExpr) (source : CoreExpr) → stmt_of (stmt.Copy target source) ≡ syntax.Copy (expr_of target) (expr_of source)
copy_is target source = ap stmt_of (sym (stmt.rolls-Copy target source)) ∙ fold-roll-CoreStmt StmtCore stmt_step (CoreStmt-F.Copy target source)

pub call_is : (call : CoreCall) → stmt_of (stmt.Call call) ≡ syntax.Call (call_of call)
call_is call = ap stmt_of (sym (stmt.rolls-Call call)) ∙ fold-roll-CoreStmt StmtCore stmt_step (CoreStmt-F.Call call)

pub if_is : (test : CoreExpr) (first : List CoreStmt) → stmt_of (stmt.If test first None) ≡ syntax.If (expr_of test) (stmts_of first)
if_is test first = ap stmt_of (sym (stmt.rolls-If test first None)) ∙ fold-roll-CoreStmt StmtCore stmt_step (CoreStmt-F.If test first None)

pub if_else_is : (test : CoreExpr) (first : List CoreStmt) (second : List CoreStmt) → stmt_of (stmt.If test first (Some second)) ≡ syntax.IfElse (expr_of test) (stmts_of first) (stmts_of second)
if_else_is test first second = ap stmt_of (sym (stmt.rolls-If test first (Some second))) ∙ fold-roll-CoreStmt StmtCore stmt_step (CoreStmt-F.If test first (Some second))

pub map_is : (number : ℕ) (length : ℕ) (body : List CoreStmt) → stmt_of (stmt.Map number length body) ≡ syntax.Map number length (stmts_of body)
map_is number length body = ap stmt_of (sym (stmt.rolls-Map number length body)) ∙ fold-roll-CoreStmt StmtCore stmt_step (CoreStmt-F.Map number length body)

pub upto_is : (number : ℕ) (length : ℕ) (last : CoreExpr) (body : List CoreStmt) → stmt_of (stmt.Upto number length last body) ≡ syntax.Upto number length (expr_of last) (stmts_of body)
upto_is number length last body = ap stmt_of (sym (stmt.rolls-Upto number length last body)) ∙ fold-roll-CoreStmt StmtCore stmt_step (CoreStmt-F.Upto number length last body)

pub downto_is : (number : ℕ) (length : ℕ) (first : CoreExpr) (body : List CoreStmt) → stmt_of (stmt.Downto number length first body) ≡ syntax.Downto number length (expr_of first) (stmts_of body)
downto_is number length first body = ap stmt_of (sym (stmt.rolls-Downto number length first body)) ∙ fold-roll-CoreStmt StmtCore stmt_step (CoreStmt-F.Downto number length first body)

pub forever_is : (body : List CoreStmt) → stmt_of (stmt.Forever body) ≡ syntax.Forever (stmts_of body)
forever_is body = ap stmt_of (sym (stmt.rolls-Forever body)) ∙ fold-roll-CoreStmt StmtCore stmt_step (CoreStmt-F.Forever body)

pub break_is : stmt_of stmt.Break ≡ syntax.Break
break_is = ap stmt_of (sym stmt.rolls-Break) ∙ fold-roll-CoreStmt StmtCore stmt_step CoreStmt-F.Break

pub return_is : (value : Option CoreExpr) → stmt_of (stmt.Return value) ≡ syntax.Return (option_map expr_of value)
return_is value = ap stmt_of (sym (stmt.rolls-Return value)) ∙ fold-roll-CoreStmt StmtCore stmt_step (CoreStmt-F.Return value)

pub assert_is : (cond : CoreExpr) (check : Check) → stmt_of (stmt.Assert cond check) ≡ syntax.Assert (expr_of cond) check
assert_is cond check = ap stmt_of (sym (stmt.rolls-Assert cond check)) ∙ fold-roll-CoreStmt StmtCore stmt_step (CoreStmt-F.Assert cond check)

pub no_alloc_is : (body : List CoreStmt) → stmt_of (stmt.NoAlloc body) ≡ syntax.NoAlloc (stmts_of body)
no_alloc_is body = ap stmt_of (sym (stmt.rolls-NoAlloc body)) ∙ fold-roll-CoreStmt StmtCore stmt_step (CoreStmt-F.NoAlloc body)

pub no_break_is : (body : List CoreStmt) → stmt_of (stmt.NoBreak body) ≡ syntax.NoBreak (stmts_of body)
no_break_is body = ap stmt_of (sym (stmt.rolls-NoBreak body)) ∙ fold-roll-CoreStmt StmtCore stmt_step (CoreStmt-F.NoBreak body)

pub no_return_is : (body : List CoreStmt) → stmt_of (stmt.NoReturn body) ≡ syntax.NoReturn (stmts_of body)
no_return_is body = ap stmt_of (sym (stmt.rolls-NoReturn body)) ∙ fold-roll-CoreStmt StmtCore stmt_step (CoreStmt-F.NoReturn body)

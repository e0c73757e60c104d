-- The core of a module is as deep as its text at each expression and statement.
use Rattle.std.proofs.Common.{◌≡◌, ℕ, ◌+◌, ◌≤◌, max, List, map, Option, Bool, true, false, refl, ◌∙◌, ap, ap₂, arith}
use Rattle.ivory_tree.specs.Syntax as syntax
use Rattle.ivory_tree.specs.Syntax.{ExprSyntax, InitSyntax, InitsSyntax, CallSyntax, StmtSyntax, BlockSyntax, StmtsSyntax, ContractSyntax, ItemSyntax}
use Rattle.ivory_tree.specs.Depth as text
use Rattle.ivory_tree.specs.Depth.{deepest, right_depth}
use Rattle.ivory_tree.specs.declared.expr.BinOp.{BinOp}
use Rattle.area_types.specs.Syntax as types
use Rattle.area_types.specs.Syntax.{ValueType, Area}
use Rattle.area_types.specs.declared.region.Region.{Region}
use Rattle.bit_data.specs.declared.BitLayout.{BitLayout}
use Rattle.core_tree.specs.Syntax as core
use Rattle.core_tree.specs.Syntax.{ExprCore, InitCore, InitsCore, CallCore, StmtCore, StmtsCore, ContractCore, AreaCore, ImportCore, ProcCore, ModuleCore}
use Rattle.core_tree.specs.Depth.{expr_depth, init_depth, inits_depth, call_depth, stmt_depth, stmts_depth, contract_depth, proc_depth}
use Rattle.source_types.specs.Environments.{Earlier}
use Rattle.typing_rules.specs.Environments.{Env}
use Rattle.typing_rules.specs.Wholes.{is_chain_prefix, is_postfix_prefix, part}
use Rattle.typing_rules.specs.Expressions as rule
use Rattle.typing_rules.specs.Expressions.{Has, Under}
use Rattle.typing_rules.specs.Calls as calls
use Rattle.typing_rules.specs.Calls.{Fit, Calls}
use Rattle.typing_rules.specs.Initializers as fills
use Rattle.typing_rules.specs.Initializers.{Fills, FillElements, FillFields}
use Rattle.typing_rules.specs.Statements as stands
use Rattle.typing_rules.specs.Statements.{MayFill, Returns, StandsStmt, StandsBlock, StandAll}
use Rattle.typing_rules.specs.Items as item
use Rattle.typing_rules.specs.Items.{Contracts, StandsProc}
use Rattle.typing_rules.specs.WellTyped as module_rule
use Rattle.typing_rules.specs.WellTyped.{StandItems, Stands}
use Rattle.core_validity.specs.Laws.{CoreIsNoDeeper}

-- ---- expressions

part_depth : (prefix : Bool) (c : ExprCore) → expr_depth (part prefix c) ≡ expr_depth c
part_depth false c = refl
part_depth true (core.Whole l c) = refl
part_depth true (core.Number l value) = refl
part_depth true (core.Outcome l) = refl
part_depth true (core.Local l number) = refl
part_depth true (core.AreaName l number) = refl
part_depth true (core.Cast l e) = refl
part_depth true (core.ToIndex l e) = refl
part_depth true (core.WrapIndex l e) = refl
part_depth true (core.MakeBits l e) = refl
part_depth true (core.Raw l e) = refl
part_depth true (core.SetField l e field value) = refl
part_depth true (core.Prefix l op e) = refl
part_depth true (core.Binary l op left right) = refl
part_depth true (core.Field l e field) = refl
part_depth true (core.Element l e index) = refl
part_depth true (core.Cond l test first second) = refl

chain_depth : (prefix : Bool) (op : BinOp) (c d : ExprCore) (left right : ExprSyntax) → expr_depth c ≡ text.expr_depth left → expr_depth d ≡ text.expr_depth right
    → max (expr_depth (part prefix c)) (right_depth op (expr_depth d)) ≡ max (text.expr_depth left) (right_depth op (text.expr_depth right))
chain_depth prefix op c d left right h k = ap₂ max (part_depth prefix c ∙ h) (ap (right_depth op) k)

choice_depth : (b c d : ExprCore) (test first second : ExprSyntax) → expr_depth b ≡ text.expr_depth test → expr_depth c ≡ text.expr_depth first → expr_depth d ≡ text.expr_depth second
    → max (expr_depth b) (1 + max (expr_depth c) (expr_depth d)) ≡ max (text.expr_depth test) (1 + max (text.expr_depth first) (text.expr_depth second))
choice_depth b c d test first second h k l = ap₂ (λ x y. max x (1 + y)) h (ap₂ max k l)

mutual
  has_depth : {env : Env} {e : ExprSyntax} {c : ExprCore} → Has env e c → expr_depth c ≡ text.expr_depth e
  has_depth rule.truth = refl
  has_depth (rule.outcome h g) = refl
  has_depth (rule.local h) = refl
  has_depth (rule.area_name n h g k) = refl
  has_depth (rule.cast h i l) = has_depth h
  has_depth (rule.cast_literal n u) = under_depth u
  has_depth (rule.to_index n h i l) = has_depth h
  has_depth (rule.wrap_index n h i) = has_depth h
  has_depth (rule.make_bits n w u) = under_depth u
  has_depth (rule.raw h w) = has_depth h
  has_depth (rule.set_field h k f n u l) = ap₂ max (has_depth h) (under_depth u)
  has_depth (rule.negated u) = under_depth u
  has_depth (rule.read h s) = has_depth h
  has_depth (rule.signed a h p l) = has_depth h
  has_depth (rule.logical {s = s} {op = op} {left = left} {right = right} {c = c} {d = d} l u v) = chain_depth (is_chain_prefix s op left) op c d left right (under_depth u) (under_depth v)
  has_depth (rule.by_left {s = s} {op = op} {left = left} {right = right} {c = c} {d = d} l h u i k) = chain_depth (is_chain_prefix s op left) op c d left right (has_depth h) (under_depth u)
  has_depth (rule.by_right {s = s} {op = op} {left = left} {right = right} {c = c} {d = d} l n h u i k) = chain_depth (is_chain_prefix s op left) op c d left right (under_depth u) (has_depth h)
  has_depth (rule.bit_field {s = s} {e = e} {c = c} h k t n) = part_depth (is_postfix_prefix s e) c ∙ has_depth h
  has_depth (rule.field {s = s} {e = e} {c = c} h k t n) = part_depth (is_postfix_prefix s e) c ∙ has_depth h
  has_depth (rule.element {s = s} {e = e} {c = c} h k u) = ap₂ max (part_depth (is_postfix_prefix s e) c ∙ has_depth h) (under_depth u)
  has_depth (rule.choice_by_first {test = test} {first = first} {second = second} {b = b} {c = c} {d = d} u h v n) = choice_depth b c d test first second (under_depth u) (has_depth h) (under_depth v)
  has_depth (rule.choice_by_second {test = test} {first = first} {second = second} {b = b} {c = c} {d = d} u n h v k) = choice_depth b c d test first second (under_depth u) (under_depth v) (has_depth h)

  under_depth : {env : Env} {t : ValueType} {e : ExprSyntax} {c : ExprCore} → Under env t e c → expr_depth c ≡ text.expr_depth e
  under_depth (rule.has h q) = has_depth h
  under_depth (rule.literal h) = refl
  under_depth (rule.signed_under a s u p l) = under_depth u
  under_depth (rule.operated_under {s = s} {op = op} {left = left} {right = right} {c = c} {d = d} g x y u v i k) = chain_depth (is_chain_prefix s op left) op c d left right (under_depth u) (under_depth v)
  under_depth (rule.choice_under {test = test} {first = first} {second = second} {b = b} {c = c} {d = d} u x y v w) = choice_depth b c d test first second (under_depth u) (under_depth v) (under_depth w)

-- ---- calls and initializers

args_depth : {env : Env} {regions : ℕ → Region} {params : List (Option ValueType)} {args : List ExprSyntax} {cs : List ExprCore} → Fit env regions params args cs → deepest (map expr_depth cs) ≡ deepest (map text.expr_depth args)
args_depth calls.no_args = refl
args_depth (calls.value_arg n u fit) = ap₂ max (under_depth u) (args_depth fit)
args_depth (calls.reference_arg r h g f fit) = ap₂ max (has_depth h) (args_depth fit)

calls_depth : {env : Env} {call : CallSyntax} {c : CallCore} {result : Option ValueType} → Calls env call c result → call_depth c ≡ text.call_depth call
calls_depth k = args_depth k.fit

mutual
  fill_depth : {env : Env} {a : Area} {i : InitSyntax} {c : InitCore} → Fills env a i c → init_depth c ≡ text.init_depth i
  fill_depth (fills.stored u) = under_depth u
  fill_depth (fills.array fill) = elements_depth fill
  fill_depth (fills.struct there fill) = fields_depth fill

  elements_depth : {env : Env} {n : ℕ} {element : Area} {is : InitsSyntax} {cs : InitsCore} → FillElements env n element is cs → inits_depth cs ≡ text.inits_depth is
  elements_depth fills.no_elements = refl
  elements_depth (fills.more_elements fill more) = ap₂ max (fill_depth fill) (elements_depth more)

  fields_depth : {env : Env} {fs : List types.Field} {is : InitsSyntax} {cs : InitsCore} → FillFields env fs is cs → inits_depth cs ≡ text.inits_depth is
  fields_depth fills.no_fields = refl
  fields_depth (fills.more_fields fill more) = ap₂ max (fill_depth fill) (fields_depth more)

-- ---- statements

mutual
  stmt_deep : {env after : Env} {s : StmtSyntax} {c : StmtCore} → StandsStmt env s after c → stmt_depth c ≡ text.stmt_depth s
  stmt_deep (stands.let_stands x h) = has_depth h
  stmt_deep (stands.let_call_stands x k) = calls_depth k
  stmt_deep (stands.alloc_stands a x names stands.zero) = refl
  stmt_deep (stands.alloc_stands a x names (stands.filled fill)) = fill_depth fill
  stmt_deep (stands.store_stands h q u) = ap₂ max (has_depth h) (under_depth u)
  stmt_deep (stands.copy_stands h g k) = ap₂ max (has_depth h) (has_depth g)
  stmt_deep (stands.call_stands k) = calls_depth k
  stmt_deep (stands.if_stands u b) = ap₂ max (under_depth u) (block_deep b)
  stmt_deep (stands.if_else_stands u h k) = ap₂ max (under_depth u) (ap₂ max (block_deep h) (block_deep k))
  stmt_deep (stands.map_stands x l b) = block_deep b
  stmt_deep (stands.upto_stands x l u b) = ap₂ max (under_depth u) (block_deep b)
  stmt_deep (stands.downto_stands x l u b) = ap₂ max (under_depth u) (block_deep b)
  stmt_deep (stands.forever_stands b) = block_deep b
  stmt_deep (stands.break_stands a) = refl
  stmt_deep (stands.return_stands a stands.nothing) = refl
  stmt_deep (stands.return_stands a (stands.value n u)) = under_depth u
  stmt_deep (stands.return_stands a (stands.reference r h g f)) = has_depth h
  stmt_deep (stands.assert_stands u m) = under_depth u
  stmt_deep (stands.no_alloc_stands b) = block_deep b
  stmt_deep (stands.no_break_stands b) = block_deep b
  stmt_deep (stands.no_return_stands b) = block_deep b

  block_deep : {env last : Env} {b : BlockSyntax} {p : StmtsCore} → StandsBlock env b last p → 1 + stmts_depth p ≡ text.block_depth b
  block_deep (stands.braces all) = ap (λ n. 1 + n) (all_deep all)

  all_deep : {env last : Env} {ss : StmtsSyntax} {p : StmtsCore} → StandAll env ss last p → stmts_depth p ≡ text.stmts_depth ss
  all_deep stands.none_stand = refl
  all_deep (stands.last_stands h) = ap (λ n. max n 0) (stmt_deep h)
  all_deep (stands.more_stand h falls more) = ap₂ max (stmt_deep h) (all_deep more)

-- ---- procedures and modules

contracts_deep : {env : Env} {cs : List ContractSyntax} {ds : List ContractCore} → Contracts env cs ds → deepest (map contract_depth ds) ≡ deepest (map text.contract_depth cs)
contracts_deep item.no_contracts = refl
contracts_deep (item.more_contracts s more) = ap₂ max (under_depth s.cond) (contracts_deep more)

proc_deep : {env : Env} {p : syntax.ProcSyntax} {c : ProcCore} → StandsProc env p c → proc_depth c ≡ text.item_depth (syntax.Procedure p)
proc_deep s = ap₂ max (contracts_deep s.contracts) (block_deep s.body)

max_more : (n a b : ℕ) → a ≤ b → a ≤ max n b
max_more n a b h = omega (arith, h)

max_both : (n m a b : ℕ) → n ≡ m → a ≤ b → max n a ≤ max m b
max_both n m a b e h = omega (arith, e, h)

items_deep : {names : List (List ℕ)} {earlier end : Earlier} {items : List ItemSyntax} {bs : List BitLayout} {as' : List AreaCore} {is : List ImportCore} {ps : List ProcCore} → StandItems names earlier items end bs as' is ps
    → deepest (map proc_depth ps) ≤ deepest (map text.item_depth items)
items_deep module_rule.no_items = omega arith
items_deep (module_rule.bits {items = items} {ps = ps} s more) = max_more 0 (deepest (map proc_depth ps)) (deepest (map text.item_depth items)) (items_deep more)
items_deep (module_rule.struct {items = items} {ps = ps} s more) = max_more 0 (deepest (map proc_depth ps)) (deepest (map text.item_depth items)) (items_deep more)
items_deep (module_rule.area {i = i} {items = items} {ps = ps} s more) = max_more (text.item_depth (syntax.Global i)) (deepest (map proc_depth ps)) (deepest (map text.item_depth items)) (items_deep more)
items_deep (module_rule.import {items = items} {ps = ps} s more) = max_more 0 (deepest (map proc_depth ps)) (deepest (map text.item_depth items)) (items_deep more)
items_deep (module_rule.procedure {p = p} {items = items} {c = c} {ps = ps} s more) =
    max_both (proc_depth c) (text.item_depth (syntax.Procedure p)) (deepest (map proc_depth ps)) (deepest (map text.item_depth items)) (proc_deep s) (items_deep more)

pub core_is_no_deeper : CoreIsNoDeeper
core_is_no_deeper m core stands = items_deep stands.items

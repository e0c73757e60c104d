-- What stands, stands with other numbers of its checks: a core is typed by the kinds and the places of its checks alone.
use Rattle.std.proofs.Common.{◌≡◌, ℕ, List, [], ◌∷◌, map, Option, refl, sym, ◌∙◌, ap, subst}
use Rattle.iv_words.specs.declared.Span.{Span}
use Rattle.ivory_tree.specs.Syntax.{Word, ExprSyntax, Binary, Field, Element, Cond, InitSyntax, InitsSyntax, CallSyntax, StmtSyntax, Let, BlockSyntax, StmtsSyntax, ContractSyntax, ProcSyntax, ItemSyntax}
use Rattle.area_types.specs.Syntax as types
use Rattle.area_types.specs.Syntax.{ValueType, Area}
use Rattle.area_types.specs.declared.region.Region.{Region}
use Rattle.bit_data.specs.declared.BitLayout.{BitLayout}
use Rattle.core_tree.specs.Syntax as core
use Rattle.core_tree.specs.Syntax.{Label, ExprCore, InitCore, InitsCore, CallCore, StmtCore, StmtsCore, AreaCore, ImportCore, ContractCore, ProcCore, type_of}
use Rattle.core_tree.specs.declared.Check.{Check}
use Rattle.core_tree.specs.declared.SiteKind.{SiteKind}
use Rattle.region_check.specs.Calls.{reference_of}
use Rattle.source_types.specs.Environments.{Earlier}
use Rattle.typing_rules.specs.Environments.{Env, with_local, next}
use Rattle.typing_rules.specs.Sites.{Labelled, unchecked}
use Rattle.typing_rules.specs.Expressions as rule
use Rattle.typing_rules.specs.Expressions.{Has, Under, chain}
use Rattle.typing_rules.specs.Calls.{Fit, no_args, value_arg, reference_arg, Calls}
use Rattle.typing_rules.specs.Initializers.{Fills, FillElements, FillFields, stored, array, struct, no_elements, more_elements, no_fields, more_fields}
use Rattle.typing_rules.specs.Statements as stands
use Rattle.typing_rules.specs.Statements.{StandsStmt, StandsBlock, StandAll, MayFill, Returns, Copies}
use Rattle.typing_rules.specs.Items as item
use Rattle.typing_rules.specs.Items.{Contracts, StandsProc}
use Rattle.typing_rules.specs.WellTyped as module_rule
use Rattle.typing_rules.specs.WellTyped.{StandItems}
use Rattle.typing_rules.specs.OtherChecks.{label_by, expr_by, init_by, inits_by, maybe_init_by, maybe_by, call_by, stmt_by, stmts_by, contract_by, proc_by}
use Rattle.typing_rules.specs.Numbers.{numbered_by}
use Rattle.typing_laws.proofs.Relabelled.{type_by}
use Rattle.typing_laws.proofs.Cores.{chain_by, field_by, element_by}

kinds_kept : (us cs : List Check) → map (λ (c : Check). c.kind) (map (numbered_by us) cs) ≡ map (λ (c : Check). c.kind) cs
kinds_kept us [] = refl
kinds_kept us (c ∷ cs) = ap (λ ks. c.kind ∷ ks) (kinds_kept us cs)

places_kept : (us cs : List Check) → map (λ (c : Check). c.span) (map (numbered_by us) cs) ≡ map (λ (c : Check). c.span) cs
places_kept us [] = refl
places_kept us (c ∷ cs) = ap (λ ss. c.span ∷ ss) (places_kept us cs)

label_kept : (us : List Check) {label : Label} {t : ValueType} {kinds : List SiteKind} {at : Span} → Labelled label t kinds at → Labelled (label_by (numbered_by us) label) t kinds at
label_kept us {label = label} l = record { ty = l.ty; checks = record { kinds = kinds_kept us label.checks ∙ l.checks.kinds; places = places_kept us label.checks ∙ l.checks.places } }

mutual
  pub has_kept : (us : List Check) {env : Env} {e : ExprSyntax} {c : ExprCore} → Has env e c → Has env e (expr_by (numbered_by us) c)
  has_kept us rule.truth = rule.truth
  has_kept us (rule.outcome h g) = rule.outcome h g
  has_kept us (rule.local h) = rule.local h
  has_kept us (rule.area_name n h g k) = rule.area_name n h g k
  has_kept us (rule.cast {c = c} h i l) = rule.cast (has_kept us h) (rw (type_by (numbered_by us) c) i) (rw (type_by (numbered_by us) c) (label_kept us l))
  has_kept us (rule.cast_literal n u) = rule.cast_literal n (under_kept us u)
  has_kept us (rule.to_index {c = c} k h i l) = rule.to_index k (has_kept us h) (rw (type_by (numbered_by us) c) i) (rw (type_by (numbered_by us) c) (label_kept us l))
  has_kept us (rule.wrap_index {c = c} k h i) = rule.wrap_index k (has_kept us h) (rw (type_by (numbered_by us) c) i)
  has_kept us (rule.make_bits n v u) = rule.make_bits n v (under_kept us u)
  has_kept us (rule.raw {c = c} h v) = rule.raw (has_kept us h) (rw (type_by (numbered_by us) c) v)
  has_kept us (rule.set_field {c = c} h q f n u l) = rule.set_field (has_kept us h) (type_by (numbered_by us) c ∙ q) f n (under_kept us u) (label_kept us l)
  has_kept us (rule.negated u) = rule.negated (under_kept us u)
  has_kept us (rule.read {c = c} h q) = rule.read (has_kept us h) (rw (type_by (numbered_by us) c) q)
  has_kept us (rule.signed {c = c} a h p l) = rule.signed a (has_kept us h) (rw (type_by (numbered_by us) c) p) (rw (type_by (numbered_by us) c) (label_kept us l))
  has_kept us (rule.logical {env = env} {s = s} {at = at} {op = op} {left = left} {right = right} {c = c} {d = d} l u v) =
      subst (Has env (Binary s op at left right)) (sym (chain_by (numbered_by us) s op left (unchecked types.Truth) c d)) (rule.logical l (under_kept us u) (under_kept us v))
  has_kept us (rule.by_left {env = env} {s = s} {at = at} {op = op} {left = left} {right = right} {c = c} {d = d} {label = label} l h u i k) =
      subst (Has env (Binary s op at left right)) (sym (chain_by (numbered_by us) s op left label c d))
      (rule.by_left l (has_kept us h) (rw (type_by (numbered_by us) c) (under_kept us u)) (rw (type_by (numbered_by us) c) i) (rw (type_by (numbered_by us) c) (label_kept us k)))
  has_kept us (rule.by_right {env = env} {s = s} {at = at} {op = op} {left = left} {right = right} {c = c} {d = d} {label = label} l n h u i k) =
      subst (Has env (Binary s op at left right)) (sym (chain_by (numbered_by us) s op left label c d))
      (rule.by_right l n (has_kept us h) (rw (type_by (numbered_by us) d) (under_kept us u)) (rw (type_by (numbered_by us) d) i) (rw (type_by (numbered_by us) d) (label_kept us k)))
  has_kept us (rule.bit_field {env = env} {s = s} {e = e} {name = name} {c = c} {k = k} {number = number} {t = t} h q f n) =
      subst (Has env (Field s e name)) (sym (field_by (numbered_by us) s e t c number)) (rule.bit_field (has_kept us h) (type_by (numbered_by us) c ∙ q) f n)
  has_kept us (rule.field {env = env} {s = s} {e = e} {name = name} {c = c} {k = k} {number = number} {t = t} h q f n) =
      subst (Has env (Field s e name)) (sym (field_by (numbered_by us) s e t c number)) (rule.field (has_kept us h) (type_by (numbered_by us) c ∙ q) (rw (type_by (numbered_by us) c) f) n)
  has_kept us (rule.element {env = env} {s = s} {brackets = brackets} {e = e} {index = index} {c = c} {d = d} {constant = constant} {region = region} {n = n} {area = area} h q u) =
      subst (Has env (Element s brackets e index)) (sym (element_by (numbered_by us) s e (types.Ref constant region area) c d)) (rule.element (has_kept us h) (type_by (numbered_by us) c ∙ q) (under_kept us u))
  has_kept us (rule.choice_by_first {env = env} {s = s} {test = test} {first = first} {second = second} {b = b} {c = c} {d = d} u h v n) =
      subst (λ t. Has env (Cond s test first second) (core.Cond (unchecked t) (expr_by (numbered_by us) b) (expr_by (numbered_by us) c) (expr_by (numbered_by us) d))) (type_by (numbered_by us) c)
      (rule.choice_by_first (under_kept us u) (has_kept us h) (rw (type_by (numbered_by us) c) (under_kept us v)) (rw (type_by (numbered_by us) c) n))
  has_kept us (rule.choice_by_second {env = env} {s = s} {test = test} {first = first} {second = second} {b = b} {c = c} {d = d} u m h v n) =
      subst (λ t. Has env (Cond s test first second) (core.Cond (unchecked t) (expr_by (numbered_by us) b) (expr_by (numbered_by us) c) (expr_by (numbered_by us) d))) (type_by (numbered_by us) d)
      (rule.choice_by_second (under_kept us u) m (has_kept us h) (rw (type_by (numbered_by us) d) (under_kept us v)) (rw (type_by (numbered_by us) d) n))

  pub under_kept : (us : List Check) {env : Env} {t : ValueType} {e : ExprSyntax} {c : ExprCore} → Under env t e c → Under env t e (expr_by (numbered_by us) c)
  under_kept us (rule.has {c = c} h q) = rule.has (has_kept us h) (type_by (numbered_by us) c ∙ q)
  under_kept us (rule.literal h) = rule.literal h
  under_kept us (rule.signed_under a n u p l) = rule.signed_under a n (under_kept us u) p (label_kept us l)
  under_kept us (rule.operated_under {env = env} {t = t} {s = s} {at = at} {op = op} {left = left} {right = right} {c = c} {d = d} {label = label} g n m u v i l) =
      subst (Under env t (Binary s op at left right)) (sym (chain_by (numbered_by us) s op left label c d)) (rule.operated_under g n m (under_kept us u) (under_kept us v) i (label_kept us l))
  under_kept us (rule.choice_under b n m u v) = rule.choice_under (under_kept us b) n m (under_kept us u) (under_kept us v)

-- ---- calls and initializers

fit_kept : (us : List Check) {env : Env} {regions : ℕ → Region} {params : List (Option ValueType)} {args : List ExprSyntax} {cs : List ExprCore} → Fit env regions params args cs → Fit env regions params args (map (expr_by (numbered_by us)) cs)
fit_kept us no_args = no_args
fit_kept us (value_arg n u fit) = value_arg n (under_kept us u) (fit_kept us fit)
fit_kept us (reference_arg {c = c} r h g f fit) = reference_arg r (has_kept us h) (rw (type_by (numbered_by us) c) g) f (fit_kept us fit)

call_kept : (us : List Check) {env : Env} {call : CallSyntax} {c : CallCore} {result : Option ValueType} → Calls env call c result → Calls env call (call_by (numbered_by us) c) result
call_kept us k = record { callee = k.callee; regions = k.regions; earlier = k.earlier; number = k.number; kind = k.kind; fit = fit_kept us k.fit; gives = k.gives }

mutual
  init_kept : (us : List Check) {env : Env} {a : Area} {i : InitSyntax} {c : InitCore} → Fills env a i c → Fills env a i (init_by (numbered_by us) c)
  init_kept us (stored u) = stored (under_kept us u)
  init_kept us (array more) = array (elements_kept us more)
  init_kept us (struct at more) = struct at (fields_kept us more)

  elements_kept : (us : List Check) {env : Env} {n : ℕ} {element : Area} {is : InitsSyntax} {cs : InitsCore} → FillElements env n element is cs → FillElements env n element is (inits_by (numbered_by us) cs)
  elements_kept us no_elements = no_elements
  elements_kept us (more_elements f more) = more_elements (init_kept us f) (elements_kept us more)

  fields_kept : (us : List Check) {env : Env} {fields : List types.Field} {is : InitsSyntax} {cs : InitsCore} → FillFields env fields is cs → FillFields env fields is (inits_by (numbered_by us) cs)
  fields_kept us no_fields = no_fields
  fields_kept us (more_fields f more) = more_fields (init_kept us f) (fields_kept us more)

fill_kept : (us : List Check) {env : Env} {a : Area} {i : Option InitSyntax} {c : Option InitCore} → MayFill env a i c → MayFill env a i (maybe_init_by (numbered_by us) c)
fill_kept us stands.zero = stands.zero
fill_kept us (stands.filled f) = stands.filled (init_kept us f)

-- ---- statements

return_kept : (us : List Check) {env : Env} {o : Option ValueType} {e : Option ExprSyntax} {c : Option ExprCore} → Returns env o e c → Returns env o e (maybe_by (numbered_by us) c)
return_kept us stands.nothing = stands.nothing
return_kept us (stands.value n u) = stands.value n (under_kept us u)
return_kept us (stands.reference {c = c} r h g f) = stands.reference r (has_kept us h) (rw (type_by (numbered_by us) c) g) f

copies_kept : (us : List Check) (c d : ExprCore) → Copies c d → Copies (expr_by (numbered_by us) c) (expr_by (numbered_by us) d)
copies_kept us c d k = record {
  to = k.to;
  from = k.from;
  to_reference = ap reference_of (type_by (numbered_by us) c) ∙ k.to_reference;
  from_reference = ap reference_of (type_by (numbered_by us) d) ∙ k.from_reference;
  mutable = k.mutable;
  equal = k.equal;
}

mutual
  stmt_kept : (us : List Check) {env after : Env} {s : StmtSyntax} {c : StmtCore} → StandsStmt env s after c → StandsStmt env s after (stmt_by (numbered_by us) c)
  stmt_kept us (stands.let_stands {env = env} {s = s} {name = name} {e = e} {c = c} f h) =
      subst (λ t. StandsStmt env (Let s name e) (with_local env name.text t) (stmt_by (numbered_by us) (core.Let (next env) c))) (type_by (numbered_by us) c) (stands.let_stands f (has_kept us h))
  stmt_kept us (stands.let_call_stands f k) = stands.let_call_stands f (call_kept us k)
  stmt_kept us (stands.alloc_stands a f names fill) = stands.alloc_stands a f names (fill_kept us fill)
  stmt_kept us (stands.store_stands {c = c} h q u) = stands.store_stands (has_kept us h) (type_by (numbered_by us) c ∙ q) (under_kept us u)
  stmt_kept us (stands.copy_stands {c = c} {d = d} h g k) = stands.copy_stands (has_kept us h) (has_kept us g) (copies_kept us c d k)
  stmt_kept us (stands.call_stands k) = stands.call_stands (call_kept us k)
  stmt_kept us (stands.if_stands u b) = stands.if_stands (under_kept us u) (block_kept us b)
  stmt_kept us (stands.if_else_stands u b e) = stands.if_else_stands (under_kept us u) (block_kept us b) (block_kept us e)
  stmt_kept us (stands.map_stands f l b) = stands.map_stands f l (block_kept us b)
  stmt_kept us (stands.upto_stands f l u b) = stands.upto_stands f l (under_kept us u) (block_kept us b)
  stmt_kept us (stands.downto_stands f l u b) = stands.downto_stands f l (under_kept us u) (block_kept us b)
  stmt_kept us (stands.forever_stands b) = stands.forever_stands (block_kept us b)
  stmt_kept us (stands.break_stands a) = stands.break_stands a
  stmt_kept us (stands.return_stands a r) = stands.return_stands a (return_kept us r)
  stmt_kept us (stands.assert_stands u m) = stands.assert_stands (under_kept us u) m
  stmt_kept us (stands.no_alloc_stands b) = stands.no_alloc_stands (block_kept us b)
  stmt_kept us (stands.no_break_stands b) = stands.no_break_stands (block_kept us b)
  stmt_kept us (stands.no_return_stands b) = stands.no_return_stands (block_kept us b)

  block_kept : (us : List Check) {env last : Env} {b : BlockSyntax} {p : StmtsCore} → StandsBlock env b last p → StandsBlock env b last (stmts_by (numbered_by us) p)
  block_kept us (stands.braces all) = stands.braces (all_kept us all)

  all_kept : (us : List Check) {env last : Env} {ss : StmtsSyntax} {p : StmtsCore} → StandAll env ss last p → StandAll env ss last (stmts_by (numbered_by us) p)
  all_kept us stands.none_stand = stands.none_stand
  all_kept us (stands.last_stands h) = stands.last_stands (stmt_kept us h)
  all_kept us (stands.more_stand h falls more) = stands.more_stand (stmt_kept us h) falls (all_kept us more)

-- ---- items

contracts_kept : (us : List Check) {env : Env} {cs : List ContractSyntax} {ds : List ContractCore} → Contracts env cs ds → Contracts env cs (map (contract_by (numbered_by us)) ds)
contracts_kept us item.no_contracts = item.no_contracts
contracts_kept us (item.more_contracts h more) = item.more_contracts (record { before = h.before; cond = under_kept us h.cond; check = h.check }) (contracts_kept us more)

proc_kept : (us : List Check) {env : Env} {p : ProcSyntax} {c : ProcCore} → StandsProc env p c → StandsProc env p (proc_by (numbered_by us) c)
proc_kept us h = record {
  types = h.types;
  last = h.last;
  header = h.header;
  plain = h.plain;
  contracts = contracts_kept us h.contracts;
  body = block_kept us h.body;
  ends = h.ends;
  name = h.name;
  exported = h.exported;
  params = h.params;
  locals = h.locals;
}

pub items_kept : (us : List Check) {names : List Word} {earlier end : Earlier} {items : List ItemSyntax} {bs : List BitLayout} {as' : List AreaCore} {is : List ImportCore} {ps : List ProcCore} → StandItems names earlier items end bs as' is ps
    → StandItems names earlier items end bs as' is (map (proc_by (numbered_by us)) ps)
items_kept us module_rule.no_items = module_rule.no_items
items_kept us (module_rule.bits h more) = module_rule.bits h (items_kept us more)
items_kept us (module_rule.struct h more) = module_rule.struct h (items_kept us more)
items_kept us (module_rule.area h more) = module_rule.area h (items_kept us more)
items_kept us (module_rule.import h more) = module_rule.import h (items_kept us more)
items_kept us (module_rule.procedure h more) = module_rule.procedure (proc_kept us h) (items_kept us more)

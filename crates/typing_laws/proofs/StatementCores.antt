-- Calls, initializers and statements that stand have the cores that are made of their text, up to the numbers of their checks, so they have
-- no other; and what is known after a statement is what its text says.
use Rattle.std.proofs.Common.{◌≡◌, ℕ, List, ◌∷◌, map, Option, Some, Bool, refl, sym, ◌∙◌, ap, ap₂}
use Rattle.ivory_tree.specs.Syntax as syntax
use Rattle.ivory_tree.specs.Syntax.{Word, ExprSyntax, InitSyntax, InitsSyntax, CallSyntax, StmtSyntax, BlockSyntax, StmtsSyntax, AreaSyntax}
use Rattle.area_types.specs.Syntax as types
use Rattle.area_types.specs.Syntax.{ValueType, Area, StructType}
use Rattle.area_types.specs.declared.region.Region.{Region}
use Rattle.core_tree.specs.Syntax as core
use Rattle.core_tree.specs.Syntax.{ExprCore, InitCore, InitsCore, CallCore, StmtCore, StmtsCore, type_of}
use Rattle.source_types.specs.Parts.{stored_type}
use Rattle.typing_rules.specs.Environments.{Env, with_local, next, after_block}
use Rattle.typing_rules.specs.Calls.{Fit, no_args, value_arg, reference_arg, Calls}
use Rattle.typing_rules.specs.Initializers.{Fills, FillElements, FillFields, stored, array, struct, no_elements, more_elements, no_fields, more_fields}
use Rattle.typing_rules.specs.Statements as stands
use Rattle.typing_rules.specs.Statements.{StandsStmt, StandsBlock, StandAll, MayFill, Returns, Marks, own, in_loop, in_counted, without}
use Rattle.typing_rules.specs.OtherChecks.{expr_by, init_by, inits_by, maybe_init_by, maybe_by, call_by, stmt_by, stmts_by}
use Rattle.typing_rules.specs.ExpressionCores.{any_type, type_or, number_or, core_of}
use Rattle.typing_rules.specs.StatementCores.{args_core, callee_core, call_core, fields_of, init_core, elements_core, fields_core, area_or, maybe_init_core, value_core, assert_at, stmt_after, block_last, stmts_last, stmt_core, block_core, stmts_core}
use Rattle.typing_laws.proofs.Relabelled.{type_by}
use Rattle.typing_laws.proofs.Ranks.{unnumbered}
use Rattle.typing_laws.proofs.Cores.{length_is, has_core, under_core}
use Rattle.typing_laws.proofs.Callees.{AllDetermined, call_type_agrees}

-- ---- calls

fit_core : {env : Env} {regions : ℕ → Region} {params : List (Option ValueType)} {args : List ExprSyntax} {cs : List ExprCore} → Fit env regions params args cs → args_core env params args ≡ map (expr_by unnumbered) cs
fit_core no_args = refl
fit_core (value_arg n u fit) = ap₂ (λ x xs. x ∷ xs) (under_core u) (fit_core fit)
fit_core (reference_arg {t = t} r h g f fit) = ap₂ (λ x xs. x ∷ xs) (has_core h t) (fit_core fit)

pub call_is : {env : Env} {call : CallSyntax} {c : CallCore} {result : Option ValueType} → Calls env call c result → call_core env call ≡ call_by unnumbered c
call_is {env = env} {call = call} {c = c} k =
    ap (λ o. callee_core env o call.args) k.earlier
    ∙ ap₂ (λ (n : ℕ) (es : List ExprCore). record { import = k.callee.import; callee = n; args = es }) (ap number_or k.number) (fit_core k.fit)
    ∙ ap (λ (b : Bool). record { import = b; callee = c.callee; args = map (expr_by unnumbered) c.args }) (sym k.kind)

-- ---- initializers

mutual
  pub init_is : {env : Env} {a : Area} {i : InitSyntax} {c : InitCore} → Fills env a i c → init_core env a i ≡ init_by unnumbered c
  init_is (stored u) = ap core.One (under_core u)
  init_is (array more) = ap core.Many (elements_are more)
  init_is {env = env} (struct {inits = inits} at more) = ap (λ o. core.Many (fields_core env (fields_of o) inits)) at ∙ ap core.Many (fields_are more)

  elements_are : {env : Env} {n : ℕ} {element : Area} {is : InitsSyntax} {cs : InitsCore} → FillElements env n element is cs → elements_core env element is ≡ inits_by unnumbered cs
  elements_are no_elements = refl
  elements_are (more_elements f more) = ap₂ core.MoreInits (init_is f) (elements_are more)

  fields_are : {env : Env} {fields : List types.Field} {is : InitsSyntax} {cs : InitsCore} → FillFields env fields is cs → fields_core env fields is ≡ inits_by unnumbered cs
  fields_are no_fields = refl
  fields_are (more_fields f more) = ap₂ core.MoreInits (init_is f) (fields_are more)

-- ---- statements

-- ---- what stands

-- the callees that a statement may call are those before it, whatever it declares
pub callees_after : {env after : Env} {s : StmtSyntax} {c : StmtCore} → StandsStmt env s after c → AllDetermined env.earlier.callees → AllDetermined after.earlier.callees
callees_after (stands.let_stands f h) d = d
callees_after (stands.let_call_stands f k) d = d
callees_after (stands.alloc_stands a f names fill) d = d
callees_after (stands.store_stands h q u) d = d
callees_after (stands.copy_stands h g k) d = d
callees_after (stands.call_stands k) d = d
callees_after (stands.if_stands u b) d = d
callees_after (stands.if_else_stands u b e) d = d
callees_after (stands.map_stands f l b) d = d
callees_after (stands.upto_stands f l u b) d = d
callees_after (stands.downto_stands f l u b) d = d
callees_after (stands.forever_stands b) d = d
callees_after (stands.break_stands a) d = d
callees_after (stands.return_stands a r) d = d
callees_after (stands.assert_stands u m) d = d
callees_after (stands.no_alloc_stands b) d = d
callees_after (stands.no_break_stands b) d = d
callees_after (stands.no_return_stands b) d = d

fill_is : {env : Env} {area : Area} {i : Option InitSyntax} {c : Option InitCore} → MayFill env area i c → maybe_init_core env area i ≡ maybe_init_by unnumbered c
fill_is stands.zero = refl
fill_is (stands.filled f) = ap Some (init_is f)

return_is : {env : Env} {o : Option ValueType} {e : Option ExprSyntax} {c : Option ExprCore} → Returns env o e c → env.result ≡ o → value_core env e ≡ maybe_by unnumbered c
return_is stands.nothing h = refl
return_is {env = env} (stands.value {t = t} {e = e} n u) h = ap (λ o. Some (core_of env (type_or o) e)) h ∙ ap Some (under_core u)
return_is {env = env} (stands.reference {t = t} {e = e} r g q f) h = ap (λ o. Some (core_of env (type_or o) e)) h ∙ ap Some (has_core g t)

-- the core of a statement, and what is known after it
pub record Is (env after : Env) (s : StmtSyntax) (c : StmtCore) : Type 0 where
  pub last : after ≡ stmt_after env s
  pub core : stmt_core env s ≡ stmt_by unnumbered c

pub record BlockIs (env end : Env) (b : BlockSyntax) (p : StmtsCore) : Type 0 where
  pub last : end ≡ block_last env b
  pub core : block_core env b ≡ stmts_by unnumbered p

pub record AllAre (env end : Env) (ss : StmtsSyntax) (p : StmtsCore) : Type 0 where
  pub last : end ≡ stmts_last env ss
  pub core : stmts_core env ss ≡ stmts_by unnumbered p

mutual
  pub stmt_is : {env after : Env} {s : StmtSyntax} {c : StmtCore} → StandsStmt env s after c → AllDetermined env.earlier.callees → Is env after s c
  stmt_is (stands.let_stands {env = env} {name = name} {e = e} {c = c} f h) d = record {
    last = ap (with_local env name.text) (sym (ap type_of (has_core h any_type) ∙ type_by unnumbered c));
    core = ap (core.Let (next env)) (has_core h any_type);
  }
  stmt_is (stands.let_call_stands {env = env} {name = name} {call = call} {c = c} {t = t} f k) d = record {
    last = ap (λ o. with_local env name.text (type_or o)) (sym (call_type_agrees env call c (Some t) d k));
    core = ap (core.LetCall (next env)) (call_is k);
  }
  stmt_is (stands.alloc_stands {env = env} {name = name} {text = text} {area = area} {init = init} a f names fill) d = record {
    last = ap (λ o. with_local env name.text (own (area_or o))) (sym names.exists);
    core = ap (λ o. core.Alloc (next env) (area_or o) (maybe_init_core env (area_or o) init)) names.exists ∙ ap (core.Alloc (next env) area) (fill_is fill);
  }
  stmt_is (stands.store_stands {env = env} {target = target} {value = value} {c = c} {d = d} {region = region} {t = t} h q u) all = record {
    last = refl;
    core = ap (λ x. core.Store x (core_of env (type_or (stored_type (type_of x))) value)) (has_core h any_type)
        ∙ ap (λ y. core.Store (expr_by unnumbered c) (core_of env (type_or (stored_type y)) value)) (type_by unnumbered c ∙ q)
        ∙ ap (core.Store (expr_by unnumbered c)) (under_core u);
  }
  stmt_is (stands.copy_stands h g k) d = record { last = refl; core = ap₂ core.Copy (has_core h any_type) (has_core g any_type) }
  stmt_is (stands.call_stands k) d = record { last = refl; core = ap core.Call (call_is k) }
  stmt_is (stands.if_stands {env = env} u b) d = let p = block_is b d in record { last = ap (after_block env) p.last; core = ap₂ core.If (under_core u) p.core }
  stmt_is (stands.if_else_stands {env = env} {last = last} {test = test} {first = first} {second = second} {c = c} {p = p} {q = q} u b e) d =
      let x = block_is b d in
      let y = block_is e d in
      record {
        last = ap (after_block env) y.last ∙ ap (λ z. after_block env (block_last (after_block env z) second)) x.last;
        core = ap (λ z. core.IfElse (core_of env types.Truth test) (block_core env first) (block_core (after_block env z) second)) (sym x.last)
            ∙ ap₂ (λ a b. core.IfElse a b (block_core (after_block env last) second)) (under_core u) x.core
            ∙ ap (core.IfElse (expr_by unnumbered c) (stmts_by unnumbered p)) y.core;
      }
  stmt_is (stands.map_stands {env = env} {name = name} {n = n} {body = body} f l b) d =
      let p = block_is b d in
      record {
        last = ap (after_block env) (p.last ∙ ap (λ m. block_last (in_counted env name m) body) (sym (length_is n l)));
        core = ap (λ m. core.Map (next env) m (block_core (in_counted env name m) body)) (length_is n l) ∙ ap (core.Map (next env) n) p.core;
      }
  stmt_is (stands.upto_stands {env = env} {name = name} {n = n} {bound = bound} {body = body} f l u b) d =
      let p = block_is b d in
      record {
        last = ap (after_block env) (p.last ∙ ap (λ m. block_last (in_counted env name m) body) (sym (length_is n l)));
        core = ap (λ m. core.Upto (next env) m (core_of env (types.Ix m) bound) (block_core (in_counted env name m) body)) (length_is n l) ∙ ap₂ (core.Upto (next env) n) (under_core u) p.core;
      }
  stmt_is (stands.downto_stands {env = env} {name = name} {n = n} {bound = bound} {body = body} f l u b) d =
      let p = block_is b d in
      record {
        last = ap (after_block env) (p.last ∙ ap (λ m. block_last (in_counted env name m) body) (sym (length_is n l)));
        core = ap (λ m. core.Downto (next env) m (core_of env (types.Ix m) bound) (block_core (in_counted env name m) body)) (length_is n l) ∙ ap₂ (core.Downto (next env) n) (under_core u) p.core;
      }
  stmt_is (stands.forever_stands {env = env} b) d = let p = block_is b d in record { last = ap (after_block env) p.last; core = ap core.Forever p.core }
  stmt_is (stands.break_stands a) d = record { last = refl; core = refl }
  stmt_is (stands.return_stands a r) d = record { last = refl; core = ap core.Return (return_is r refl) }
  stmt_is (stands.assert_stands {env = env} {s = s} {cond = cond} {c = c} {check = check} u m) d = record {
    last = refl;
    core = ap (λ x. core.Assert x (assert_at s)) (under_core u) ∙ ap₂ (λ k sp. core.Assert (expr_by unnumbered c) (record { site = 0; kind = k; span = sp })) (sym m.0) (sym m.1);
  }
  stmt_is (stands.no_alloc_stands {env = env} b) d = let p = block_is b d in record { last = ap (after_block env) p.last; core = ap core.NoAlloc p.core }
  stmt_is (stands.no_break_stands {env = env} b) d = let p = block_is b d in record { last = ap (after_block env) p.last; core = ap core.NoBreak p.core }
  stmt_is (stands.no_return_stands {env = env} b) d = let p = block_is b d in record { last = ap (after_block env) p.last; core = ap core.NoReturn p.core }

  pub block_is : {env last : Env} {b : BlockSyntax} {p : StmtsCore} → StandsBlock env b last p → AllDetermined env.earlier.callees → BlockIs env last b p
  block_is (stands.braces all) d = let p = all_are all d in record { last = p.last; core = p.core }

  pub all_are : {env last : Env} {ss : StmtsSyntax} {p : StmtsCore} → StandAll env ss last p → AllDetermined env.earlier.callees → AllAre env last ss p
  all_are stands.none_stand d = record { last = refl; core = refl }
  all_are (stands.last_stands h) d = let p = stmt_is h d in record { last = p.last; core = ap (λ x. core.MoreStmts x core.NoStmts) p.core }
  all_are (stands.more_stand {env = env} {s = s} {next_one = next_one} {rest = rest} {c = c} h falls more) d =
      let p = stmt_is h d in
      let q = all_are more (callees_after h d) in
      record {
        last = q.last ∙ ap (λ z. stmts_last z (syntax.MoreStmts next_one rest)) p.last;
        core = ap (λ z. core.MoreStmts (stmt_core env s) (stmts_core z (syntax.MoreStmts next_one rest))) (sym p.last) ∙ ap₂ core.MoreStmts p.core q.core;
      }

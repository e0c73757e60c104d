-- Statements that stand break no rule, and both definitions know the same after each.
use Rattle.std.proofs.Common.{◌≡◌, ℕ, List, [], ◌∷◌, ◌++◌, length, Option, Some, None, option_and_then, is_some, Bool, true, false, cond, not, ◌&&◌, ◌||◌, refl, sym, ◌∙◌, ap}
use Rattle.std.specs.List.{list_any}
use Rattle.iv_words.specs.declared.Name.{Name}
use Rattle.iv_words.specs.Words.{same_word}
use Rattle.iv_words.specs.declared.Span.{Span}
use Rattle.ivory_tree.specs.Syntax as syntax
use Rattle.ivory_tree.specs.Syntax.{Word, ExprSyntax, CallSyntax, StmtSyntax, BlockSyntax, StmtsSyntax, InitSyntax, AreaSyntax}
use Rattle.ivory_tree.specs.Formed.{FormedStmt, FormedBlock, FormedStmts}
use Rattle.area_types.specs.Syntax as types
use Rattle.area_types.specs.Syntax.{ValueType, Area}
use Rattle.area_types.specs.Tables.{is_length}
use Rattle.area_types.specs.declared.region.Region.{Region}
use Rattle.area_types.specs.declared.region.Region.TheVariants.{Global, Param, Own}
use Rattle.region_check.specs.Calls.{Reference, reference_of}
use Rattle.region_check.specs.Substitutions.{applied, escapes}
use Rattle.alloc_effects.specs.declared.allowed.Narrowing.TheVariants as narrowing
use Rattle.control_effects.specs.Falling.{stmt_falls, block_falls}
use Rattle.core_tree.specs.Syntax.{ExprCore, CallCore, InitCore, StmtCore, StmtsCore, type_of}
use Rattle.source_types.specs.Environments.{Callee, has_word}
use Rattle.source_types.specs.Parts.{stored_type}
use Rattle.source_types.specs.Settled.{settled}
use Rattle.source_types.specs.Values.{same_area}
use Rattle.source_types.specs.Written.{index_type, area_in}
use Rattle.rule_faults.specs.Contexts as faults
use Rattle.rule_faults.specs.Contexts.{Context, is_taken, own_area}
use Rattle.rule_faults.specs.Types.{own_type}
use Rattle.rule_faults.specs.Wants.{Nothing, Wants, Returns as ReturnsFor, wants, of_stored, of_returned}
use Rattle.rule_faults.specs.Nodes.{Node, ABlock, AStatement, AnExpr}
use Rattle.rule_faults.specs.Tests.{where_there, where_both}
use Rattle.rule_faults.specs.ExpressionRules.{stores, fits}
use Rattle.rule_faults.specs.StatementRules.{only_reads, alike, rule_33, rule_40}
use Rattle.rule_faults.specs.ExpressionRows.{expr_row, call_row, area_row}
use Rattle.rule_faults.specs.StatementRows.{after_stmt, stmt_row, block_row, stmts_row, alloc_row, value_row, of_value}
use Rattle.rule_faults.specs.StatementRows as rows
use Rattle.rule_faults.specs.FirstFault.{first_of}
use Rattle.typing_rules.specs.Environments.{Env, Local, with_local, is_free}
use Rattle.typing_rules.specs.Contexts.{local_of, context_of}
use Rattle.typing_rules.specs.Expressions.{Has}
use Rattle.typing_rules.specs.Calls.{Calls}
use Rattle.typing_rules.specs.Statements as stands
use Rattle.typing_rules.specs.Statements.{StandsStmt, StandsBlock, StandAll, MayFill, Returns, Copies, own, in_loop, in_counted}
use Rattle.typing_laws.proofs.Lookups.{some_same, not_true, any_map, map_last, mapped}
use Rattle.typing_laws.proofs.TypesAgree.{has_settled, typed}
use Rattle.typing_laws.proofs.Quiet.{AsWanted, quiet_cons, quiet_append, nothing_wanted, region_same, area_same}
use Rattle.typing_laws.proofs.QuietNodes.{InStatement, quiet_statement, quiet_block}
use Rattle.typing_laws.proofs.Clean.{clean, clean_under, row_at}
use Rattle.typing_laws.proofs.CleanCalls.{call_is_clean}
use Rattle.typing_laws.proofs.CleanAreas.{named_area_clean}
use Rattle.typing_laws.proofs.CleanInits.{init_clean}
use Rattle.typing_laws.proofs.Callees.{AllDetermined, determined_found, call_type_agrees}

-- ---- what is in scope

pub local_added : (env : Env) (name : Word) (t : ValueType) → context_of (with_local env name t) ≡ faults.with_local (context_of env) name (Some t)
local_added env name t = ap (λ scope. record (context_of env) { scope = scope }) (map_last local_of env.scope (record { name = name; number = length env.locals; ty = t }))

pub name_free : (env : Env) (name : Word) → is_free env name ≡ true → is_taken (context_of env) name ≡ false
name_free env name h =
    ap (λ b. has_word env.names name || b) (any_map (λ (l : faults.Local). same_word l.name name) local_of env.scope)
    ∙ not_true (has_word env.names name || list_any (λ (l : Local). same_word l.name name) env.scope) h

index_is : (n : ℕ) → is_length n ≡ true → index_type n ≡ Some (types.Ix n)
index_is n h = ap (λ b. cond b (Some (types.Ix n)) None) h

pub counted_same : (env : Env) (name : Name) (n : ℕ) → is_length n ≡ true → context_of (in_counted env name n) ≡ rows.in_counted (context_of env) name n
counted_same env name n h = local_added (in_loop env) name.text (types.Ix n) ∙ ap (faults.with_local (rows.in_loop (context_of env)) name.text) (sym (index_is n h))

pub after_agrees : {env after : Env} {s : StmtSyntax} {c : StmtCore} → StandsStmt env s after c → AllDetermined env.earlier.callees → context_of after ≡ after_stmt (context_of env) s
after_agrees (stands.let_stands {env = env} {name = name} {c = c} f h) d = local_added env name.text (type_of c) ∙ ap (faults.with_local (context_of env) name.text) (sym (typed h None))
after_agrees (stands.let_call_stands {env = env} {name = name} {call = call} {c = c} {t = t} f k) d =
    local_added env name.text t ∙ ap (faults.with_local (context_of env) name.text) (sym (call_type_agrees env call c (Some t) d k))
after_agrees (stands.alloc_stands {env = env} {name = name} {area = area} a f names fill) d = local_added env name.text (own area) ∙ ap (faults.with_local (context_of env) name.text) (sym (ap own_area names.exists))
after_agrees (stands.store_stands h q u) d = refl
after_agrees (stands.copy_stands h g k) d = refl
after_agrees (stands.call_stands k) d = refl
after_agrees (stands.if_stands u b) d = refl
after_agrees (stands.if_else_stands u b e) d = refl
after_agrees (stands.map_stands f l b) d = refl
after_agrees (stands.upto_stands f l u b) d = refl
after_agrees (stands.downto_stands f l u b) d = refl
after_agrees (stands.forever_stands b) d = refl
after_agrees (stands.break_stands a) d = refl
after_agrees (stands.return_stands a r) d = refl
after_agrees (stands.assert_stands u m) d = refl
after_agrees (stands.no_alloc_stands b) d = refl
after_agrees (stands.no_break_stands b) d = refl
after_agrees (stands.no_return_stands b) d = refl

-- ---- what holds throughout a body

-- the result of a procedure is no reference into its own memory
abbrev pub Stays : Option ValueType → Type 0
Stays o = (t : ValueType) → o ≡ Some t → escapes t ≡ false

abbrev pub Fine : Env → Type 0
Fine env = AllDetermined env.earlier.callees × Stays env.result

fine_after : {env after : Env} {s : StmtSyntax} {c : StmtCore} → StandsStmt env s after c → Fine env → Fine after
fine_after (stands.let_stands f h) d = d
fine_after (stands.let_call_stands f k) d = d
fine_after (stands.alloc_stands a f names fill) d = d
fine_after (stands.store_stands h q u) d = d
fine_after (stands.copy_stands h g k) d = d
fine_after (stands.call_stands k) d = d
fine_after (stands.if_stands u b) d = d
fine_after (stands.if_else_stands u b e) d = d
fine_after (stands.map_stands f l b) d = d
fine_after (stands.upto_stands f l u b) d = d
fine_after (stands.downto_stands f l u b) d = d
fine_after (stands.forever_stands b) d = d
fine_after (stands.break_stands a) d = d
fine_after (stands.return_stands a r) d = d
fine_after (stands.assert_stands u m) d = d
fine_after (stands.no_alloc_stands b) d = d
fine_after (stands.no_break_stands b) d = d
fine_after (stands.no_return_stands b) d = d

-- ---- values that are returned

abbrev is_own : Region → Bool
is_own Own = true
is_own Global = false
is_own (Param j) = false

escapes_is : (t : ValueType) (r : Reference) → reference_of t ≡ Some r → escapes t ≡ is_own r.region
escapes_is types.Truth r h = let no : ⊥ = cc in absurd no
escapes_is (types.Int k) r h = let no : ⊥ = cc in absurd no
escapes_is (types.Ix n) r h = let no : ⊥ = cc in absurd no
escapes_is (types.Bits k) r h = let no : ⊥ = cc in absurd no
escapes_is (types.Ref c Global a) r h = ap (λ (x : Reference). is_own x.region) (some_same h)
escapes_is (types.Ref c (Param j) a) r h = ap (λ (x : Reference). is_own x.region) (some_same h)
escapes_is (types.Ref c Own a) r h = ap (λ (x : Reference). is_own x.region) (some_same h)

returns_of : (t : ValueType) (wanted : Reference) → reference_of t ≡ Some wanted → of_returned (Some t) ≡ ReturnsFor wanted
returns_of types.Truth wanted h = let no : ⊥ = cc in absurd no
returns_of (types.Int k) wanted h = let no : ⊥ = cc in absurd no
returns_of (types.Ix n) wanted h = let no : ⊥ = cc in absurd no
returns_of (types.Bits k) wanted h = let no : ⊥ = cc in absurd no
returns_of (types.Ref c r a) wanted h = ap ReturnsFor (some_same h)

wanted_of : (t : ValueType) → reference_of t ≡ None → of_returned (Some t) ≡ Wants t
wanted_of types.Truth h = refl
wanted_of (types.Int k) h = refl
wanted_of (types.Ix n) h = refl
wanted_of (types.Bits k) h = refl
wanted_of (types.Ref c r a) h = let no : ⊥ = cc in absurd no

fits_so : (wanted given : Reference) → stands.Fits wanted given → fits wanted (Some given) ≡ true
fits_so wanted given f = rw (f.region, f.area, region_same wanted.region, area_same wanted.area) f.access

returned_wanted : (context : Context) (e : ExprSyntax) (t u : ValueType) (wanted given : Reference) → settled e ≡ true → own_type context e ≡ Some u → reference_of t ≡ Some wanted → reference_of u ≡ Some given → stands.Fits wanted given
    → escapes t ≡ false → AsWanted (AnExpr context (ReturnsFor wanted) e)
returned_wanted context e t u wanted given s o r g f stays = record {
  r18 = refl;
  r20 = refl;
  r35 = refl;
  r36 = refl;
  r37 = refl;
  r38 =
      let same : escapes u ≡ false = escapes_is u given g ∙ ap is_own f.region ∙ sym (escapes_is t wanted r) ∙ stays in
      rw (s, o) same;
  r39 =
      let same : not (fits wanted (reference_of u)) ≡ false = ap (λ p. not (fits wanted p)) g ∙ ap not (fits_so wanted given f) in
      rw (s, o) same;
}

-- of the value of a `return`, where one is to be given
value_at : (env : Env) (t : ValueType) → env.result ≡ Some t → of_value (context_of env) ≡ of_returned (Some t)
value_at env t h = ap (λ o. cond (is_some o) (of_returned o) Nothing) h

pub record ReturnClean (env : Env) (s : Span) (value : Option ExprSyntax) : Type 0 where
  pub r40 : rule_40 (AStatement (context_of env) true (syntax.Return s value)) ≡ false
  pub rest : first_of (value_row (context_of env) value) ≡ None

return_clean : {env : Env} {o : Option ValueType} {value : Option ExprSyntax} {c : Option ExprCore} → Returns env o value c → (s : Span) → env.result ≡ o → Stays o → ReturnClean env s value
return_clean {env = env} stands.nothing s h k = record { r40 = ap is_some h; rest = refl }
return_clean {env = env} (stands.value {t = t} {e = e} n u) s h k = record {
  r40 = ap (λ o. not (is_some o)) h;
  rest = row_at (context_of env) e (of_value (context_of env)) (value_at env t h ∙ wanted_of t n) (clean_under u).wanted;
}
return_clean {env = env} (stands.reference {t = t} {wanted = wanted} {given = given} {e = e} {c = c} r g q f) s h k = record {
  r40 = ap (λ o. not (is_some o)) h;
  rest = row_at (context_of env) e (of_value (context_of env)) (value_at env t h ∙ returns_of t wanted r)
      (clean g (ReturnsFor wanted) (returned_wanted (context_of env) e t (type_of c) wanted given (has_settled g) (typed g None) r q f (k t refl)));
}

-- ---- nodes

-- a settled expression of which nothing is wanted
alone : {env : Env} {e : ExprSyntax} {c : ExprCore} → Has env e c → first_of (expr_row (context_of env) Nothing e) ≡ None
alone {env = env} {e = e} h = clean h Nothing (nothing_wanted (context_of env) e (has_settled h))

node : (context : Context) (s : StmtSyntax) → InStatement (AStatement context true s) → (rest : List Node) → first_of rest ≡ None → first_of (AStatement context true s ∷ rest) ≡ None
node context s h rest k = quiet_cons (AStatement context true s) rest (quiet_statement context true s h) k

call_gives : (env : Env) (s : Span) (name : Name) (call : CallSyntax) (c : CallCore) (t : ValueType) → AllDetermined env.earlier.callees → Calls env call c (Some t)
    → rule_33 (AStatement (context_of env) true (syntax.LetCall s name call)) ≡ false
call_gives env s name call c t all k =
    let d = determined_found (λ (x : Callee). same_word x.name call.name.text) env.earlier.callees k.callee all k.earlier in
    let p = mapped (applied k.regions) k.callee.result t (sym k.gives) in
    ap (λ o. where_there o (λ (x : Callee). not x.gives)) k.earlier ∙ ap not (d.gives p.value p.there)

alloc_clean : {env : Env} {area : Area} {init : Option InitSyntax} {c : Option InitCore} → MayFill env area init c → first_of (alloc_row (context_of env) (Some area) init) ≡ None
alloc_clean stands.zero = refl
alloc_clean (stands.filled f) = init_clean f false (λ q. let no : ⊥ = cc in absurd no)

copy_target : {env : Env} {target : ExprSyntax} {c d : ExprCore} → Has env target c → Copies c d → where_there (own_type (context_of env) target) (λ t. only_reads (reference_of t)) ≡ false
copy_target h k = ap (λ o. where_there o (λ t. only_reads (reference_of t))) (typed h None) ∙ ap only_reads k.to_reference ∙ k.mutable

copy_alike : {env : Env} {target source : ExprSyntax} {c d : ExprCore} → Has env target c → Has env source d → Copies c d
    → where_both (own_type (context_of env) target) (own_type (context_of env) source) (λ t u. not (alike (reference_of t) (reference_of u))) ≡ false
copy_alike {env = env} {source = source} {c = c} {d = d} h g k =
    ap (λ o. where_both o (own_type (context_of env) source) (λ t u. not (alike (reference_of t) (reference_of u)))) (typed h None)
    ∙ ap (λ o. where_both (Some (type_of c)) o (λ t u. not (alike (reference_of t) (reference_of u)))) (typed g None)
    ∙ ap (λ p. not (alike p (reference_of (type_of d)))) k.to_reference
    ∙ ap (λ p. not (alike (Some k.to) p)) k.from_reference
    ∙ ap (λ a. not (same_area k.to.area a)) (sym k.equal)
    ∙ ap not (area_same k.to.area)

-- ---- statements

mutual
  pub stmt_clean : {env after : Env} {s : StmtSyntax} {c : StmtCore} → StandsStmt env s after c → Fine env → FormedStmt s → first_of (stmt_row (context_of env) true s) ≡ None
  stmt_clean (stands.let_stands {env = env} {s = s} {name = name} {e = e} f h) d formed =
      node (context_of env) (syntax.Let s name e) (name_free env name.text f, refl, refl, refl, refl, refl, refl, refl, refl, refl, refl) (expr_row (context_of env) Nothing e) (alone h)
  stmt_clean (stands.let_call_stands {env = env} {s = s} {name = name} {call = call} {c = c} {t = t} f k) d formed =
      node (context_of env) (syntax.LetCall s name call) (name_free env name.text f, refl, refl, refl, refl, call_gives env s name call c t d.0 k, refl, refl, refl, refl, refl)
      (call_row (context_of env) call) (call_is_clean env call c (Some t) k)
  stmt_clean (stands.alloc_stands {env = env} {s = s} {name = name} {text = text} {area = area} {init = init} a f names fill) d formed =
      node (context_of env) (syntax.Alloc s name text init) (name_free env name.text f, refl, refl, refl, refl, refl, refl, refl, refl, ap not a, refl)
      (area_row env.earlier text ++ alloc_row (context_of env) (area_in env.earlier text) init)
      (quiet_append (area_row env.earlier text) (alloc_row (context_of env) (area_in env.earlier text) init) (named_area_clean env.earlier text area formed.0 names)
      (ap (λ o. first_of (alloc_row (context_of env) o init)) names.exists ∙ alloc_clean fill))
  stmt_clean (stands.store_stands {env = env} {s = s} {target = target} {value = value} {c = c} {region = region} {t = t} h q u) d formed =
      let own_is : own_type (context_of env) target ≡ Some (types.Ref false region (types.Stored t)) = typed h None ∙ ap Some q in
      node (context_of env) (syntax.Store s target value)
      (refl, refl, ap (λ o. where_there o (λ x. not (stores x))) own_is, ap (λ o. where_there o (λ x. only_reads (reference_of x))) own_is, refl, refl, refl, refl, refl, refl, refl)
      (expr_row (context_of env) Nothing target ++ expr_row (context_of env) (of_stored (context_of env) target) value)
      (quiet_append (expr_row (context_of env) Nothing target) (expr_row (context_of env) (of_stored (context_of env) target) value) (alone h)
      (row_at (context_of env) value (of_stored (context_of env) target) (ap (λ o. wants (option_and_then stored_type o)) own_is) (clean_under u).wanted))
  stmt_clean (stands.copy_stands {env = env} {s = s} {target = target} {source = source} h g k) d formed =
      node (context_of env) (syntax.Copy s target source) (refl, refl, refl, copy_target h k, copy_alike h g k, refl, refl, refl, refl, refl, refl)
      (expr_row (context_of env) Nothing target ++ expr_row (context_of env) Nothing source)
      (quiet_append (expr_row (context_of env) Nothing target) (expr_row (context_of env) Nothing source) (alone h) (alone g))
  stmt_clean (stands.call_stands {env = env} {s = s} {call = call} {c = c} {result = result} k) d formed =
      node (context_of env) (syntax.Call s call) (refl, refl, refl, refl, refl, refl, refl, refl, refl, refl, refl) (call_row (context_of env) call) (call_is_clean env call c result k)
  stmt_clean (stands.if_stands {env = env} {s = s} {test = test} {first = first} u b) d formed =
      node (context_of env) (syntax.If s test first) (refl, refl, refl, refl, refl, refl, refl, refl, refl, refl, refl) (expr_row (context_of env) (Wants types.Truth) test ++ block_row (context_of env) false first)
      (quiet_append (expr_row (context_of env) (Wants types.Truth) test) (block_row (context_of env) false first) (clean_under u).wanted (block_clean b d formed.1 false refl))
  stmt_clean (stands.if_else_stands {env = env} {s = s} {test = test} {first = first} {second = second} u b e) d formed =
      node (context_of env) (syntax.IfElse s test first second) (refl, refl, refl, refl, refl, refl, refl, refl, refl, refl, refl)
      (expr_row (context_of env) (Wants types.Truth) test ++ (block_row (context_of env) false first ++ block_row (context_of env) false second))
      (quiet_append (expr_row (context_of env) (Wants types.Truth) test) (block_row (context_of env) false first ++ block_row (context_of env) false second) (clean_under u).wanted
      (quiet_append (block_row (context_of env) false first) (block_row (context_of env) false second) (block_clean b d formed.1 false refl) (block_clean e d formed.2 false refl)))
  stmt_clean (stands.map_stands {env = env} {s = s} {name = name} {n = n} {body = body} f l b) d formed =
      node (context_of env) (syntax.Map s name n body) (name_free env name.text f, ap not l, refl, refl, refl, refl, refl, refl, refl, refl, refl) (block_row (rows.in_counted (context_of env) name n) false body)
      (ap (λ x. first_of (block_row x false body)) (sym (counted_same env name n l)) ∙ block_clean b d formed false refl)
  stmt_clean (stands.upto_stands {env = env} {s = s} {name = name} {n = n} {bound = bound} {body = body} f l u b) d formed =
      node (context_of env) (syntax.Upto s name n bound body) (name_free env name.text f, ap not l, refl, refl, refl, refl, refl, refl, refl, refl, refl)
      (expr_row (context_of env) (wants (index_type n)) bound ++ block_row (rows.in_counted (context_of env) name n) false body)
      (quiet_append (expr_row (context_of env) (wants (index_type n)) bound) (block_row (rows.in_counted (context_of env) name n) false body)
      (row_at (context_of env) bound (wants (index_type n)) (ap wants (index_is n l)) (clean_under u).wanted)
      (ap (λ x. first_of (block_row x false body)) (sym (counted_same env name n l)) ∙ block_clean b d formed.1 false refl))
  stmt_clean (stands.downto_stands {env = env} {s = s} {name = name} {n = n} {bound = bound} {body = body} f l u b) d formed =
      node (context_of env) (syntax.Downto s name n bound body) (name_free env name.text f, ap not l, refl, refl, refl, refl, refl, refl, refl, refl, refl)
      (expr_row (context_of env) (wants (index_type n)) bound ++ block_row (rows.in_counted (context_of env) name n) false body)
      (quiet_append (expr_row (context_of env) (wants (index_type n)) bound) (block_row (rows.in_counted (context_of env) name n) false body)
      (row_at (context_of env) bound (wants (index_type n)) (ap wants (index_is n l)) (clean_under u).wanted)
      (ap (λ x. first_of (block_row x false body)) (sym (counted_same env name n l)) ∙ block_clean b d formed.1 false refl))
  stmt_clean (stands.forever_stands {env = env} {s = s} {body = body} b) d formed =
      node (context_of env) (syntax.Forever s body) (refl, refl, refl, refl, refl, refl, refl, refl, refl, refl, refl) (block_row (rows.in_loop (context_of env)) false body) (block_clean b d formed false refl)
  stmt_clean (stands.break_stands {env = env} {s = s} a) d formed = node (context_of env) (syntax.Break s) (refl, refl, refl, refl, refl, refl, refl, refl, ap not a, refl, refl) [] refl
  stmt_clean (stands.return_stands {env = env} {s = s} {value = value} a r) d formed =
      let p = return_clean r s refl d.1 in
      node (context_of env) (syntax.Return s value) (refl, refl, refl, refl, refl, refl, p.r40, ap not a, refl, refl, refl) (value_row (context_of env) value) p.rest
  stmt_clean (stands.assert_stands {env = env} {s = s} {cond = cond} u m) d formed =
      node (context_of env) (syntax.Assert s cond) (refl, refl, refl, refl, refl, refl, refl, refl, refl, refl, refl) (expr_row (context_of env) (Wants types.Truth) cond) (clean_under u).wanted
  stmt_clean (stands.no_alloc_stands {env = env} {s = s} {body = body} b) d formed =
      node (context_of env) (syntax.NoAlloc s body) (refl, refl, refl, refl, refl, refl, refl, refl, refl, refl, refl) (block_row (rows.without (context_of env) narrowing.NoAlloc) false body) (block_clean b d formed false refl)
  stmt_clean (stands.no_break_stands {env = env} {s = s} {body = body} b) d formed =
      node (context_of env) (syntax.NoBreak s body) (refl, refl, refl, refl, refl, refl, refl, refl, refl, refl, refl) (block_row (rows.without (context_of env) narrowing.NoBreak) false body) (block_clean b d formed false refl)
  stmt_clean (stands.no_return_stands {env = env} {s = s} {body = body} b) d formed =
      node (context_of env) (syntax.NoReturn s body) (refl, refl, refl, refl, refl, refl, refl, refl, refl, refl, refl) (block_row (rows.without (context_of env) narrowing.NoReturn) false body) (block_clean b d formed false refl)

  pub block_clean : {env last : Env} {b : BlockSyntax} {p : StmtsCore} → StandsBlock env b last p → Fine env → FormedBlock b → (with_result : Bool) → with_result && block_falls b ≡ false
      → first_of (block_row (context_of env) with_result b) ≡ None
  block_clean (stands.braces {env = env} {s = s} {stmts = stmts} all) d formed w h =
      quiet_cons (ABlock w (syntax.Braces s stmts)) (stmts_row (context_of env) true stmts) (quiet_block w (syntax.Braces s stmts) h) (all_clean all d formed)

  all_clean : {env last : Env} {stmts : StmtsSyntax} {p : StmtsCore} → StandAll env stmts last p → Fine env → FormedStmts stmts → first_of (stmts_row (context_of env) true stmts) ≡ None
  all_clean stands.none_stand d formed = refl
  all_clean (stands.last_stands {env = env} {s = s} h) d formed = quiet_append (stmt_row (context_of env) true s) [] (stmt_clean h d formed.0) refl
  all_clean (stands.more_stand {env = env} {after = after} {s = s} {next_one = next_one} {rest = rest} h falls more) d formed =
      let later = syntax.MoreStmts next_one rest in
      quiet_append (stmt_row (context_of env) true s) (stmts_row (after_stmt (context_of env) s) (stmt_falls s) later) (stmt_clean h d formed.0)
      (ap (λ b. first_of (stmts_row (after_stmt (context_of env) s) b later)) falls
      ∙ ap (λ x. first_of (stmts_row x true later)) (sym (after_agrees h d.0))
      ∙ all_clean more (fine_after h d) formed.1)

-- A statement that stands is well typed in the core, where it stands.
use Rattle.std.proofs.Common.{◌≡◌, ℕ, zero, suc, ◌+◌, List, [], ◌∷◌, ◌++◌, length, slice_get, Contains, Option, Some, None, Bool, true, false, not, ◌||◌, All, IsTrue, refl, sym, ◌∙◌, ap, subst, arith, length-append}
use Rattle.std.proofs.lemmas.List.Elements.{All-push, All-weaker}
use Rattle.iv_words.specs.Words.{same_word}
use Rattle.iv_words.specs.declared.Name.{Name}
use Rattle.ivory_tree.specs.Syntax.{Word, ExprSyntax, InitSyntax, StmtSyntax, BlockSyntax, StmtsSyntax}
use Rattle.ivory_tree.specs.Formed.{FormedStmt, FormedBlock, FormedStmts}
use Rattle.area_types.specs.Syntax as types
use Rattle.area_types.specs.Syntax.{ValueType, Area}
use Rattle.area_types.specs.Tables.{Table, is_length}
use Rattle.area_types.specs.declared.region.Region.{Region}
use Rattle.area_types.specs.declared.region.Region.TheVariants.{Global, Param, Own}
use Rattle.alloc_effects.specs.declared.allowed.Allowed.{Allowed}
use Rattle.alloc_effects.specs.declared.allowed.Narrowing.TheVariants as narrowing
use Rattle.alloc_effects.specs.Permissions.{narrowed, looped}
use Rattle.region_check.specs.Calls.{Reference, reference_of}
use Rattle.region_check.specs.Substitutions.{escapes}
use Rattle.core_tree.specs.Syntax.{ExprCore, InitCore, StmtCore, StmtsCore, type_of}
use Rattle.core_tree.specs.Environments as around
use Rattle.core_tree.specs.Environments.{Point, locals_in, all_locals, named_by}
use Rattle.core_tree.specs.Falling.{stmt_falls}
use Rattle.core_tree.specs.Types.{is_type, is_core_area}
use Rattle.core_tree.specs.Types as core_types
use Rattle.core_tree.specs.TypedExpressions.{HasType}
use Rattle.core_tree.specs.TypedStatements.{IsNext, MayInit, LoopTyped, CopyTyped, ReturnTyped, StmtTyped, StmtsTyped, is_last}
use Rattle.typing_rules.specs.Environments.{Env, Local, next, with_local, after_block}
use Rattle.typing_rules.specs.Statements as stands
use Rattle.typing_rules.specs.Statements.{Copies, Fits, MayFill, Returns, StandsStmt, StandsBlock, StandAll, in_loop, in_counted, without, own}
use Rattle.typing_laws.proofs.Lookups.{some_same}
use Rattle.core_validity.proofs.Lists.{All-at, All-found, get_front, get_next, Begins, begins_at}
use Rattle.core_validity.proofs.Types.{Usable, held_usable, type_usable}
use Rattle.core_validity.proofs.Known.{Known}
use Rattle.core_validity.proofs.Forms.{has_is_settled}
use Rattle.core_validity.proofs.Expressions.{Around, has_fine, under_fine}
use Rattle.core_validity.proofs.Calls.{call_typed, call_fine}
use Rattle.core_validity.proofs.Initializers.{init_typed}
use Rattle.core_validity.proofs.Named.{NamesAreas}
use Rattle.core_validity.proofs.Paths.{falls_same, Grown, begins_before, stmt_grows, block_grows, all_grow}

-- ---- where a statement stands

-- a local in scope, with its type
pub record Seen (locals : List ValueType) (scope : List ℕ) (l : Local) : Type 0 where
  pub in_scope : Contains scope l.number
  pub type : slice_get locals l.number ≡ Some l.ty

-- what the text knows there is what the core knows there
pub record Here (n : ℕ) (env : Env) (cenv : around.Env) (at : Point) : Type 0 where
  pub known : Known cenv.core cenv.earlier env.earlier
  pub named : NamesAreas cenv.core.structs env.earlier
  pub types : All (Usable cenv.core.structs n) env.locals
  pub scope : All (Seen env.locals at.scope) env.scope
  pub count : at.next ≡ length env.locals
  pub allowed : env.allowed ≡ at.allowed
  pub result : cenv.result ≡ env.result
  pub result_type : (t : ValueType) → env.result ≡ Some t → IsTrue (is_type cenv.core.structs n t)
  pub body : env.in_ensures ≡ false

pub around_here : (n : ℕ) (env : Env) (cenv : around.Env) (at : Point) → Here n env cenv at → Begins ValueType env.locals cenv.locals → Around n env cenv at.scope
around_here n env cenv at h b = record {
  known = h.known;
  locals = λ name l e.
      let s = All-found (Seen env.locals at.scope) (λ (x : Local). same_word x.name name) env.scope l h.scope e in
      record { in_scope = s.in_scope; type = begins_at env.locals cenv.locals l.number l.ty b s.type; usable = All-at (Usable cenv.core.structs n) env.locals l.number l.ty h.types s.type };
  outcome = λ t e g. let no : ⊥ = let k = sym h.body ∙ e in cc in absurd no;
}

-- ---- names

seen_more : (locals : List ValueType) (t : ValueType) (scope : List ℕ) (number : ℕ) (l : Local) → Seen locals scope l → Seen (locals ++ t ∷ []) (number ∷ scope) l
seen_more locals t scope number l s = record {
  in_scope = let i = s.in_scope in (suc i.0, omega (arith, i.1), i.2);
  type = get_front locals (t ∷ []) l.number l.ty s.type;
}

scope_with : (env : Env) (name : Word) (t : ValueType) (scope : List ℕ) → All (Seen env.locals scope) env.scope → All (Seen (env.locals ++ t ∷ []) (next env ∷ scope)) (with_local env name t).scope
scope_with env name t scope h =
    let l : Local = record { name = name; number = next env; ty = t } in
    All-push (Seen (env.locals ++ t ∷ []) (next env ∷ scope)) env.scope l
    (All-weaker (Seen env.locals scope) (Seen (env.locals ++ t ∷ []) (next env ∷ scope)) (seen_more env.locals t scope (next env)) env.scope h)
    (record { in_scope = (zero, omega arith, refl); type = get_next env.locals t [] })

-- with one more local in scope
here_with : (n : ℕ) (env : Env) (cenv : around.Env) (at : Point) (name : Word) (t : ValueType) (count : ℕ) → Here n env cenv at → Usable cenv.core.structs n t → count ≡ at.next + 1
    → Here n (with_local env name t) cenv (record at { scope = next env ∷ at.scope; next = count })
here_with n env cenv at name t count h u e = record {
  known = h.known;
  named = h.named;
  types = All-push (Usable cenv.core.structs n) env.locals t h.types u;
  scope = scope_with env name t at.scope h.scope;
  count = omega (arith, e, h.count, length-append env.locals (t ∷ []));
  allowed = h.allowed;
  result = h.result;
  result_type = h.result_type;
  body = h.body;
}

next_is : (n : ℕ) (env : Env) (cenv : around.Env) (at : Point) (t : ValueType) → Here n env cenv at → Begins ValueType (env.locals ++ t ∷ []) cenv.locals → IsNext cenv at (next env) t
next_is n env cenv at t h b = record { number_is = sym h.count; type = begins_at (env.locals ++ t ∷ []) cenv.locals (length env.locals) t b (get_next env.locals t []) }

-- ---- blocks

seen_later : (before later : List ValueType) (count : ℕ) (scope : List ℕ) → Grown before later count → (l : Local) → Seen before scope l → Seen later scope l
seen_later before later count scope g l s = record { in_scope = s.in_scope; type = ap (λ xs. slice_get xs l.number) g.is ∙ get_front before g.added l.number l.ty s.type }

-- behind a block of so many locals
here_behind : (n : ℕ) (env last : Env) (cenv : around.Env) (at : Point) (count : ℕ) → Here n env cenv at → Grown env.locals last.locals count → All (Usable cenv.core.structs n) last.locals
    → Here n (after_block env last) cenv (record at { next = at.next + count })
here_behind n env last cenv at count h g t = record {
  known = h.known;
  named = h.named;
  types = t;
  scope = All-weaker (Seen env.locals at.scope) (Seen last.locals at.scope) (seen_later env.locals last.locals count at.scope g) env.scope h.scope;
  count = omega (arith, h.count, ap length g.is, length-append env.locals g.added, g.long);
  allowed = h.allowed;
  result = h.result;
  result_type = h.result_type;
  body = h.body;
}

-- with other permissions
here_allowed : (n : ℕ) (env : Env) (cenv : around.Env) (at : Point) (change : Allowed → Allowed) → Here n env cenv at → Here n (record env { allowed = change env.allowed }) cenv (record at { allowed = change at.allowed })
here_allowed n env cenv at change h = record {
  known = h.known;
  named = h.named;
  types = h.types;
  scope = h.scope;
  count = h.count;
  allowed = ap change h.allowed;
  result = h.result;
  result_type = h.result_type;
  body = h.body;
}

-- ---- references

pub reference_is : (t : ValueType) (r : Reference) → reference_of t ≡ Some r → t ≡ types.Ref r.constant r.region r.area
reference_is (types.Ref c s a) r h = ap (λ (x : Reference). types.Ref x.constant x.region x.area) (some_same h)
reference_is types.Truth r h = absurd (cc)
reference_is (types.Int kind) r h = absurd (cc)
reference_is (types.Ix m) r h = absurd (cc)
reference_is (types.Bits k) r h = absurd (cc)

copy_typed : (cenv : around.Env) (at : Point) (c d : ExprCore) → Copies c d → HasType cenv at.scope c (type_of c) → HasType cenv at.scope d (type_of d) → CopyTyped cenv at c d
copy_typed cenv at c d k h g = record {
  area = k.to.area;
  target_region = k.to.region;
  source_region = k.from.region;
  constant = k.from.constant;
  target_is = record { typed = h.typed; type = reference_is (type_of c) k.to k.to_reference ∙ ap (λ b. types.Ref b k.to.region k.to.area) k.mutable };
  source_is = record { typed = g.typed; type = reference_is (type_of d) k.from k.from_reference ∙ ap (types.Ref k.from.constant k.from.region) (sym k.equal) };
}

-- ---- returned values

value_fits : (t u : ValueType) → reference_of t ≡ None → u ≡ t → core_types.Fits t u
value_fits types.Truth u h e = e
value_fits (types.Int kind) u h e = e
value_fits (types.Ix n) u h e = e
value_fits (types.Bits k) u h e = e
value_fits (types.Ref c r a) u h e = absurd (cc)

value_kept : (t u : ValueType) → reference_of t ≡ None → u ≡ t → IsTrue (not (escapes u))
value_kept types.Truth u h e = ap (λ v. not (escapes v)) e
value_kept (types.Int kind) u h e = ap (λ v. not (escapes v)) e
value_kept (types.Ix n) u h e = ap (λ v. not (escapes v)) e
value_kept (types.Bits k) u h e = ap (λ v. not (escapes v)) e
value_kept (types.Ref c r a) u h e = absurd (cc)

record ReferenceReturned (t u : ValueType) : Type 0 where
  fits : core_types.Fits t u
  kept : IsTrue (not (escapes u))

kept_region : (table : Table) (n : ℕ) (c d : Bool) (r : Region) (a b : Area) → IsTrue (is_type table n (types.Ref c r a)) → IsTrue (not (escapes (types.Ref d r b)))
kept_region table n c d Global a b h = refl
kept_region table n c d (Param j) a b h = refl
kept_region table n c d Own a b h = absurd (cc)

reference_returned : (table : Table) (n : ℕ) (t u : ValueType) (wanted given : Reference) → IsTrue (is_type table n t) → reference_of t ≡ Some wanted → reference_of u ≡ Some given → Fits wanted given → ReferenceReturned t u
reference_returned table n t u wanted given h w g f =
    let t_is = reference_is t wanted w in
    let u_is : u ≡ types.Ref given.constant wanted.region wanted.area = reference_is u given g ∙ ap (λ r. types.Ref given.constant r given.area) f.region ∙ ap (types.Ref given.constant wanted.region) f.area in
    let fits : core_types.Fits (types.Ref wanted.constant wanted.region wanted.area) (types.Ref given.constant wanted.region wanted.area) = (refl, refl, f.access) in
    record {
      fits = subst (λ x. core_types.Fits x u) (sym t_is) (subst (core_types.Fits (types.Ref wanted.constant wanted.region wanted.area)) (sym u_is) fits);
      kept = subst (λ x. IsTrue (not (escapes x))) (sym u_is) (kept_region table n wanted.constant given.constant wanted.region wanted.area wanted.area (subst (λ x. IsTrue (is_type table n x)) t_is h));
    }

returns_typed : {env : Env} {o : Option ValueType} {e : Option ExprSyntax} {c : Option ExprCore} → Returns env o e c → (n : ℕ) (cenv : around.Env) (at : Point) → Around n env cenv at.scope
    → ((t : ValueType) → o ≡ Some t → IsTrue (is_type cenv.core.structs n t)) → ReturnTyped cenv at o c
returns_typed stands.nothing n cenv at a h = tt
returns_typed (stands.value {t = t} {c = c} x u) n cenv at a h =
    let f = under_fine u n cenv at.scope a (type_usable cenv.core.structs n t (h t refl)) in
    record { typed = f.typed; fits = value_fits t (type_of c) x f.type; kept = value_kept t (type_of c) x f.type }
returns_typed (stands.reference {t = t} {wanted = wanted} {given = given} {c = c} x hs g f) n cenv at a h =
    let r = reference_returned cenv.core.structs n t (type_of c) wanted given (h t refl) x g f in
    record { typed = (has_fine hs n cenv at.scope a).typed; fits = r.fits; kept = r.kept }

may_init : {env : Env} {area : Area} {i : Option InitSyntax} {c : Option InitCore} → MayFill env area i c → (n : ℕ) (cenv : around.Env) (at : Point) → Around n env cenv at.scope → IsTrue (is_core_area cenv.core.structs area) → MayInit cenv at area c
may_init stands.zero n cenv at a h = tt
may_init (stands.filled fill) n cenv at a h = init_typed fill n cenv at.scope a h

-- ---- statements

-- a statement is well typed, and the place behind it is known
record StmtFine (n : ℕ) (after : Env) (cenv : around.Env) (at : Point) (c : StmtCore) : Type 0 where
  typed : StmtTyped cenv at c
  later : Here n after cenv (around.after c at)

pub record BlockFine (n : ℕ) (last : Env) (cenv : around.Env) (at : Point) (p : StmtsCore) : Type 0 where
  pub typed : StmtsTyped cenv at p
  pub types : All (Usable cenv.core.structs n) last.locals

reached : (b : Bool) (ss : StmtsCore) → b ≡ true → IsTrue (b || is_last ss)
reached true ss h = refl
reached false ss h = let no : ⊥ = cc in absurd no

last_one : (b : Bool) → IsTrue (b || true)
last_one true = refl
last_one false = refl

loop_typed : (n : ℕ) (env : Env) (cenv : around.Env) (at : Point) (m : ℕ) → Here n env cenv at → IsTrue (is_length m) → Begins ValueType (env.locals ++ types.Ix m ∷ []) cenv.locals → LoopTyped cenv at (next env) m
loop_typed n env cenv at m h l b = record { in_range = l; name = next_is n env cenv at (types.Ix m) h b }

-- in a loop with a name
here_counted : (n : ℕ) (env : Env) (cenv : around.Env) (at : Point) (name : Name) (m : ℕ) → Here n env cenv at → IsTrue (is_length m) → Here n (in_counted env name m) cenv (around.within_loop (next env) at)
here_counted n env cenv at name m h l = here_with n (in_loop env) cenv (around.looping at) name.text (types.Ix m) (suc at.next) (here_allowed n env cenv at looped h) l (omega arith)

-- behind a statement without locals
here_same : (n : ℕ) (env : Env) (cenv : around.Env) (at : Point) → Here n env cenv at → Here n env cenv (record at { next = at.next + 0 })
here_same n env cenv at h = record {
  known = h.known;
  named = h.named;
  types = h.types;
  scope = h.scope;
  count = omega (arith, h.count);
  allowed = h.allowed;
  result = h.result;
  result_type = h.result_type;
  body = h.body;
}

mutual
  stmt_fine : {env after : Env} {s : StmtSyntax} {c : StmtCore} → StandsStmt env s after c → FormedStmt s → (n : ℕ) (cenv : around.Env) (at : Point) → Here n env cenv at → Begins ValueType after.locals cenv.locals → StmtFine n after cenv at c
  stmt_fine (stands.let_stands {env = env} {s = s} {name = name} {c = c} x h) f n cenv at k b =
      let a = around_here n env cenv at k (begins_before env.locals _ cenv.locals 1 (stmt_grows (stands.let_stands {env = env} {s = s} {name = name} {c = c} x h)) b) in
      let g = has_fine h n cenv at.scope a in
      record { typed = record { typed = g.typed; settled = has_is_settled h; name = next_is n env cenv at (type_of c) k b }; later = here_with n env cenv at name.text (type_of c) (at.next + 1) k g.usable refl }
  stmt_fine (stands.let_call_stands {env = env} {s = s} {name = name} {t = t} x call) f n cenv at k b =
      let a = around_here n env cenv at k (begins_before env.locals _ cenv.locals 1 (stmt_grows (stands.let_call_stands {env = env} {s = s} {name = name} {t = t} x call)) b) in
      let g = call_fine call n cenv at.scope a in
      record { typed = record { ty = t; value = g.value; name = next_is n env cenv at t k b }; later = here_with n env cenv at name.text t (at.next + 1) k g.usable refl }
  stmt_fine (stands.alloc_stands {env = env} {s = s} {name = name} {text = text} {area = area} may x names fill) f n cenv at k b =
      let a = around_here n env cenv at k (begins_before env.locals _ cenv.locals 1 (stmt_grows (stands.alloc_stands {env = env} {s = s} {name = name} {text = text} {area = area} may x names fill)) b) in
      let there = k.named text area f.0 names in
      record {
        typed = record { allowed = ap (λ (y : Allowed). y.may_alloc) (sym k.allowed) ∙ may; area_is = there; first = may_init fill n cenv at a there; name = next_is n env cenv at (own area) k b };
        later = here_with n env cenv at name.text (own area) (at.next + 1) k (tt, there) refl;
      }
  stmt_fine (stands.store_stands {env = env} {c = c} {d = d} {region = region} {t = t} h q u) f n cenv at k b =
      let a = around_here n env cenv at k b in
      let g = has_fine h n cenv at.scope a in
      let held = held_usable cenv.core.structs n t (subst (Usable cenv.core.structs n) q g.usable).1 in
      let v = under_fine u n cenv at.scope a held in
      record {
        typed = record { region = region; typed = v.typed; target_is = record { typed = g.typed; type = q ∙ ap (λ y. types.Ref false region (types.Stored y)) (sym v.type) } };
        later = here_same n env cenv at k;
      }
  stmt_fine (stands.copy_stands {env = env} {c = c} {d = d} h g copies) f n cenv at k b =
      let a = around_here n env cenv at k b in
      record {
        typed = copy_typed cenv at c d copies (record { typed = (has_fine h n cenv at.scope a).typed; type = refl }) (record { typed = (has_fine g n cenv at.scope a).typed; type = refl });
        later = here_same n env cenv at k;
      }
  stmt_fine (stands.call_stands {env = env} call) f n cenv at k b = record { typed = call_typed call n cenv at.scope (around_here n env cenv at k b); later = here_same n env cenv at k }
  stmt_fine (stands.if_stands {env = env} {last = last} {p = p} u block) f n cenv at k b =
      let g = block_grows block in
      let a = around_here n env cenv at k (begins_before env.locals last.locals cenv.locals (all_locals p) g b) in
      let body = block_fine block f.1 n cenv at k b in
      record { typed = (under_fine u n cenv at.scope a tt, body.typed); later = here_behind n env last cenv at (all_locals p) k g body.types }
  stmt_fine (stands.if_else_stands {env = env} {last = last} {end = end} {s = s} {p = p} {q = q} u first second) f n cenv at k b =
      let g = block_grows first in
      let e = block_grows second in
      let b_first = begins_before last.locals end.locals cenv.locals (all_locals q) e b in
      let a = around_here n env cenv at k (begins_before env.locals last.locals cenv.locals (all_locals p) g b_first) in
      let body = block_fine first f.1 n cenv at k b_first in
      let middle = here_behind n env last cenv at (all_locals p) k g body.types in
      let more = block_fine second f.2 n cenv (around.skipping (all_locals p) at) middle b in
      record {
        typed = (under_fine u n cenv at.scope a tt, body.typed, more.typed);
        later = here_behind n env end cenv at (all_locals p + all_locals q) k (stmt_grows (stands.if_else_stands {env = env} {last = last} {end = end} {s = s} {p = p} {q = q} u first second)) more.types;
      }
  stmt_fine (stands.map_stands {env = env} {last = last} {s = s} {name = name} {n = m} {p = p} x l block) f n cenv at k b =
      let g = block_grows block in
      let body = block_fine block f n cenv (around.within_loop (next env) at) (here_counted n env cenv at name m k l) b in
      record {
        typed = (loop_typed n env cenv at m k l (begins_before (env.locals ++ types.Ix m ∷ []) last.locals cenv.locals (all_locals p) g b), body.typed);
        later = here_behind n env last cenv at (1 + all_locals p) k (stmt_grows (stands.map_stands {env = env} {last = last} {s = s} {name = name} {n = m} {p = p} x l block)) body.types;
      }
  stmt_fine (stands.upto_stands {env = env} {last = last} {s = s} {name = name} {n = m} {p = p} x l u block) f n cenv at k b =
      let g = block_grows block in
      let inner = begins_before (env.locals ++ types.Ix m ∷ []) last.locals cenv.locals (all_locals p) g b in
      let whole = stmt_grows (stands.upto_stands {env = env} {last = last} {s = s} {name = name} {n = m} {p = p} x l u block) in
      let a = around_here n env cenv at k (begins_before env.locals last.locals cenv.locals (1 + all_locals p) whole b) in
      let body = block_fine block f.1 n cenv (around.within_loop (next env) at) (here_counted n env cenv at name m k l) b in
      record { typed = (loop_typed n env cenv at m k l inner, under_fine u n cenv at.scope a l, body.typed); later = here_behind n env last cenv at (1 + all_locals p) k whole body.types }
  stmt_fine (stands.downto_stands {env = env} {last = last} {s = s} {name = name} {n = m} {p = p} x l u block) f n cenv at k b =
      let g = block_grows block in
      let inner = begins_before (env.locals ++ types.Ix m ∷ []) last.locals cenv.locals (all_locals p) g b in
      let whole = stmt_grows (stands.downto_stands {env = env} {last = last} {s = s} {name = name} {n = m} {p = p} x l u block) in
      let a = around_here n env cenv at k (begins_before env.locals last.locals cenv.locals (1 + all_locals p) whole b) in
      let body = block_fine block f.1 n cenv (around.within_loop (next env) at) (here_counted n env cenv at name m k l) b in
      record { typed = (loop_typed n env cenv at m k l inner, under_fine u n cenv at.scope a l, body.typed); later = here_behind n env last cenv at (1 + all_locals p) k whole body.types }
  stmt_fine (stands.forever_stands {env = env} {last = last} {p = p} block) f n cenv at k b =
      let body = block_fine block f n cenv (around.looping at) (here_allowed n env cenv at looped k) b in
      record { typed = body.typed; later = here_behind n env last cenv at (all_locals p) k (block_grows block) body.types }
  stmt_fine (stands.break_stands {env = env} may) f n cenv at k b = record { typed = ap (λ (y : Allowed). y.may_break) (sym k.allowed) ∙ may; later = here_same n env cenv at k }
  stmt_fine (stands.return_stands {env = env} {c = c} may returns) f n cenv at k b =
      record {
        typed = (ap (λ (y : Allowed). y.may_return) (sym k.allowed) ∙ may, subst (λ o. ReturnTyped cenv at o c) (sym k.result) (returns_typed returns n cenv at (around_here n env cenv at k b) k.result_type));
        later = here_same n env cenv at k;
      }
  stmt_fine (stands.assert_stands {env = env} u m) f n cenv at k b = record { typed = (under_fine u n cenv at.scope (around_here n env cenv at k b) tt, m.0); later = here_same n env cenv at k }
  stmt_fine (stands.no_alloc_stands {env = env} {last = last} {p = p} block) f n cenv at k b =
      let body = block_fine block f n cenv _ (here_allowed n env cenv at (λ y. narrowed y narrowing.NoAlloc) k) b in
      record { typed = body.typed; later = here_behind n env last cenv at (all_locals p) k (block_grows block) body.types }
  stmt_fine (stands.no_break_stands {env = env} {last = last} {p = p} block) f n cenv at k b =
      let body = block_fine block f n cenv _ (here_allowed n env cenv at (λ y. narrowed y narrowing.NoBreak) k) b in
      record { typed = body.typed; later = here_behind n env last cenv at (all_locals p) k (block_grows block) body.types }
  stmt_fine (stands.no_return_stands {env = env} {last = last} {p = p} block) f n cenv at k b =
      let body = block_fine block f n cenv _ (here_allowed n env cenv at (λ y. narrowed y narrowing.NoReturn) k) b in
      record { typed = body.typed; later = here_behind n env last cenv at (all_locals p) k (block_grows block) body.types }

  pub block_fine : {env last : Env} {b : BlockSyntax} {p : StmtsCore} → StandsBlock env b last p → FormedBlock b → (n : ℕ) (cenv : around.Env) (at : Point) → Here n env cenv at → Begins ValueType last.locals cenv.locals → BlockFine n last cenv at p
  block_fine (stands.braces all) f n cenv at k b = all_fine all f n cenv at k b

  all_fine : {env last : Env} {ss : StmtsSyntax} {p : StmtsCore} → StandAll env ss last p → FormedStmts ss → (n : ℕ) (cenv : around.Env) (at : Point) → Here n env cenv at → Begins ValueType last.locals cenv.locals → BlockFine n last cenv at p
  all_fine stands.none_stand f n cenv at k b = record { typed = tt; types = k.types }
  all_fine (stands.last_stands {c = c} h) f n cenv at k b =
      let s = stmt_fine h f.0 n cenv at k b in
      record { typed = (s.typed, last_one (stmt_falls c), tt); types = s.later.types }
  all_fine (stands.more_stand {after = after} {end = end} {c = c} {p = p} h falls more) f n cenv at k b =
      let s = stmt_fine h f.0 n cenv at k (begins_before after.locals end.locals cenv.locals (all_locals p) (all_grow more) b) in
      let r = all_fine more f.1 n cenv (around.after c at) s.later b in
      record { typed = (s.typed, reached (stmt_falls c) p (falls_same h ∙ falls), r.typed); types = r.types }

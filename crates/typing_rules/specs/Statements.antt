-- Which statements stand, what is known after each, and its core.
use Rattle.std.specs.Prelude.{◌≡◌, ℕ, true, false, Option, Some, None, IsTrue}
use Rattle.iv_words.specs.declared.Name.{Name}
use Rattle.iv_words.specs.declared.Span.{Span}
use Rattle.ivory_tree.specs.Syntax as syntax
use Rattle.ivory_tree.specs.Syntax.{ExprSyntax, AreaSyntax, InitSyntax, CallSyntax, StmtSyntax, BlockSyntax, StmtsSyntax}
use Rattle.area_types.specs.Syntax as types
use Rattle.area_types.specs.Syntax.{ValueType, Area, Ix, Ref}
use Rattle.area_types.specs.Tables.{is_length}
use Rattle.area_types.specs.declared.region.Region.{Region}
use Rattle.area_types.specs.declared.region.Region.TheVariants.{Own}
use Rattle.region_check.specs.Calls.{Reference, reference_of, may_stand_for}
use Rattle.alloc_effects.specs.declared.allowed.Narrowing.{Narrowing}
use Rattle.alloc_effects.specs.declared.allowed.Narrowing.TheVariants as narrowing
use Rattle.alloc_effects.specs.Permissions.{narrowed, looped}
use Rattle.control_effects.specs.Falling.{stmt_falls}
use Rattle.core_tree.specs.Syntax as core
use Rattle.core_tree.specs.Syntax.{ExprCore, InitCore, CallCore, StmtCore, StmtsCore, type_of}
use Rattle.core_tree.specs.declared.Check.{Check}
use Rattle.core_tree.specs.declared.SiteKind.{SiteKind}
use Rattle.core_tree.specs.declared.SiteKind.TheVariants as site
use Rattle.typing_rules.specs.Environments.{Env, is_free, next, with_local, after_block}
use Rattle.typing_rules.specs.Sites.{first_token}
use Rattle.typing_rules.specs.Expressions.{Has, Under}
use Rattle.typing_rules.specs.Calls.{Calls}
use Rattle.typing_rules.specs.Areas.{NamesArea}
use Rattle.typing_rules.specs.Initializers.{Fills}

-- one check at a token, whatever its number is
abbrev pub Marks : Check → SiteKind → Span → Type 0
Marks check kind at = (check.kind ≡ kind) × (check.span ≡ at)

-- the name of an `alloc` is a reference to it
abbrev pub own : Area → ValueType
own area = Ref false Own area

abbrev pub without : Env → Narrowing → Env
without env by = record env { allowed = narrowed env.allowed by }

-- in the body of a loop; a counted one has a name, which is an index
abbrev pub in_loop : Env → Env
in_loop env = record env { allowed = looped env.allowed }

abbrev pub in_counted : Env → Name → ℕ → Env
in_counted env name n = with_local (in_loop env) name.text (Ix n)

-- a copy goes from an area to an equal one, which is not const
pub record Copies (target source : ExprCore) : Type 0 where
  pub to : Reference
  pub from : Reference
  pub to_reference : reference_of (type_of target) ≡ Some to
  pub from_reference : reference_of (type_of source) ≡ Some from
  pub mutable : to.constant ≡ false
  pub equal : to.area ≡ from.area

-- a returned reference has the region and the area of the result, and is mutable where that is
pub record Fits (wanted given : Reference) : Type 0 where
  pub region : given.region ≡ wanted.region
  pub area : given.area ≡ wanted.area
  pub access : IsTrue (may_stand_for given.constant wanted.constant)

-- an initializer, where there is one
pub data MayFill (env : Env) (area : Area) : Option InitSyntax → Option InitCore → Type 0 where
  zero : MayFill env area None None
  filled : {i : InitSyntax} {c : InitCore} → Fills env area i c → MayFill env area (Some i) (Some c)

-- the value of a `return`, where the result is of this type
pub data Returns (env : Env) : Option ValueType → Option ExprSyntax → Option ExprCore → Type 0 where
  nothing : Returns env None None None
  value : {t : ValueType} {e : ExprSyntax} {c : ExprCore} → reference_of t ≡ None → Under env t e c → Returns env (Some t) (Some e) (Some c)
  reference : {t : ValueType} {wanted given : Reference} {e : ExprSyntax} {c : ExprCore} → reference_of t ≡ Some wanted → Has env e c → reference_of (type_of c) ≡ Some given → Fits wanted given
      → Returns env (Some t) (Some e) (Some c)

mutual
  pub data StandsStmt : Env → StmtSyntax → Env → StmtCore → Type 0 where
    let_stands : {env : Env} {s : Span} {name : Name} {e : ExprSyntax} {c : ExprCore} → is_free env name.text ≡ true → Has env e c → StandsStmt env (syntax.Let s name e) (with_local env name.text (type_of c)) (core.Let (next env) c)
    let_call_stands : {env : Env} {s : Span} {name : Name} {call : CallSyntax} {c : CallCore} {t : ValueType} → is_free env name.text ≡ true → Calls env call c (Some t)
        → StandsStmt env (syntax.LetCall s name call) (with_local env name.text t) (core.LetCall (next env) c)
    alloc_stands : {env : Env} {s : Span} {name : Name} {text : AreaSyntax} {area : Area} {init : Option InitSyntax} {c : Option InitCore} → env.allowed.may_alloc ≡ true → is_free env name.text ≡ true → NamesArea env.earlier text area
        → MayFill env area init c → StandsStmt env (syntax.Alloc s name text init) (with_local env name.text (own area)) (core.Alloc (next env) area c)
    store_stands : {env : Env} {s : Span} {target value : ExprSyntax} {c d : ExprCore} {region : Region} {t : ValueType} → Has env target c → type_of c ≡ Ref false region (types.Stored t) → Under env t value d
        → StandsStmt env (syntax.Store s target value) env (core.Store c d)
    copy_stands : {env : Env} {s : Span} {target source : ExprSyntax} {c d : ExprCore} → Has env target c → Has env source d → Copies c d → StandsStmt env (syntax.Copy s target source) env (core.Copy c d)
    -- a result may be dropped
    call_stands : {env : Env} {s : Span} {call : CallSyntax} {c : CallCore} {result : Option ValueType} → Calls env call c result → StandsStmt env (syntax.Call s call) env (core.Call c)
    if_stands : {env last : Env} {s : Span} {test : ExprSyntax} {first : BlockSyntax} {c : ExprCore} {p : StmtsCore} → Under env types.Truth test c → StandsBlock env first last p
        → StandsStmt env (syntax.If s test first) (after_block env last) (core.If c p)
    if_else_stands : {env last end : Env} {s : Span} {test : ExprSyntax} {first second : BlockSyntax} {c : ExprCore} {p q : StmtsCore} → Under env types.Truth test c → StandsBlock env first last p
        → StandsBlock (after_block env last) second end q → StandsStmt env (syntax.IfElse s test first second) (after_block env end) (core.IfElse c p q)
    map_stands : {env last : Env} {s : Span} {name : Name} {n : ℕ} {body : BlockSyntax} {p : StmtsCore} → is_free env name.text ≡ true → IsTrue (is_length n) → StandsBlock (in_counted env name n) body last p
        → StandsStmt env (syntax.Map s name n body) (after_block env last) (core.Map (next env) n p)
    upto_stands : {env last : Env} {s : Span} {name : Name} {n : ℕ} {bound : ExprSyntax} {body : BlockSyntax} {c : ExprCore} {p : StmtsCore} → is_free env name.text ≡ true → IsTrue (is_length n) → Under env (Ix n) bound c
        → StandsBlock (in_counted env name n) body last p → StandsStmt env (syntax.Upto s name n bound body) (after_block env last) (core.Upto (next env) n c p)
    downto_stands : {env last : Env} {s : Span} {name : Name} {n : ℕ} {bound : ExprSyntax} {body : BlockSyntax} {c : ExprCore} {p : StmtsCore} → is_free env name.text ≡ true → IsTrue (is_length n) → Under env (Ix n) bound c
        → StandsBlock (in_counted env name n) body last p → StandsStmt env (syntax.Downto s name n bound body) (after_block env last) (core.Downto (next env) n c p)
    forever_stands : {env last : Env} {s : Span} {body : BlockSyntax} {p : StmtsCore} → StandsBlock (in_loop env) body last p → StandsStmt env (syntax.Forever s body) (after_block env last) (core.Forever p)
    break_stands : {env : Env} {s : Span} → env.allowed.may_break ≡ true → StandsStmt env (syntax.Break s) env core.Break
    return_stands : {env : Env} {s : Span} {value : Option ExprSyntax} {c : Option ExprCore} → env.allowed.may_return ≡ true → Returns env env.result value c → StandsStmt env (syntax.Return s value) env (core.Return c)
    assert_stands : {env : Env} {s : Span} {cond : ExprSyntax} {c : ExprCore} {check : Check} → Under env types.Truth cond c → Marks check site.Assert (first_token s 6) → StandsStmt env (syntax.Assert s cond) env (core.Assert c check)
    no_alloc_stands : {env last : Env} {s : Span} {body : BlockSyntax} {p : StmtsCore} → StandsBlock (without env narrowing.NoAlloc) body last p → StandsStmt env (syntax.NoAlloc s body) (after_block env last) (core.NoAlloc p)
    no_break_stands : {env last : Env} {s : Span} {body : BlockSyntax} {p : StmtsCore} → StandsBlock (without env narrowing.NoBreak) body last p → StandsStmt env (syntax.NoBreak s body) (after_block env last) (core.NoBreak p)
    no_return_stands : {env last : Env} {s : Span} {body : BlockSyntax} {p : StmtsCore} → StandsBlock (without env narrowing.NoReturn) body last p → StandsStmt env (syntax.NoReturn s body) (after_block env last) (core.NoReturn p)

  -- with what is known at its end
  pub data StandsBlock : Env → BlockSyntax → Env → StmtsCore → Type 0 where
    braces : {env last : Env} {s : Span} {stmts : StmtsSyntax} {p : StmtsCore} → StandAll env stmts last p → StandsBlock env (syntax.Braces s stmts) last p

  pub data StandAll : Env → StmtsSyntax → Env → StmtsCore → Type 0 where
    none_stand : {env : Env} → StandAll env syntax.NoStmts env core.NoStmts
    last_stands : {env after : Env} {s : StmtSyntax} {c : StmtCore} → StandsStmt env s after c → StandAll env (syntax.MoreStmts s syntax.NoStmts) after (core.MoreStmts c core.NoStmts)
    -- the next one is reached
    more_stand : {env after end : Env} {s next_one : StmtSyntax} {rest : StmtsSyntax} {c : StmtCore} {p : StmtsCore} → StandsStmt env s after c → stmt_falls s ≡ true → StandAll after (syntax.MoreStmts next_one rest) end p
        → StandAll env (syntax.MoreStmts s (syntax.MoreStmts next_one rest)) end (core.MoreStmts c p)

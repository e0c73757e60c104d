-- The cores of calls, initializers and statements, with 0 for the numbers of their checks, and what is known after a statement: as functions of
-- the text.
use Rattle.std.specs.Prelude.{false, List, [], ◌∷◌, Option, Some, None, unwrap_or, slice_get}
use Rattle.iv_words.specs.declared.Span.{Span}
use Rattle.ivory_tree.specs.Syntax as syntax
use Rattle.ivory_tree.specs.Syntax.{ExprSyntax, InitSyntax, InitsSyntax, CallSyntax, StmtSyntax, BlockSyntax, StmtsSyntax}
use Rattle.area_types.specs.Syntax as types
use Rattle.area_types.specs.Syntax.{ValueType, Area, StructType}
use Rattle.alloc_effects.specs.declared.allowed.Narrowing.TheVariants as narrowing
use Rattle.core_tree.specs.Syntax as core
use Rattle.core_tree.specs.Syntax.{ExprCore, InitCore, InitsCore, CallCore, StmtCore, StmtsCore, type_of}
use Rattle.core_tree.specs.declared.Check.{Check}
use Rattle.core_tree.specs.declared.SiteKind.TheVariants as site
use Rattle.source_types.specs.Environments.{Callee, callee_named}
use Rattle.source_types.specs.Parts.{stored_type}
use Rattle.source_types.specs.Written.{area_in}
use Rattle.rule_faults.specs.StatementRows.{call_type}
use Rattle.typing_rules.specs.Environments.{Env, with_local, next, after_block, callee_number}
use Rattle.typing_rules.specs.Contexts.{context_of}
use Rattle.typing_rules.specs.Sites.{first_token}
use Rattle.typing_rules.specs.Statements.{own, in_loop, in_counted, without}
use Rattle.typing_rules.specs.ExpressionCores.{any_type, type_or, number_or, length_or, core_of}

-- ---- calls

abbrev pub args_core : Env → List (Option ValueType) → List ExprSyntax → List ExprCore
args_core env [] args = []
args_core env (p ∷ params) [] = []
args_core env (p ∷ params) (e ∷ args) = core_of env (type_or p) e ∷ args_core env params args

abbrev pub callee_core : Env → Option Callee → List ExprSyntax → CallCore
callee_core env None args = record { import = false; callee = 0; args = [] }
callee_core env (Some c) args = record { import = c.import; callee = number_or (callee_number env.earlier c); args = args_core env c.params args }

abbrev pub call_core : Env → CallSyntax → CallCore
call_core env call = callee_core env (callee_named env.earlier call.name.text) call.args

-- ---- initializers

abbrev pub fields_of : Option StructType → List types.Field
fields_of None = []
fields_of (Some s) = s.fields

abbrev mutual
  pub init_core : Env → Area → InitSyntax → InitCore
  init_core env (types.Stored t) (syntax.One e) = core.One (core_of env t e)
  init_core env (types.Array n element) (syntax.One e) = core.One (core_of env any_type e)
  init_core env (types.Struct k) (syntax.One e) = core.One (core_of env any_type e)
  init_core env (types.Stored t) (syntax.Many s inits) = core.Many core.NoInits
  init_core env (types.Array n element) (syntax.Many s inits) = core.Many (elements_core env element inits)
  init_core env (types.Struct k) (syntax.Many s inits) = core.Many (fields_core env (fields_of (slice_get env.earlier.structs k)) inits)

  pub elements_core : Env → Area → InitsSyntax → InitsCore
  elements_core env element syntax.NoInits = core.NoInits
  elements_core env element (syntax.MoreInits i is) = core.MoreInits (init_core env element i) (elements_core env element is)

  pub fields_core : Env → List types.Field → InitsSyntax → InitsCore
  fields_core env fields syntax.NoInits = core.NoInits
  fields_core env [] (syntax.MoreInits i is) = core.NoInits
  fields_core env (f ∷ fields) (syntax.MoreInits i is) = core.MoreInits (init_core env f.area i) (fields_core env fields is)

-- ---- statements

abbrev pub area_or : Option Area → Area
area_or o = unwrap_or o (types.Stored any_type)

abbrev pub maybe_init_core : Env → Area → Option InitSyntax → Option InitCore
maybe_init_core env area None = None
maybe_init_core env area (Some i) = Some (init_core env area i)

abbrev pub value_core : Env → Option ExprSyntax → Option ExprCore
value_core env None = None
value_core env (Some e) = Some (core_of env (type_or env.result) e)

abbrev pub assert_at : Span → Check
assert_at s = record { site = 0; kind = site.Assert; span = first_token s 6 }

abbrev mutual
  pub stmt_after : Env → StmtSyntax → Env
  stmt_after env (syntax.Let s name e) = with_local env name.text (type_of (core_of env any_type e))
  stmt_after env (syntax.LetCall s name call) = with_local env name.text (type_or (call_type (context_of env) call))
  stmt_after env (syntax.Alloc s name text init) = with_local env name.text (own (area_or (area_in env.earlier text)))
  stmt_after env (syntax.Store s target value) = env
  stmt_after env (syntax.Copy s target source) = env
  stmt_after env (syntax.Call s call) = env
  stmt_after env (syntax.If s test first) = after_block env (block_last env first)
  stmt_after env (syntax.IfElse s test first second) = after_block env (block_last (after_block env (block_last env first)) second)
  stmt_after env (syntax.Map s name n body) = after_block env (block_last (in_counted env name (length_or n)) body)
  stmt_after env (syntax.Upto s name n bound body) = after_block env (block_last (in_counted env name (length_or n)) body)
  stmt_after env (syntax.Downto s name n bound body) = after_block env (block_last (in_counted env name (length_or n)) body)
  stmt_after env (syntax.Forever s body) = after_block env (block_last (in_loop env) body)
  stmt_after env (syntax.Break s) = env
  stmt_after env (syntax.Return s value) = env
  stmt_after env (syntax.Assert s cond) = env
  stmt_after env (syntax.NoAlloc s body) = after_block env (block_last (without env narrowing.NoAlloc) body)
  stmt_after env (syntax.NoBreak s body) = after_block env (block_last (without env narrowing.NoBreak) body)
  stmt_after env (syntax.NoReturn s body) = after_block env (block_last (without env narrowing.NoReturn) body)

  pub block_last : Env → BlockSyntax → Env
  block_last env (syntax.Braces s stmts) = stmts_last env stmts

  pub stmts_last : Env → StmtsSyntax → Env
  stmts_last env syntax.NoStmts = env
  stmts_last env (syntax.MoreStmts s ss) = stmts_last (stmt_after env s) ss

abbrev mutual
  pub stmt_core : Env → StmtSyntax → StmtCore
  stmt_core env (syntax.Let s name e) = core.Let (next env) (core_of env any_type e)
  stmt_core env (syntax.LetCall s name call) = core.LetCall (next env) (call_core env call)
  stmt_core env (syntax.Alloc s name text init) = core.Alloc (next env) (area_or (area_in env.earlier text)) (maybe_init_core env (area_or (area_in env.earlier text)) init)
  stmt_core env (syntax.Store s target value) = core.Store (core_of env any_type target) (core_of env (type_or (stored_type (type_of (core_of env any_type target)))) value)
  stmt_core env (syntax.Copy s target source) = core.Copy (core_of env any_type target) (core_of env any_type source)
  stmt_core env (syntax.Call s call) = core.Call (call_core env call)
  stmt_core env (syntax.If s test first) = core.If (core_of env types.Truth test) (block_core env first)
  stmt_core env (syntax.IfElse s test first second) = core.IfElse (core_of env types.Truth test) (block_core env first) (block_core (after_block env (block_last env first)) second)
  stmt_core env (syntax.Map s name n body) = core.Map (next env) (length_or n) (block_core (in_counted env name (length_or n)) body)
  stmt_core env (syntax.Upto s name n bound body) = core.Upto (next env) (length_or n) (core_of env (types.Ix (length_or n)) bound) (block_core (in_counted env name (length_or n)) body)
  stmt_core env (syntax.Downto s name n bound body) = core.Downto (next env) (length_or n) (core_of env (types.Ix (length_or n)) bound) (block_core (in_counted env name (length_or n)) body)
  stmt_core env (syntax.Forever s body) = core.Forever (block_core (in_loop env) body)
  stmt_core env (syntax.Break s) = core.Break
  stmt_core env (syntax.Return s value) = core.Return (value_core env value)
  stmt_core env (syntax.Assert s cond) = core.Assert (core_of env types.Truth cond) (assert_at s)
  stmt_core env (syntax.NoAlloc s body) = core.NoAlloc (block_core (without env narrowing.NoAlloc) body)
  stmt_core env (syntax.NoBreak s body) = core.NoBreak (block_core (without env narrowing.NoBreak) body)
  stmt_core env (syntax.NoReturn s body) = core.NoReturn (block_core (without env narrowing.NoReturn) body)

  pub block_core : Env → BlockSyntax → StmtsCore
  block_core env (syntax.Braces s stmts) = stmts_core env stmts

  pub stmts_core : Env → StmtsSyntax → StmtsCore
  stmts_core env syntax.NoStmts = core.NoStmts
  stmts_core env (syntax.MoreStmts s ss) = core.MoreStmts (stmt_core env s) (stmts_core (stmt_after env s) ss)

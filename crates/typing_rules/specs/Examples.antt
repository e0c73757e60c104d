-- A small module with its core, and what is not well typed.
use Rattle.std.specs.Prelude.{◌≡◌, ℤ, pos, true, false, [], ◌∷◌, Option, Some, None, codes}
use Rattle.iv_words.specs.declared.IntKind.TheVariants.{U8}
use Rattle.iv_words.specs.declared.Span.{Span}
use Rattle.ivory_tree.specs.Syntax as syntax
use Rattle.ivory_tree.specs.Syntax.{ExprSyntax, CallSyntax, StmtSyntax, StmtsSyntax, HeaderSyntax, ProcSyntax, ModuleSyntax}
use Rattle.ivory_tree.specs.declared.expr.BinOp.TheVariants.{Add, Mul}
use Rattle.area_types.specs.Syntax.{ValueType, Area, Stored, Int, Ix, Ref}
use Rattle.area_types.specs.declared.region.Region.TheVariants.{Global, Param, Own}
use Rattle.core_tree.specs.Syntax as core
use Rattle.core_tree.specs.Syntax.{Label, ExprCore, CallCore, StmtCore, StmtsCore, ModuleCore, type_of}
use Rattle.core_tree.specs.declared.SiteKind.TheVariants as site
use Rattle.source_types.specs.Short.{span, name, byte, variable, block, param, header, module_m}
use Rattle.source_types.specs.Environments.{nothing_earlier, callee_named}
use Rattle.typing_rules.specs.Environments.{Env}
use Rattle.typing_rules.specs.Sites.{unchecked}
use Rattle.typing_rules.specs.Wholes.{is_chain_prefix}
use Rattle.typing_rules.specs.Expressions.{Has, Under}
use Rattle.typing_rules.specs.Calls.{Calls}
use Rattle.typing_rules.specs.Statements.{Returns, StandsStmt, StandAll}
use Rattle.typing_rules.specs.Items.{writes_plain}
use Rattle.typing_rules.specs.WellTyped.{Stands}

-- `a + b`, whose operator carries check 0
abbrev pub sum : ExprSyntax
sum = syntax.Binary (span 72 77) Add (span 74 75) (variable (codes "a") 72 73) (variable (codes "b") 76 77)

abbrev pub sum_label : Label
sum_label = record { ty = Int U8; checks = record { site = 0; kind = site.Overflow; span = span 74 75 } ∷ [] }

abbrev pub sum_core : ExprCore
sum_core = core.Whole (unchecked (Int U8)) (core.Binary sum_label Add (core.Local (unchecked (Int U8)) 0) (core.Local (unchecked (Int U8)) 1))

-- `module m;` / `export proc f(a : uint8_t, b : uint8_t) -> uint8_t {` / `  return a + b;` / `}`
abbrev pub added_header : HeaderSyntax
added_header = header (name (codes "f") 22 23) (param (name (codes "a") 24 25) (byte 28 35) 24 35 ∷ param (name (codes "b") 37 38) (byte 41 48) 37 48 ∷ []) (Some (byte 53 60)) 22 60

abbrev pub added_proc : ProcSyntax
added_proc = record { exported = true; header = added_header; contracts = []; body = block 61 80 (syntax.Return (span 65 78) (Some sum) ∷ []); span = span 10 80 }

abbrev pub added : ModuleSyntax
added = module_m (syntax.Procedure added_proc ∷ []) 80

abbrev pub added_core : ModuleCore
added_core = record {
  structs = record { structs = []; words = [] };
  layouts = [];
  areas = [];
  imports = [];
  procs = record {
    name = codes "f";
    exported = true;
    params = record { name = codes "a"; ty = Int U8 } ∷ record { name = codes "b"; ty = Int U8 } ∷ [];
    result = Some (Int U8);
    contracts = [];
    locals = Int U8 ∷ Int U8 ∷ [];
    body = core.MoreStmts (core.Return (Some sum_core)) core.NoStmts;
  } ∷ [];
}

abbrev pub AddedStands : Type 0
AddedStands = Stands added added_core

-- no literal has a type by itself, and none has a type that does not hold it
abbrev pub LiteralsWantTypes : Type 0
LiteralsWantTypes = (env : Env) (s : Span) (v : ℤ) (c : ExprCore) → Has env (syntax.Literal s v) c → ⊥

abbrev pub LiteralsFit : Type 0
LiteralsFit = (env : Env) (s : Span) (c : ExprCore) → Under env (Int U8) (syntax.Literal s (pos 256)) c → ⊥

-- a reference to an area of the procedure's own is not returned
abbrev pub OwnStays : Type 0
OwnStays = (env : Env) (area : Area) (e : ExprSyntax) (c : ExprCore) → type_of c ≡ Ref false Own area → Returns env (Some (Ref false (Param 0) area)) (Some e) (Some c) → ⊥

-- a break needs its permission
abbrev pub BreaksAreAllowed : Type 0
BreaksAreAllowed = (env after : Env) (s : Span) (c : StmtCore) → env.allowed.may_break ≡ false → StandsStmt env (syntax.Break s) after c → ⊥

-- nothing stands after a return
abbrev pub ReturnsEnd : Type 0
ReturnsEnd = (env last : Env) (s : Span) (next_one : StmtSyntax) (rest : StmtsSyntax) (p : StmtsCore) → StandAll env (syntax.MoreStmts (syntax.Return s None) (syntax.MoreStmts next_one rest)) last p → ⊥

-- what is called is earlier
abbrev pub CallsGoBack : Type 0
CallsGoBack = (env : Env) (call : CallSyntax) (c : CallCore) (result : Option ValueType) → callee_named env.earlier call.name.text ≡ None → Calls env call c result → ⊥

-- in `a + b + c` the sum `a + b` is a prefix of the chain; in `(a + b) + c` and in `a * b + c` it is a chain of its own
abbrev pub PrefixesAreTold : Type 0
PrefixesAreTold = (at : Span) (a b : ExprSyntax) → (is_chain_prefix (span 0 9) Add (syntax.Binary (span 0 5) Add at a b) ≡ true) × (is_chain_prefix (span 0 11) Add (syntax.Binary (span 1 6) Add at a b) ≡ false)
    × (is_chain_prefix (span 0 9) Add (syntax.Binary (span 0 5) Mul at a b) ≡ false)

-- an import writes no index through a reference, since it may write any number
abbrev pub IndicesAreNotWritten : Type 0
IndicesAreNotWritten = writes_plain nothing_earlier (Ref false Global (Stored (Ix 3))) ≡ false

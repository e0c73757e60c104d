-- Small cores: one that is valid, and three that are not; and how a chain nests.
use Rattle.std.specs.Prelude.{◌≡◌, ℕ, ◌+◌, pos, true, false, List, [], ◌∷◌, Option, Some, None}
use Rattle.iv_words.specs.declared.kind.IntKind.TheVariants.{U8}
use Rattle.ivory_tree.specs.declared.expr.BinOp.TheVariants as op
use Rattle.area_types.specs.Syntax as types
use Rattle.area_types.specs.Syntax.{ValueType}
use Rattle.area_types.specs.declared.region.Region.TheVariants as region
use Rattle.core_tree.specs.declared.check.Check.{Check}
use Rattle.core_tree.specs.declared.check.SiteKind.{SiteKind}
use Rattle.core_tree.specs.declared.check.SiteKind.TheVariants as kind
use Rattle.core_tree.specs.Syntax.{Label, ExprCore, Number, Local, Binary, Field, Element, Whole, StmtCore, Alloc, Call, Return, StmtsCore, NoStmts, MoreStmts, ParamCore, ProcCore, ModuleCore}
use Rattle.core_tree.specs.View.{LinkCore, FieldStep, IndexStep, linked, stepped}
use Rattle.core_tree.specs.Sites.{AreSitesOf}
use Rattle.core_tree.specs.Valid.{ValidCore}

-- where nothing is checked
abbrev pub plain : ValueType → Label
plain ty = record { ty = ty; checks = [] }

-- ---- chains and postfixes

-- a number with its label, behind a link with another one
abbrev pub link : (link operand : Label) → ℕ → LinkCore
link l operand value = record { label = l; op = op.Add; right = Number operand (pos value) }

-- `1 + 2 + 3` is `(1 + 2) + 3`, each operator with the label of its own link
abbrev pub ChainsNestLeft : Type 0
ChainsNestLeft = (k l m : Label) → linked (Number k (pos 1)) (link l k 2 ∷ link m k 3 ∷ []) ≡ Binary m op.Add (Binary l op.Add (Number k (pos 1)) (Number k (pos 2))) (Number k (pos 3))

-- `e.f[i]` is `(e.f)[i]`, each part with the type of its own step and without a check
abbrev pub PostfixesNestLeft : Type 0
PostfixesNestLeft = (e i : ExprCore) (t u : ValueType) → stepped e (FieldStep t 0 ∷ IndexStep u i ∷ []) ≡ Element (plain u) (Field (plain t) e 0) i

-- ---- cores of one module

abbrev pub u8 : ValueType
u8 = types.Int U8

-- the sum that is site k, with its operator at the byte
abbrev pub sum_at : (k at : ℕ) → (left right : ExprCore) → ExprCore
sum_at k at left right = Binary (record { ty = u8; checks = record { site = k; kind = kind.Overflow; span = record { start = at; end = at + 1 } } ∷ [] }) op.Add left right

abbrev pub one : StmtCore → StmtsCore
one s = MoreStmts s NoStmts

abbrev pub procs : List ProcCore → ModuleCore
procs ps = record { structs = record { structs = []; words = [] }; layouts = []; areas = []; imports = []; procs = ps }

-- a procedure of this name (a byte) without parameters, exported, contracts and locals
abbrev pub proc : ℕ → StmtsCore → ProcCore
proc name body = record { name = name ∷ []; exported = false; params = []; result = None; contracts = []; locals = []; body = body }

abbrev pub param : ℕ → ParamCore
param name = record { name = name ∷ []; ty = u8 }

-- `export proc f(a: uint8_t, b: uint8_t) -> uint8_t { BODY }`
abbrev pub adder : StmtsCore → ModuleCore
adder body = procs (record { name = 102 ∷ []; exported = true; params = param 97 ∷ param 98 ∷ []; result = Some u8; contracts = []; locals = u8 ∷ u8 ∷ []; body = body } ∷ [])

abbrev pub a : ExprCore
a = Local (plain u8) 0

abbrev pub b : ExprCore
b = Local (plain u8) 1

abbrev pub returned : ExprCore → StmtsCore
returned e = one (Return (Some e))

-- with the body `return a + b;`
abbrev pub AdderIsValid : Type 0
AdderIsValid = ValidCore (adder (returned (Whole (plain u8) (sum_at 0 60 a b))))

-- with the body `return a + b + a;`, where the second sum has the first number
abbrev pub NumbersFollowTokens : Type 0
NumbersFollowTokens = ValidCore (adder (returned (Whole (plain u8) (sum_at 0 64 (sum_at 1 60 a b) a)))) → ⊥

-- `proc f() -> ref global uint8_t { alloc x : uint8_t; return x; }`, and with any other type of result
abbrev pub OwnStays : Type 0
OwnStays = (result : Option ValueType) → ValidCore (procs (record (proc 102 (MoreStmts (Alloc 0 (types.Stored u8) None) (returned (Local (plain (types.Ref false region.Own (types.Stored u8))) 0)))) { result = result; locals = types.Ref false region.Own (types.Stored u8) ∷ [] } ∷ [])) → ⊥

-- `proc f() { g(); } proc g() {}`
abbrev pub CallsGoBack : Type 0
CallsGoBack = ValidCore (procs (proc 102 (one (Call (record { import = false; callee = 1; args = [] }))) ∷ proc 103 NoStmts ∷ [])) → ⊥

-- ---- sites

-- a check at the operator that begins at the byte
abbrev pub check_at : (site : ℕ) → SiteKind → (start : ℕ) → Check
check_at site kind start = record { site = site; kind = kind; span = record { start = start; end = start + 1 } }

-- of the checks of one `/` the divisor's comes first, and those of an operator before it in the text come before both
abbrev pub DivisorsComeFirst : Type 0
DivisorsComeFirst = AreSitesOf (check_at 0 kind.Overflow 2 ∷ check_at 1 kind.DivZero 4 ∷ check_at 2 kind.Overflow 4 ∷ []) (check_at 0 kind.Overflow 2 ∷ check_at 1 kind.DivZero 4 ∷ check_at 2 kind.Overflow 4 ∷ [])

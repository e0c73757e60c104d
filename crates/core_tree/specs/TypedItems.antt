-- When the areas, the imports and the procedures of a core are well typed.
use Rattle.std.specs.Prelude.{◌≡◌, ℕ, zero, suc, ◌+◌, ℤ, Bool, true, false, ◌||◌, not, if◌then◌else◌, List, [], ◌∷◌, map, length, take, All, Option, Some, None, is_none, IsTrue}
use Rattle.std.specs.List.{list_all}
use Rattle.type_trees.specs.Trees.{scalars}
use Rattle.area_types.specs.Syntax.{ValueType, Truth, Int, Ix, Bits, Ref}
use Rattle.area_types.specs.Tables.{Table, written_out}
use Rattle.area_types.specs.declared.region.Region.TheVariants.{Global, Param, Own}
use Rattle.region_check.specs.Found.{is_numbered, region_count}
use Rattle.core_tree.specs.declared.check.SiteKind.TheVariants as kind
use Rattle.core_tree.specs.Syntax.{AreaCore, ImportCore, ContractCore, ProcCore, ModuleCore}
use Rattle.core_tree.specs.Types.{is_core_area, is_type, is_value}
use Rattle.source_types.specs.Values.{is_plain}
use Rattle.core_tree.specs.Falling.{stmts_fall}
use Rattle.core_tree.specs.Environments.{Env, Point, all_locals}
use Rattle.core_tree.specs.TypedExpressions.{HasType}
use Rattle.core_tree.specs.TypedStatements.{StmtsTyped}

-- ---- areas

-- one value for each type, which has it
abbrev pub ValuesFit : Table → List ValueType → List ℤ → Type 0
ValuesFit table [] [] = Unit {0}
ValuesFit table [] (v ∷ vs) = ⊥
ValuesFit table (t ∷ ts) [] = ⊥
ValuesFit table (t ∷ ts) (v ∷ vs) = IsTrue (is_value table t v) × ValuesFit table ts vs

-- the area has one first value for each cell
pub record AreaTyped (m : ModuleCore) (a : AreaCore) : Type 0 where
  pub area_is : IsTrue (is_core_area m.structs a.area)
  pub first : ValuesFit m.structs (scalars (written_out m.structs a.area)) a.first

-- ---- parameters

-- their region parameters are numbered in the order in which they first occur, and none has region Own
pub record ParamsTyped (table : Table) (params : List ValueType) : Type 0 where
  pub numbered : IsTrue (is_numbered 0 params)
  pub types : All (λ t. IsTrue (is_type table (region_count 0 params) t)) params

-- ---- imports

-- all that an import can write behind a reference is bool or integers
abbrev pub is_given_plain : Table → ValueType → Bool
is_given_plain table (Ref false region area) = list_all is_plain (scalars (written_out table area))
is_given_plain table (Ref true region area) = true
is_given_plain table Truth = true
is_given_plain table (Int kind) = true
is_given_plain table (Ix n) = true
is_given_plain table (Bits k) = true

pub record ImportTyped (m : ModuleCore) (i : ImportCore) : Type 0 where
  pub params : ParamsTyped m.structs i.params
  pub given : All (λ t. IsTrue (is_given_plain m.structs t)) i.params

-- ---- procedures

-- a reference to an area of the procedure's own
abbrev pub is_own : Table → ValueType → Bool
is_own table Truth = false
is_own table (Int kind) = false
is_own table (Ix n) = false
is_own table (Bits k) = false
is_own table (Ref constant Global area) = false
is_own table (Ref constant (Param j) area) = false
is_own table (Ref constant Own area) = is_core_area table area

-- a type of a local
abbrev pub is_local_type : Table → (regions : ℕ) → ValueType → Bool
is_local_type table regions ty = is_type table regions ty || is_own table ty

abbrev pub param_types : ProcCore → List ValueType
param_types p = map (λ x. x.ty) p.params

-- a region of the result is the module's or that of a parameter
abbrev pub is_result : Table → ProcCore → Option ValueType → Bool
is_result table p None = true
is_result table p (Some ty) = is_type table (region_count 0 (param_types p)) ty

abbrev pub is_plain_result : Option ValueType → Bool
is_plain_result None = true
is_plain_result (Some ty) = is_plain ty

-- what the outside may call takes and gives bool and integers alone
pub record ExportTyped (p : ProcCore) : Type 0 where
  pub params : All (λ t. IsTrue (is_plain t)) (param_types p)
  pub result : IsTrue (is_plain_result p.result)

-- the numbers below n
abbrev pub below : ℕ → List ℕ
below zero = []
below (suc n) = n ∷ below n

-- in a body and in a `requires` there is no `result`
abbrev pub env_of : ModuleCore → (earlier : List ProcCore) → ProcCore → Env
env_of m earlier p = record { core = m; earlier = earlier; locals = p.locals; result = p.result; outcome = None }

abbrev pub contract_env : Env → (before : Bool) → Env
contract_env env before = if before then env else record env { outcome = env.result }

-- a body begins with its parameters in scope; it may allocate and return
abbrev pub start : ProcCore → Point
start p = record { scope = below (length p.params); next = length p.params; allowed = record { may_alloc = true; may_break = false; may_return = true } }

pub record ContractTyped (env : Env) (scope : List ℕ) (c : ContractCore) : Type 0 where
  pub cond : HasType (contract_env env c.before) scope c.cond Truth
  pub check_is : c.check.kind ≡ (if c.before then kind.Pre else kind.Post)

-- after these procedures, which alone it may call
pub record ProcTyped (m : ModuleCore) (earlier : List ProcCore) (p : ProcCore) : Type 0 where
  pub params : ParamsTyped m.structs (param_types p)
  pub result : IsTrue (is_result m.structs p p.result)
  pub exported : IsTrue p.exported → ExportTyped p
  pub params_first : take (length p.params) p.locals ≡ param_types p
  pub local_types : All (λ t. IsTrue (is_local_type m.structs (region_count 0 (param_types p)) t)) p.locals
  pub counted : length p.locals ≡ length p.params + all_locals p.body
  pub contracts : All (ContractTyped (env_of m earlier p) (below (length p.params))) p.contracts
  pub body : StmtsTyped (env_of m earlier p) (start p) p.body
  pub returns : IsTrue (is_none p.result || not (stmts_fall p.body))

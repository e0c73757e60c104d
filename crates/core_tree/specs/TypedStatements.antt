-- When a statement of a core is well typed where it stands. A local is in scope from its statement to the end of the block; its
-- number is that of the locals before it in the text.
use Rattle.std.specs.Prelude.{◌≡◌, ℕ, Bool, true, false, ◌||◌, not, Option, Some, None, slice_get, IsTrue}
use Rattle.area_types.specs.Syntax as types
use Rattle.area_types.specs.Syntax.{ValueType, Truth, Ix, Ref, Area}
use Rattle.area_types.specs.Tables.{is_length}
use Rattle.area_types.specs.declared.region.Region.{Region}
use Rattle.area_types.specs.declared.region.Region.TheVariants.{Own}
use Rattle.alloc_effects.specs.declared.allowed.Narrowing.TheVariants as without
use Rattle.region_check.specs.Substitutions.{escapes}
use Rattle.core_tree.specs.declared.check.SiteKind.TheVariants as kind
use Rattle.core_tree.specs.Syntax.{ExprCore, InitCore, CallCore, StmtCore, Let, LetCall, Alloc, Store, Copy, Call, If, IfElse, Map, Upto, Downto, Forever, Break, Return, Assert, NoAlloc, NoBreak, NoReturn, StmtsCore, NoStmts, MoreStmts, type_of}
use Rattle.core_tree.specs.Types.{is_core_area, Fits}
use Rattle.core_tree.specs.Settled.{is_settled}
use Rattle.core_tree.specs.Falling.{stmt_falls}
use Rattle.core_tree.specs.Environments.{Env, Point, all_locals, after, skipping, narrowing, looping, within_loop}
use Rattle.core_tree.specs.TypedExpressions.{ExprTyped, HasType}
use Rattle.core_tree.specs.TypedCalls.{CallTyped, CallHasType}
use Rattle.core_tree.specs.TypedInits.{InitTyped}

-- the next local in the text, of this type
pub record IsNext (env : Env) (at : Point) (number : ℕ) (ty : ValueType) : Type 0 where
  pub number_is : number ≡ at.next
  pub type : slice_get env.locals number ≡ Some ty

-- nothing is wanted of the value
pub record LetTyped (env : Env) (at : Point) (number : ℕ) (value : ExprCore) : Type 0 where
  pub typed : ExprTyped env at.scope value
  pub settled : IsTrue (is_settled value)
  pub name : IsNext env at number (type_of value)

pub record LetCallTyped (env : Env) (at : Point) (number : ℕ) (call : CallCore) : Type 0 where
  pub ty : ValueType
  pub value : CallHasType env at.scope call ty
  pub name : IsNext env at number ty

abbrev pub MayInit : Env → Point → Area → Option InitCore → Type 0
MayInit env at area None = Unit {0}
MayInit env at area (Some init) = InitTyped env at.scope (Some area) init

pub record AllocTyped (env : Env) (at : Point) (number : ℕ) (area : Area) (init : Option InitCore) : Type 0 where
  pub allowed : IsTrue at.allowed.may_alloc
  pub area_is : IsTrue (is_core_area env.core.structs area)
  pub first : MayInit env at area init
  pub name : IsNext env at number (Ref false Own area)

-- the target is a mutable reference to a stored value
pub record StoreTyped (env : Env) (at : Point) (target value : ExprCore) : Type 0 where
  pub region : Region
  pub typed : ExprTyped env at.scope value
  pub target_is : HasType env at.scope target (Ref false region (types.Stored (type_of value)))

-- a mutable reference, and a reference to an equal area
pub record CopyTyped (env : Env) (at : Point) (target source : ExprCore) : Type 0 where
  pub area : Area
  pub target_region : Region
  pub source_region : Region
  pub constant : Bool
  pub target_is : HasType env at.scope target (Ref false target_region area)
  pub source_is : HasType env at.scope source (Ref constant source_region area)

-- the name of a loop, and its bound
pub record LoopTyped (env : Env) (at : Point) (number length : ℕ) : Type 0 where
  pub in_range : IsTrue (is_length length)
  pub name : IsNext env at number (Ix length)

abbrev pub BoundTyped : Env → Point → (length : ℕ) → ExprCore → Type 0
BoundTyped env at length bound = HasType env at.scope bound (Ix length)

-- the returned value fits the result; so it is no reference to an area of the procedure's own, which `kept` repeats
pub record Returned (env : Env) (at : Point) (value : ExprCore) (wanted : ValueType) : Type 0 where
  pub typed : ExprTyped env at.scope value
  pub fits : Fits wanted (type_of value)
  pub kept : IsTrue (not (escapes (type_of value)))

abbrev pub ReturnTyped : Env → Point → (result : Option ValueType) → Option ExprCore → Type 0
ReturnTyped env at None None = Unit {0}
ReturnTyped env at None (Some value) = ⊥
ReturnTyped env at (Some wanted) None = ⊥
ReturnTyped env at (Some wanted) (Some value) = Returned env at value wanted

abbrev pub is_last : StmtsCore → Bool
is_last NoStmts = true
is_last _ = false

abbrev mutual
  pub StmtTyped : Env → Point → StmtCore → Type 0
  StmtTyped env at (Let number value) = LetTyped env at number value
  StmtTyped env at (LetCall number call) = LetCallTyped env at number call
  StmtTyped env at (Alloc number area init) = AllocTyped env at number area init
  StmtTyped env at (Store target value) = StoreTyped env at target value
  StmtTyped env at (Copy target source) = CopyTyped env at target source
  StmtTyped env at (Call call) = CallTyped env at.scope call
  StmtTyped env at (If test first) = HasType env at.scope test Truth × StmtsTyped env at first
  StmtTyped env at (IfElse test first second) = HasType env at.scope test Truth × StmtsTyped env at first × StmtsTyped env (skipping (all_locals first) at) second
  StmtTyped env at (Map number length body) = LoopTyped env at number length × StmtsTyped env (within_loop number at) body
  StmtTyped env at (Upto number length bound body) = LoopTyped env at number length × BoundTyped env at length bound × StmtsTyped env (within_loop number at) body
  StmtTyped env at (Downto number length bound body) = LoopTyped env at number length × BoundTyped env at length bound × StmtsTyped env (within_loop number at) body
  StmtTyped env at (Forever body) = StmtsTyped env (looping at) body
  StmtTyped env at Break = IsTrue at.allowed.may_break
  StmtTyped env at (Return value) = IsTrue at.allowed.may_return × ReturnTyped env at env.result value
  StmtTyped env at (Assert cond check) = HasType env at.scope cond Truth × (check.kind ≡ kind.Assert)
  StmtTyped env at (NoAlloc body) = StmtsTyped env (narrowing without.NoAlloc at) body
  StmtTyped env at (NoBreak body) = StmtsTyped env (narrowing without.NoBreak at) body
  StmtTyped env at (NoReturn body) = StmtsTyped env (narrowing without.NoReturn at) body

  -- nothing stands after a statement that does not fall through
  pub StmtsTyped : Env → Point → StmtsCore → Type 0
  StmtsTyped env at NoStmts = Unit {0}
  StmtsTyped env at (MoreStmts s ss) = StmtTyped env at s × IsTrue (stmt_falls s || is_last ss) × StmtsTyped env (after s at) ss

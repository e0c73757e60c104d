-- The laws of the statements of a body, form by form, and of all of them.
use Rattle.std.specs.Prelude.{◌≡◌, ℕ, slice_get, Option, Some}
use Rattle.area_types.specs.Syntax.{Area}
use Rattle.core_tree.specs.Environments.{Point, within_loop}
use Rattle.core_tree.specs.Syntax.{ModuleCore, ProcCore, ExprCore, InitCore, CallCore, LetCall, Alloc, Copy, Call, Map, Upto, Downto, Return, StmtsCore}
use Rattle.core_tree.specs.Valid.{ValidCore}
use Rattle.lower_values.specs.Frames.{allocated}
use Rattle.body_refinement.specs.Bodies.{Lowered}
use Rattle.body_refinement.specs.Kinds.{AllKindsAre}
use Rattle.body_refinement.specs.Statements.{StmtFollows, StmtsFollow, BodyFollows}

abbrev pub AllocsFollow : Type 0
AllocsFollow = (d : Lowered) (at : Point) (number : ℕ) (area : Area) (init : Option InitCore) → StmtFollows d at (Alloc number area init)

abbrev pub CopiesFollow : Type 0
CopiesFollow = (d : Lowered) (at : Point) (target source : ExprCore) → StmtFollows d at (Copy target source)

abbrev pub ReturnsFollow : Type 0
ReturnsFollow = (d : Lowered) (at : Point) (value : Option ExprCore) → StmtFollows d at (Return value)

-- ---- loops that count, where their bodies follow

abbrev pub MapsFollow : Type 0
MapsFollow = (d : Lowered) (at : Point) (number length : ℕ) (body : StmtsCore) → StmtsFollow d (within_loop number at) body → StmtFollows d at (Map number length body)

abbrev pub DowntosFollow : Type 0
DowntosFollow = (d : Lowered) (at : Point) (number length : ℕ) (bound : ExprCore) (body : StmtsCore) → StmtsFollow d (within_loop number at) body → StmtFollows d at (Downto number length bound body)

-- ---- what is so of each body of a valid core

-- its declarations are objects or values as the frame has it
abbrev pub KindsAreKnown : Type 0
KindsAreKnown = (core : ModuleCore) → ValidCore core → (k : ℕ) (p : ProcCore) → slice_get core.procs k ≡ Some p → AllKindsAre (allocated p.body) p.body

-- ---- all of them

-- what is asked of the forms that have no law of their own: calls, and loops up to a bound
pub record OthersFollow (d : Lowered) : Type 0 where
  pub call : (at : Point) (c : CallCore) → StmtFollows d at (Call c)
  pub named_call : (at : Point) (number : ℕ) (c : CallCore) → StmtFollows d at (LetCall number c)
  pub upto : (at : Point) (number length : ℕ) (bound : ExprCore) (body : StmtsCore) → StmtsFollow d (within_loop number at) body → StmtFollows d at (Upto number length bound body)

abbrev pub StatementsFollow : Type 0
StatementsFollow = (d : Lowered) → OthersFollow d → (at : Point) (ss : StmtsCore) → StmtsFollow d at ss

abbrev pub BodiesFollow : Type 0
BodiesFollow = (d : Lowered) → OthersFollow d → BodyFollows d

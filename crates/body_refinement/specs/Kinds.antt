-- Which locals of a body are objects of C of their own: those of its `alloc`s, as the frame has it.
use Rattle.std.specs.Prelude.{◌≡◌, ℕ, List, true, false}
use Rattle.core_tree.specs.Syntax.{StmtCore, Let, LetCall, Alloc, Store, Copy, Call, If, IfElse, Map, Upto, Downto, Forever, Break, Return, Assert, NoAlloc, NoBreak, NoReturn, StmtsCore, NoStmts, MoreStmts}
use Rattle.lower_values.specs.Frames.{is_among}

module _ (objects : List ℕ) where
  abbrev pub IsValue : ℕ → Type 0
  IsValue number = is_among number objects ≡ false

  abbrev mutual
    pub KindsAre : StmtCore → Type 0
    KindsAre (Let number value) = IsValue number
    KindsAre (LetCall number call) = IsValue number
    KindsAre (Alloc number area init) = is_among number objects ≡ true
    KindsAre (Store target value) = Unit {0}
    KindsAre (Copy target source) = Unit {0}
    KindsAre (Call call) = Unit {0}
    KindsAre (If test first) = AllKindsAre first
    KindsAre (IfElse test first second) = AllKindsAre first × AllKindsAre second
    KindsAre (Map number length body) = IsValue number × AllKindsAre body
    KindsAre (Upto number length bound body) = IsValue number × AllKindsAre body
    KindsAre (Downto number length bound body) = IsValue number × AllKindsAre body
    KindsAre (Forever body) = AllKindsAre body
    KindsAre Break = Unit {0}
    KindsAre (Return value) = Unit {0}
    KindsAre (Assert cond check) = Unit {0}
    KindsAre (NoAlloc body) = AllKindsAre body
    KindsAre (NoBreak body) = AllKindsAre body
    KindsAre (NoReturn body) = AllKindsAre body

    pub AllKindsAre : StmtsCore → Type 0
    AllKindsAre NoStmts = Unit {0}
    AllKindsAre (MoreStmts s ss) = KindsAre s × AllKindsAre ss

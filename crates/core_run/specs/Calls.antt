-- The procedures that a procedure may call: those before it, by their numbers; and how much there is to walk.
use Rattle.std.specs.Prelude.{ℕ, suc, ◌+◌, List, [], ◌∷◌, map}
use Rattle.core_tree.specs.Syntax.{ModuleCore, ProcCore, StmtCore, StmtsCore, NoStmts, MoreStmts}
use Rattle.core_tree.specs.Syntax.{Let, LetCall, Alloc, Store, Copy, Call, If, IfElse, Map, Upto, Downto, Forever, Break, Return, Assert, NoAlloc, NoBreak, NoReturn}
use Rattle.core_tree.specs.View.{proc_of}
use Rattle.core_tree.specs.declared.CoreProc.{CoreProc}
use Rattle.core_meaning.specs.Calls.{Calls, no_procedures}
use Rattle.core_meaning.specs.Run.{with_procedure}

-- those of a list besides the earlier ones, numbered from this number on
abbrev pub calls_after : ModuleCore → ℕ → Calls → List ProcCore → Calls
calls_after core number earlier [] = earlier
calls_after core number earlier (p ∷ ps) = calls_after core (suc number) (with_procedure core earlier number p) ps

abbrev pub calls_of : ModuleCore → List CoreProc → Calls
calls_of core procs = calls_after core 0 (no_procedures core) (map proc_of procs)

-- ---- how many statements stand in a statement, each with itself

abbrev mutual
  pub weight : StmtCore → ℕ
  weight (Let number e) = 1
  weight (LetCall number c) = 1
  weight (Alloc number area init) = 1
  weight (Store target value) = 1
  weight (Copy target source) = 1
  weight (Call c) = 1
  weight (If e a) = weights a + 1
  weight (IfElse e a b) = weights a + weights b + 1
  weight (Map number length a) = weights a + 1
  weight (Upto number length e a) = weights a + 1
  weight (Downto number length e a) = weights a + 1
  weight (Forever a) = weights a + 1
  weight Break = 1
  weight (Return e) = 1
  weight (Assert e check) = 1
  weight (NoAlloc a) = weights a + 1
  weight (NoBreak a) = weights a + 1
  weight (NoReturn a) = weights a + 1

  pub weights : StmtsCore → ℕ
  weights NoStmts = 0
  weights (MoreStmts s rest) = weight s + weights rest + 1

-- those of procedures
abbrev pub load : List ProcCore → ℕ
load [] = 0
load (p ∷ ps) = weights p.body + 1 + load ps

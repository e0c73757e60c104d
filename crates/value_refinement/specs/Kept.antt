-- What statements before an expression keep: every name but those of temporaries from number k on, and every object that there was. An
-- object of theirs is a further one.
use Rattle.std.specs.Prelude.{◌≡◌, ℕ, ◌<◌, ◌≤◌, length}
use Rattle.c_memory.specs.Abstract.{Same}
use Rattle.c_ast.specs.Names.{named}
use Rattle.c_ast.specs.Scalars.{metric_of}
use Rattle.c_ast.specs.Syntax.{Name}
use Rattle.c_meaning.specs.Memory.{memory_of}
use Rattle.c_meaning.specs.State.{Program, CState}
use Rattle.value_refinement.specs.Settings.{IsOld}

pub record Kept (p : Program) (k : ℕ) (t u : CState) : Type 0 where
  pub names : (x : Name) → IsOld k x → named u.frames.own x ≡ named t.frames.own x
  pub callers : u.frames.callers ≡ t.frames.callers
  pub count : length t.objects ≤ length u.objects
  pub objects : (o : ℕ) → o < length t.objects → Same (metric_of p.target) (memory_of p.target) t.objects u.objects o

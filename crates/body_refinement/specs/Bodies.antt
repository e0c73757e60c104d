-- A procedure of a module that is lowered, and what its statements stand among.
use Rattle.std.specs.Prelude.{◌≡◌, ℕ, Bool, List, take, slice_get, Some}
use Rattle.step_semantics.specs.Lawful.{Lawful}
use Rattle.core_tree.specs.Checks.{proc_checks}
use Rattle.core_tree.specs.Environments.{Env}
use Rattle.core_tree.specs.Syntax.{ProcCore, ModuleCore}
use Rattle.core_tree.specs.TypedItems.{env_of}
use Rattle.core_tree.specs.Valid.{ValidCore}
use Rattle.c_ast.specs.declared.Target.{Target}
use Rattle.c_ast.specs.Syntax.{Name, Function}
use Rattle.c_meaning.specs.Calls.{Calls}
use Rattle.c_meaning.specs.State.{Program, program_of}
use Rattle.c_meaning.specs.Values.{CValue}
use Rattle.lower_types.specs.Types.{table_for}
use Rattle.lower_values.specs.Frames.{Frame}
use Rattle.lower_statements.specs.Procedures.{frame_for, home_of, function_for}
use Rattle.lower_statements.specs.Statements.{Home}
use Rattle.lower_statements.specs.Units.{lowered_without}
use Rattle.value_refinement.specs.Laws.{Numbered}
use Rattle.value_refinement.specs.Settings.{Setting}
use Rattle.lowered_surroundings.specs.Surroundings.{setting_for}

-- `functions` are those of C that its function may call
pub record Lowered : Type 0 where
  pub core : ModuleCore
  pub valid : ValidCore core
  pub number : ℕ
  pub proc : ProcCore
  pub is : slice_get core.procs number ≡ Some proc
  pub skip : ℕ → Bool
  pub target : Target
  pub functions : Calls
  -- its checks have numbers that C has constants for
  pub numbered : Numbered (proc_checks proc)
  pub lawful : (name : Name) (values : List CValue) → Lawful (functions name values)

abbrev pub env_in : Lowered → Env
env_in d = env_of d.core (take d.number d.core.procs) d.proc

abbrev pub frame_in : Lowered → Frame
frame_in d = frame_for d.skip d.core d.target (table_for d.core) d.proc

abbrev pub home_in : Lowered → Home
home_in d = home_of (table_for d.core) d.proc

abbrev pub program_in : Lowered → Program
program_in d = program_of (lowered_without d.skip d.core d.target) d.target

abbrev pub function_in : Lowered → Function
function_in d = function_for d.skip d.core d.target (table_for d.core) d.proc

-- with these locals in scope
abbrev pub within : Lowered → (scope : List ℕ) → Setting
within d scope = setting_for d.skip d.core d.target d.functions d.number d.proc scope

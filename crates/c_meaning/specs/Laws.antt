-- What holds of every run of C, and what it is never to be stuck.
use Rattle.std.specs.Prelude.{◌≡◌, ◌≢◌, ℕ, ℤ, ◌^◌, List, map, Ok, IsTrue}
use Rattle.run_records.specs.declared.End.TheVariants.{Stopped}
use Rattle.run_records.specs.declared.Script.{Script}
use Rattle.run_records.specs.Scripts.{Fits}
use Rattle.step_semantics.specs.Steps.{Halt, FailedCheck}
use Rattle.step_semantics.specs.Outcomes.{OutcomeLaws}
use Rattle.c_memory.specs.Abstract.{Lawful}
use Rattle.c_memory.specs.ValueLaws.{LawfulValues}
use Rattle.c_ast.specs.declared.CKind.TheVariants.{Scalar}
use Rattle.c_ast.specs.declared.CScalar.{CScalar}
use Rattle.c_ast.specs.declared.CParam.{CParam}
use Rattle.c_ast.specs.declared.CType.{CType}
use Rattle.c_ast.specs.declared.Target.{Target}
use Rattle.c_ast.specs.Conversions.{can_hold}
use Rattle.c_ast.specs.Exports.{c_exports}
use Rattle.c_ast.specs.Scalars.{metric_of}
use Rattle.c_ast.specs.Targets.{table_of}
use Rattle.c_ast.specs.Syntax.{Name, TranslationUnit}
use Rattle.c_meaning.specs.Values.{CValue, as_assigned, as_arguments}
use Rattle.c_meaning.specs.Memory.{memory_of}
use Rattle.c_meaning.specs.State.{Program, CState, declare}
use Rattle.c_meaning.specs.Scopes.{local_entity, declarations, and_name, of_params}
use Rattle.c_meaning.specs.Runs.{param_types, bound, run_program, run_c}

-- for each number of steps there is one outcome; more steps only add events, and an end is the end
abbrev pub RunLaws : Type 0
RunLaws = (u : TranslationUnit) (t : Target) (script : Script) → OutcomeLaws (run_c u t script)

-- A value is converted to the type of a declaration before a name holds it: so each name is in scope as it was declared, and not as its
-- value happens to be.
pub record NamesAreAsDeclared : Type 0 where
  pub constants : (p : Program) (x : Name) (type : CType) (v a : CValue) (s : CState) → as_assigned p.target type v ≡ Ok a → declarations p (declare x a s) ≡ and_name x type (declarations p s)
  pub parameters : (t : Target) (params : List CParam) (values args : List CValue) → as_arguments t (param_types params) values ≡ Ok args → map local_entity (bound params args) ≡ of_params params

-- ---- memory

-- the numbers that a scalar can hold
abbrev pub CanHold : Target → CScalar → ℤ → Type 0
CanHold t k v = IsTrue (can_hold (table_of t) (Scalar k) v)

-- the memory of each target keeps the laws by which the layers above know it, behind which no byte is opened
abbrev pub MemoryIsLawful : Type 0
MemoryIsLawful = (t : Target) → Lawful (metric_of t) (CanHold t) (memory_of t)

-- and what reads, stores, replies, declarations and the ends of blocks do to objects that hold values
abbrev pub ObjectsHoldValues : Type 0 → Type 0
ObjectsHoldValues W = (t : Target) (f : W → ℤ) → LawfulValues (metric_of t) (CanHold t) f (memory_of t)

-- ---- being stuck

-- a site that no call of `ivory_stop` can name, whose parameter is of uint32_t
abbrev pub no_site : ℕ
no_site = 2 ^ 32

-- the unit, where a run that is stuck is shown as a stop at that site: so it is told apart from all others
abbrev pub watched : TranslationUnit → Target → Program
watched u t = record { target = t; unit = u; stuck = FailedCheck no_site }

-- such a run is a run of the unit wherever it is not stuck
abbrev pub WatchedRunsAreRuns : Type 0
WatchedRunsAreRuns =
    (u : TranslationUnit) (t : Target) (script : Script) (n : ℕ) → (run_program (watched u t) script n).end ≢ Stopped no_site
    → run_c u t script n ≡ run_program (watched u t) script n

abbrev pub IsNotStuck : Halt → Type 0
IsNotStuck how = how ≢ FailedCheck no_site

-- no run of a script that fits is ever stuck
abbrev pub NeverStuck : TranslationUnit → Target → Type 0
NeverStuck u t = (script : Script) → Fits script (c_exports u) → (n : ℕ) → (run_program (watched u t) script n).end ≢ Stopped no_site

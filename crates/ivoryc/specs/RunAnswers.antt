-- What `run` and `crun` come to over a text, the text of a script and a number of steps.
use Rattle.std.specs.Prelude.{◌≡◌, ℕ, List, Ok, Err}
use Rattle.run_records.specs.Scripts.{Fits}
use Rattle.run_records.specs.declared.Export.{Export}
use Rattle.run_records.specs.declared.Script.{Script}
use Rattle.iv_script.specs.Fit.{fit_of}
use Rattle.iv_script.specs.Report.{report}
use Rattle.iv_script.specs.ScriptText.{script_of}
use Rattle.iv_script.specs.declared.ScriptFault.{ScriptFault}
use Rattle.core_tree.specs.Syntax.{ModuleCore}
use Rattle.core_tree.specs.Exports.{exports_of}
use Rattle.core_meaning.specs.Run.{run_src}
use Rattle.c_ast.specs.declared.Target.TheVariants.{T32}
use Rattle.c_ast.specs.Exports.{c_exports}
use Rattle.c_ast.specs.Syntax.{TranslationUnit}
use Rattle.c_text.specs.Faults.{HasFault}
use Rattle.c_text.specs.ReadsBack.{ReadsBack}
use Rattle.c_text.specs.declared.CFault.{CFault}
use Rattle.c_meaning.specs.Runs.{run_c}
use Rattle.ivoryc.specs.declared.status.Status.{Status}
use Rattle.ivoryc.specs.declared.status.Status.TheVariants as status
use Rattle.ivoryc.specs.Texts.{c_fault_line, script_line}
use Rattle.ivoryc.specs.Modules.{StandsFor, IsNoModule}
use Rattle.ivoryc.specs.Allowed.{Answer, Gives, Refuses}

-- What exports these procedures, and is reported so of a run by a script, is run by a text: it says a script that fits; or it says none, or
-- one that does not fit.
pub data RunsBy (exports : List Export) (reported : Script → List ℕ) (said : List ℕ) : Answer → Type 0 where
  fitting : {s : Script} → script_of said ≡ Ok s → Fits s exports → RunsBy exports reported said (Gives (reported s))
  unread : {fault : ScriptFault} → script_of said ≡ Err fault → RunsBy exports reported said (Refuses status.Script (script_line fault))
  unfit : {s : Script} {fault : ScriptFault} → script_of said ≡ Ok s → fit_of s.calls exports ≡ Err fault
      → RunsBy exports reported said (Refuses status.Script (script_line fault))

-- `run`
abbrev pub module_report : ModuleCore → ℕ → Script → List ℕ
module_report core n s = report (run_src core s n)

pub data RunsModule (text said : List ℕ) (n : ℕ) : Answer → Type 0 where
  ran : {core : ModuleCore} {a : Answer} → StandsFor text core → RunsBy (exports_of core) (module_report core n) said a → RunsModule text said n a
  not_ran : {line : List ℕ} {s : Status} → IsNoModule text s line → RunsModule text said n (Refuses s line)

-- `crun`
abbrev pub unit_report : TranslationUnit → ℕ → Script → List ℕ
unit_report u n s = report (run_c u T32 s n)

pub data RunsUnit (text said : List ℕ) (n : ℕ) : Answer → Type 0 where
  c_ran : {u : TranslationUnit} {a : Answer} → ReadsBack u text T32 → RunsBy (c_exports u) (unit_report u n) said a → RunsUnit text said n a
  c_at_fault : (fault : CFault) → HasFault T32 text fault → RunsUnit text said n (Refuses status.Refused (c_fault_line text fault))

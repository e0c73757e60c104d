-- The unit does what the module does, for every script that fits it: within the same number of steps the C shows nothing that the
-- source does not, within 16n+16 steps all that the source shows within n, both end alike, and the C is never undefined.
use Rattle.run_records.specs.declared.Script.{Script}
use Rattle.run_records.specs.Scripts.{Fits}
use Rattle.step_semantics.specs.Refines as runs
use Rattle.first_form.specs.declared.FirstModule.{FirstModule}
use Rattle.first_meaning.specs.Source.{run_src, exports_of}
use Rattle.c_ast.specs.declared.Target.{Target}
use Rattle.c_ast.specs.Syntax.{TranslationUnit}
use Rattle.c_meaning.specs.Runs.{run_c}

abbrev pub Refines : FirstModule → TranslationUnit → Target → Type 0
Refines m u target = (script : Script) → Fits script (exports_of m) → runs.Refines (run_src m script) (run_c u target script)

-- What each command comes to, over the texts that stand under the names of its files.
use Rattle.std.specs.Prelude.{ℕ, ◌<◌, ◌≤◌, List, length}
use Rattle.ivory_lexer.specs.Limits.{source_limit}
use Rattle.iv_script.specs.ScriptText.{script_limit}
use Rattle.c_reader.specs.Answers.{text_limit}
use Rattle.ivoryc.specs.declared.command.Command.{Command}
use Rattle.ivoryc.specs.declared.command.Command.TheVariants.{Emit, Check, Sites, Run, CRun, Big}
use Rattle.ivoryc.specs.declared.status.Status.TheVariants as status
use Rattle.ivoryc.specs.Texts.{too_large_line}
use Rattle.ivoryc.specs.Allowed.{Answer, Refuses}
use Rattle.ivoryc.specs.ModuleAnswers.{Emits, Checks, ListsSites, Measures}
use Rattle.ivoryc.specs.RunAnswers.{RunsModule, RunsUnit}

-- which texts stand under a name
abbrev pub Standing : Type 1
Standing = List ℕ → List ℕ → Type 0

-- a text and that of a script stand under these names, each within its limit
pub record Given (stands : Standing) (file : List ℕ) (most : ℕ) (script text said : List ℕ) : Type 0 where
  pub text_stands : stands file text
  pub text_short : length text ≤ most
  pub script_stands : stands script said
  pub script_short : length said ≤ script_limit

-- one of them is longer; the script is not asked for where the text is
pub data TooLongFor (stands : Standing) (file : List ℕ) (most : ℕ) (script : List ℕ) : Type 0 where
  text_long : {text : List ℕ} → stands file text → most < length text → TooLongFor stands file most script
  script_long : {text said : List ℕ} → stands file text → length text ≤ most → stands script said → script_limit < length said
      → TooLongFor stands file most script

abbrev pub too_large : Answer
too_large = Refuses status.TooLarge too_large_line

pub data Comes (stands : Standing) : Command → Answer → Type 0 where
  emitted : {file text : List ℕ} {a : Answer} → stands file text → Emits text a → Comes stands (Emit file) a
  checked : {file text : List ℕ} {a : Answer} → stands file text → Checks text a → Comes stands (Check file) a
  listed : {file text : List ℕ} {a : Answer} → stands file text → ListsSites text a → Comes stands (Sites file) a
  -- the lengths of both texts come before what they say
  ran : {file script text said : List ℕ} {n : ℕ} {a : Answer} → Given stands file source_limit script text said → RunsModule text said n a
      → Comes stands (Run file script n) a
  run_too_long : {file script : List ℕ} {n : ℕ} → TooLongFor stands file source_limit script → Comes stands (Run file script n) too_large
  c_ran : {file script text said : List ℕ} {n : ℕ} {a : Answer} → Given stands file text_limit script text said → RunsUnit text said n a
      → Comes stands (CRun file script n) a
  c_too_long : {file script : List ℕ} {n : ℕ} → TooLongFor stands file text_limit script → Comes stands (CRun file script n) too_large
  measured : {k : ℕ} {a : Answer} → Measures k a → Comes stands (Big k) a

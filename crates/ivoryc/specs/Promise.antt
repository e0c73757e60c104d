-- What each call of the program promises: why it answered its status, what it wrote, and which statuses it must answer.
use Rattle.std.specs.Prelude.{◌≡◌, ℕ, ◌+◌, ◌≤◌, ◌⊎◌, nat_lt, if◌then◌else◌, List, length, Option, Some, None}
use Rattle.iv_base.specs.Stores.{FileMap, text_of}
use Rattle.ivory_lexer.specs.Limits.{source_limit}
use Rattle.c_reader.specs.Answers.{text_limit}
use Rattle.ivoryc.specs.declared.command.Command.{Command}
use Rattle.ivoryc.specs.declared.command.Command.TheVariants.{Emit, Check, Sites, Run, CRun, Big}
use Rattle.ivoryc.specs.declared.status.Status.{Status}
use Rattle.ivoryc.specs.declared.status.Status.TheVariants as status
use Rattle.ivoryc.specs.Commands.{command}
use Rattle.ivoryc.specs.Texts.{usage_line, read_fault_line, memory_line}
use Rattle.ivoryc.specs.Calls.{StoreSeen, SinkSeen, Change, Call, Unchanged, Unread, Unwritten, Took, FailedAt, StandsUnder}
use Rattle.ivoryc.specs.Allowed.{Answer, Compiles, Gives, Refuses, Allows, status_of}
use Rattle.ivoryc.specs.Answers.{Comes}

-- ---- what the words ask for

-- a command, which comes to this over what stands under the names of its files
pub record ComesTo (c : Call) (a : Answer) : Type 0 where
  pub asked : Command
  pub is : command c.words ≡ Some asked
  pub comes : Comes (StandsUnder c.store.before.holds) asked a

-- some command
pub record IsCommand (c : Call) : Type 0 where
  pub asked : Command
  pub is : command c.words ≡ Some asked

-- a command that is to write these bytes
pub record Writes (c : Call) (bytes : List ℕ) : Type 0 where
  pub answer : Answer
  pub comes_to : ComesTo c answer
  pub allowed : Allows answer bytes

-- ---- why a status was answered, and what was written

pub record WhereDone (c : Call) : Type 0 where
  pub bytes : List ℕ
  pub writes : Writes c bytes
  pub out : Took c.out bytes
  pub err : Unchanged c.err

-- what stands under a name is refused, with this status
pub record WhereRefused (c : Call) (s : Status) : Type 0 where
  pub line : List ℕ
  pub comes_to : ComesTo c (Refuses s line)
  pub out : Unchanged c.out
  pub err : Took c.err line

pub record WhereWords (c : Call) : Type 0 where
  pub asked : command c.words ≡ None
  pub out : Unchanged c.out
  pub err : Took c.err usage_line

pub record WhereReadFault (c : Call) : Type 0 where
  pub is_command : IsCommand c
  pub unread : Unread c.store
  pub out : Unchanged c.out
  pub err : Took c.err read_fault_line

pub record WhereOutFailed (c : Call) : Type 0 where
  pub bytes : List ℕ
  pub writes : Writes c bytes
  pub out : FailedAt c.out bytes
  pub err : Unchanged c.err

-- a line for which there was a cause
pub data Due (c : Call) : List ℕ → Type 0 where
  words : command c.words ≡ None → Due c usage_line
  read_fault : IsCommand c → Unread c.store → Due c read_fault_line
  refused : {s : Status} {line : List ℕ} → ComesTo c (Refuses s line) → Due c line

pub record WhereErrFailed (c : Call) : Type 0 where
  pub line : List ℕ
  pub due : Due c line
  pub out : Unchanged c.out
  pub err : FailedAt c.err line

-- want of memory has no other cause; it comes before anything is written to `out`
pub record WhereMemory (c : Call) : Type 0 where
  pub out : Unchanged c.out
  pub err : Took c.err memory_line ⊎ FailedAt c.err memory_line

abbrev pub IsAnswered : Call → Status → Type 0
IsAnswered c status.Done = WhereDone c
IsAnswered c status.Refused = WhereRefused c status.Refused
IsAnswered c status.Words = WhereWords c
IsAnswered c status.ReadFault = WhereReadFault c
IsAnswered c status.WriteFault = WhereOutFailed c ⊎ WhereErrFailed c
IsAnswered c status.Memory = WhereMemory c
IsAnswered c status.TooLarge = WhereRefused c status.TooLarge
IsAnswered c status.Script = WhereRefused c status.Script
IsAnswered c status.NotBuilt = WhereRefused c status.NotBuilt

-- ---- which status must be answered

-- this status, or want of memory
abbrev pub OrMemory : Call → Status → Type 0
OrMemory c s = (c.status ≡ s) ⊎ (c.status ≡ status.Memory)

-- the store tells what it holds
pub record IsTold (store : StoreSeen) : Type 0 where
  pub files : FileMap
  pub holds : store.holds ≡ Some files

-- where an answer is written: a line goes to `err`
abbrev pub output_for : Call → Answer → Change SinkSeen
output_for c (Compiles text) = c.out
output_for c (Gives bytes) = c.out
output_for c (Refuses s line) = c.err

-- the number of the command's words that stand for a file
abbrev pub files_named : Option Command → ℕ
files_named None = 0
files_named (Some (Emit file)) = 1
files_named (Some (Check file)) = 1
files_named (Some (Sites file)) = 1
files_named (Some (Run file script n)) = 2
files_named (Some (CRun file script n)) = 2
files_named (Some (Big k)) = 0

-- of a file with a limit and then a script: no script where the file is too long
abbrev pub two_due : FileMap → (most : ℕ) (file : List ℕ) → ℕ
two_due files most file = if nat_lt most (length (text_of (files file))) then 1 else 2

-- how many of them must be loaded before the first refusal
abbrev pub files_due : FileMap → Option Command → ℕ
files_due files None = 0
files_due files (Some (Emit file)) = 1
files_due files (Some (Check file)) = 1
files_due files (Some (Sites file)) = 1
files_due files (Some (Run file script n)) = two_due files source_limit file
files_due files (Some (CRun file script n)) = two_due files text_limit file
files_due files (Some (Big k)) = 0

-- each status comes with its cause; but for a failure of what it needs, and for want of memory, each cause comes with its status
pub record Promise (c : Call) : Type 0 where
  pub answer : IsAnswered c c.status
  pub no_command : command c.words ≡ None → ¬ Unwritten c.err → OrMemory c status.Words
  -- whatever the command comes to
  pub complete : (a : Answer) → ComesTo c a → IsTold c.store.before → ¬ Unread c.store → ¬ Unwritten (output_for c a) → OrMemory c (status_of a)
  -- at most one load for each word that stands for a file, and the store still holds what it held
  pub loads : c.store.after.loads ≤ c.store.before.loads + files_named (command c.words)
  -- none behind the first refusal
  pub loads_due : (files : FileMap) → c.store.before.holds ≡ Some files → c.store.after.loads ≤ c.store.before.loads + files_due files (command c.words)
  pub holds : c.store.after.holds ≡ c.store.before.holds
  pub later : c.store.before.faults ≤ c.store.after.faults

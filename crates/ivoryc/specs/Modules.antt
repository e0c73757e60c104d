-- What the text of a module is to a command: that of a well typed module, or why it is that of none.
use Rattle.std.specs.Prelude.{ℕ, List}
use Rattle.iv_words.specs.declared.Span.{Span}
use Rattle.ivory_tree.specs.View.{module_of}
use Rattle.ivory_tree.specs.declared.Module.{Module}
use Rattle.core_tree.specs.Syntax.{ModuleCore}
use Rattle.module_text.specs.Verdicts.{TooLong, Faulty, Reads, Judged}
use Rattle.rule_faults.specs.FirstFault.{FirstFault}
use Rattle.typing_rules.specs.WellTyped.{Stands, WellTyped}
use Rattle.ivoryc.specs.declared.status.Status.{Status}
use Rattle.ivoryc.specs.declared.status.Status.TheVariants as status
use Rattle.ivoryc.specs.Texts.{too_large_line, rule_fault_line}

-- the text of a tree of a well typed module
pub record IsWellTyped (text : List ℕ) : Type 0 where
  pub tree : Module
  pub read : Judged text (Reads tree)
  pub typed : WellTyped (module_of tree)

-- the text of a tree that stands for this core
pub record StandsFor (text : List ℕ) (core : ModuleCore) : Type 0 where
  pub tree : Module
  pub read : Judged text (Reads tree)
  pub stands : Stands (module_of tree) core

-- the text of a tree whose first fault is that it breaks this rule at this place
pub record BreaksRule (text : List ℕ) (rule : ℕ) (span : Span) : Type 0 where
  pub tree : Module
  pub read : Judged text (Reads tree)
  pub fault : FirstFault (module_of tree) rule span

-- why a text is that of no well typed module, as the status and the line that say so
pub data IsNoModule (text : List ℕ) : Status → List ℕ → Type 0 where
  too_long : Judged text TooLong → IsNoModule text status.TooLarge too_large_line
  at_fault : {line : List ℕ} → Judged text (Faulty line) → IsNoModule text status.Refused line
  broken : {rule : ℕ} {span : Span} → BreaksRule text rule span → IsNoModule text status.Refused (rule_fault_line text rule span)

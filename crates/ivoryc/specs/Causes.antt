-- Which refusal a fault of a load or of a text becomes, and how a fault of an input is told.
use Rattle.std.specs.Prelude.{ℕ, List}
use Rattle.iv_words.specs.Lines as places
use Rattle.iv_base.specs.declared.LoadFault.{LoadFault}
use Rattle.iv_base.specs.declared.LoadFault.TheVariants as load
use Rattle.module_text.specs.Lines.{fault_line}
use Rattle.module_text.specs.declared.TextFault.{TextFault}
use Rattle.module_text.specs.declared.TextFault.TheVariants as text
use Rattle.iv_script.specs.declared.ScriptError.{ScriptError}
use Rattle.iv_script.specs.declared.ScriptError.TheVariants as script
use Rattle.c_text.specs.declared.CFault.{CFault}
use Rattle.rule_checker.specs.declared.RuleFault.{RuleFault}
use Rattle.ivoryc.specs.declared.broken_rule.BrokenRule.{BrokenRule}
use Rattle.ivoryc.specs.declared.c_fault.CTextFault.{CTextFault}
use Rattle.ivoryc.specs.declared.input_fault.InputFault.{InputFault}
use Rattle.ivoryc.specs.declared.input_fault.InputFault.TheVariants as input
use Rattle.ivoryc.specs.declared.refusal.Refusal.{Refusal}
use Rattle.ivoryc.specs.declared.refusal.Refusal.TheVariants as refusal
use Rattle.ivoryc.specs.declared.status.Status.{Status}
use Rattle.ivoryc.specs.declared.status.Status.TheVariants as status
use Rattle.ivoryc.specs.Texts.{too_large_line, not_built_line, place_in, rule_line, c_line, script_line}
use Rattle.ivoryc.specs.Allowed.{Answer, Refuses}

abbrev pub refusal_of_load : LoadFault → Refusal
refusal_of_load load.Fault = refusal.ReadFault
refusal_of_load load.Memory = refusal.Memory

abbrev pub refusal_of_text : TextFault → Refusal
refusal_of_text text.TooLarge = refusal.Input input.TooLarge
refusal_of_text (text.At f) = refusal.Input (input.Module f)
refusal_of_text text.Memory = refusal.Memory

abbrev pub refusal_of_script : ScriptError → Refusal
refusal_of_script (script.At f) = refusal.Input (input.Script f)
refusal_of_script script.Memory = refusal.Memory

-- the line and the column of a fault of a C text
abbrev pub placed : List ℕ → CFault → CTextFault
placed text f = record { line = places.line text f.at; column = places.column text f.at; why = f.why }

-- the places and the number of a rule that is broken in a text
abbrev pub placed_rule : List ℕ → RuleFault → BrokenRule
placed_rule text f = record { start = place_in text f.span.start; end = place_in text f.span.end; rule = f.rule }

-- the status and the line of a fault of an input
abbrev pub status_of : InputFault → Status
status_of input.TooLarge = status.TooLarge
status_of (input.Module f) = status.Refused
status_of (input.Rule b) = status.Refused
status_of input.NotBuilt = status.NotBuilt
status_of (input.CText f) = status.Refused
status_of (input.Script f) = status.Script

abbrev pub line_of : InputFault → List ℕ
line_of input.TooLarge = too_large_line
line_of (input.Module f) = fault_line f
line_of (input.Rule b) = rule_line b.start b.end b.rule
line_of input.NotBuilt = not_built_line
line_of (input.CText f) = c_line f.line f.column f.why
line_of (input.Script f) = script_line f

abbrev pub answer_of : InputFault → Answer
answer_of fault = Refuses (status_of fault) (line_of fault)

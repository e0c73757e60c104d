-- What the checker answers of a module: its core, or its first fault.
use Rattle.std.specs.Prelude.{◌≡◌, ℕ}
use Rattle.iv_words.specs.declared.Span.{Span}
use Rattle.ivory_lexer.specs.Tokens.{IsName}
use Rattle.ivory_tree.specs.Syntax.{ModuleSyntax}
use Rattle.ivory_tree.specs.TextLike as text
use Rattle.core_tree.specs.Syntax.{ModuleCore}
use Rattle.core_tree.specs.TextLike as cores
use Rattle.rule_checker.specs.declared.RuleFault.{RuleFault}
use Rattle.rule_faults.specs.FirstFault.{FirstFault}
use Rattle.typing_rules.specs.WellTyped.{Stands, WellTyped}
use Rattle.iv_checker.specs.declared.answer.CheckError.{CheckError}
use Rattle.iv_checker.specs.declared.answer.CheckError.TheVariants.{Rule, Memory}

-- the module stands for this core, and for no other
pub record IsCoreOf (m : ModuleSyntax) (core : ModuleCore) : Type 0 where
  pub stands : Stands m core
  pub only : (other : ModuleCore) → Stands m other → other ≡ core

-- where the names of the module are names of the language and it is not too deep, so it is with the core
abbrev pub StaysTextLike : ModuleSyntax → ModuleCore → Type 0
StaysTextLike m core = text.TextLike IsName m → cores.TextLike IsName core

-- the first fault of the module, which has no other first one; then the module stands for no core
pub record IsFaultOf (m : ModuleSyntax) (fault : RuleFault) : Type 0 where
  pub first : FirstFault m fault.rule fault.span
  pub only : (k : ℕ) (s : Span) → FirstFault m k s → (k ≡ fault.rule) × (s ≡ fault.span)
  pub untyped : WellTyped m → ⊥

abbrev pub IsRefused : ModuleSyntax → CheckError → Type 0
IsRefused m (Rule fault) = IsFaultOf m fault
IsRefused m Memory = Unit {0}

-- What relates the two definitions, which are written apart: a module of the form that texts have is well typed or has a first fault, and
-- not both; and it stands for one core at most.
use Rattle.std.specs.Prelude.{◌≡◌, ◌⊎◌, ℕ}
use Rattle.iv_words.specs.declared.Span.{Span}
use Rattle.ivory_tree.specs.Syntax.{ModuleSyntax}
use Rattle.ivory_tree.specs.Formed.{Formed}
use Rattle.core_tree.specs.Syntax.{ModuleCore}
use Rattle.rule_faults.specs.FirstFault.{FirstFault, Faultless}
use Rattle.typing_rules.specs.WellTyped.{Stands, WellTyped}
use Rattle.typing_rules.specs.Made.{made}

pub record Faulty (m : ModuleSyntax) : Type 0 where
  pub rule : ℕ
  pub span : Span
  pub fault : FirstFault m rule span

-- what stands for a core breaks no rule
abbrev pub StandingIsFaultless : Type 0
StandingIsFaultless = (m : ModuleSyntax) (core : ModuleCore) → Formed m → Stands m core → Faultless m

-- what breaks no rule stands for a core
abbrev pub FaultlessIsTyped : Type 0
FaultlessIsTyped = (m : ModuleSyntax) → Formed m → Faultless m → WellTyped m

-- a module is well typed or has a first fault, and not both
abbrev pub ExactlyOne : Type 0
ExactlyOne = (m : ModuleSyntax) → Formed m → (WellTyped m ⊎ Faulty m) × (WellTyped m → Faulty m → ⊥)

-- and it stands for one core at most
abbrev pub OneCore : Type 0
OneCore = (m : ModuleSyntax) (c d : ModuleCore) → Stands m c → Stands m d → c ≡ d

-- that is the core that is made of its text
abbrev pub StandingIsMade : Type 0
StandingIsMade = (m : ModuleSyntax) (core : ModuleCore) → Stands m core → core ≡ made m

-- for which it stands where it breaks no rule
abbrev pub FaultlessIsMade : Type 0
FaultlessIsMade = (m : ModuleSyntax) → Formed m → Faultless m → Stands m (made m)

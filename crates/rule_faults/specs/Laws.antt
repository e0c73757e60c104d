-- The function gives the first fault, and there is at most one.
use Rattle.std.specs.Prelude.{◌≡◌, ℕ, Some, None}
use Rattle.iv_words.specs.declared.Span.{Span}
use Rattle.ivory_tree.specs.Syntax.{ModuleSyntax}
use Rattle.rule_faults.specs.FirstFault.{FirstFault, Faultless, first_fault}

-- what the function gives is the first fault
abbrev pub Found : Type 0
Found = (m : ModuleSyntax) (k : ℕ) (s : Span) → first_fault m ≡ Some (k, s) → FirstFault m k s

-- it gives each first fault
abbrev pub Complete : Type 0
Complete = (m : ModuleSyntax) (k : ℕ) (s : Span) → FirstFault m k s → first_fault m ≡ Some (k, s)

-- where it gives none, there is none
abbrev pub NoneIsFaultless : Type 0
NoneIsFaultless = (m : ModuleSyntax) → first_fault m ≡ None → Faultless m

-- and it gives none where there is none
abbrev pub FaultlessIsNone : Type 0
FaultlessIsNone = (m : ModuleSyntax) → Faultless m → first_fault m ≡ None

-- a module has one first fault at most
abbrev pub Unique : Type 0
Unique = (m : ModuleSyntax) (j k : ℕ) (s t : Span) → FirstFault m j s → FirstFault m k t → (j ≡ k) × (s ≡ t)

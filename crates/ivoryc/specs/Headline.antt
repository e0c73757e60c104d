-- What the C text of a module text is, which is the headline; and the module texts that have one so far.
use Rattle.std.specs.Prelude.{◌≡◌, ℕ, List}
use Rattle.ivory_tree.specs.View.{module_of}
use Rattle.ivory_tree.specs.declared.Module.{Module}
use Rattle.first_form.specs.declared.FirstModule.{FirstModule}
use Rattle.first_form.specs.Stands.{Stands}
use Rattle.c_ast.specs.declared.Target.TheVariants.{T32}
use Rattle.c_ast.specs.Syntax.{TranslationUnit}
use Rattle.c_text.specs.ReadsBack.{Spells, ReadsBack}
use Rattle.c_lower.specs.Shape.{Shape}
use Rattle.c_lower.specs.Refines.{Refines}
use Rattle.module_text.specs.Verdicts.{Reads, Judged}
use Rattle.ivoryc.specs.Modules.{IsWellTyped}

-- ---- modules that are compiled so far

-- the text of a tree that stands for a module of the first form
pub record FirstForm (text : List ℕ) (core : FirstModule) : Type 0 where
  pub tree : Module
  pub read : Judged text (Reads tree)
  pub stands : Stands (module_of tree) core

-- the text of no such module
abbrev pub IsOfNoFirstForm : List ℕ → Type 0
IsOfNoFirstForm text = (core : FirstModule) → ¬ FirstForm text core

-- the text of a well typed module, but of no such one
pub record IsUnbuilt (text : List ℕ) : Type 0 where
  pub typed : IsWellTyped text
  pub none : IsOfNoFirstForm text

-- ---- the headline: C text that does what a module text says

-- These bytes are the text of a unit, and of no other, with the shape of the module that the text stands for, and the unit does what the
-- module does: for every script and every number of steps, both ways, and never undefined.
pub record IsCompiled (text bytes : List ℕ) : Type 0 where
  pub core : FirstModule
  pub form : FirstForm text core
  pub unit : TranslationUnit
  pub reads_back : ReadsBack unit bytes T32
  pub only : (other : TranslationUnit) → Spells other bytes → other ≡ unit
  pub shape : Shape core unit
  pub refines : Refines core unit T32

-- When the names and types of a unit are right on a target: each rule that is asked for at a place of its text is kept there.
use Rattle.std.specs.Prelude.{IsTrue, All}
use Rattle.c_ast.specs.declared.types.Target.{Target}
use Rattle.c_ast.specs.Syntax.{TranslationUnit}
use Rattle.c_text.specs.Rules.{Demand}
use Rattle.c_text.specs.UnitRules.{unit_demands}

abbrev pub IsKept : Demand → Type 0
IsKept d = IsTrue d.kept

pub record Right (target : Target) (u : TranslationUnit) : Type 0 where
  pub kept : All IsKept (unit_demands target u)

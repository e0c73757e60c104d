-- What contracts see of a program of the code: its parts, and the program of the meaning.
use Rattle.c_ast.specs.View.{unit_of}
use Rattle.c_ast.specs.declared.CUnit.{CUnit}
use Rattle.c_ast.specs.declared.Target.{Target}
use Rattle.c_meaning.specs.State as meaning

pub record Parts : Type 0 where
  pub unit : CUnit
  pub target : Target

abbrev pub program_of : Parts → meaning.Program
program_of p = meaning.program_of (unit_of p.unit) p.target

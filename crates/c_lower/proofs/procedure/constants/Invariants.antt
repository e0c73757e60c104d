use Rattle.std.proofs.Common.{◌≡◌, map, take}
use Rattle.c_ast.specs.View.{expr_of}
use Rattle.c_lower.specs.Lowered.{constant_for}
use Rattle.c_lower.proofs.procedure.constants.Given as goal

abbrev pub invariant-loop-value : goal.invariant-loop-value
invariant-loop-value l = map expr_of l.args ≡ map constant_for (take l.value-index l.values)

use Rattle.std.proofs.Common.{◌≡◌, replicate}
use Rattle.iv_words.specs.declared.IntKind.TheVariants.{U8}
use Rattle.c_ast.specs.declared.CScalar.TheVariants.{Int}
use Rattle.c_ast.specs.declared.CType.TheVariants.{Value}
use Rattle.c_lower.proofs.import.parameters.Given as goal

abbrev pub invariant-loop-done : goal.invariant-loop-done
invariant-loop-done l = l.params ≡ replicate l._done (Value (Int U8))

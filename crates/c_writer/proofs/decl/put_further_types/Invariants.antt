use Rattle.std.proofs.Common.{take, ◌++◌}
use Rattle.std.specs.Prelude.{map, codes}
use Rattle.c_text.specs.TypeText.{texts}
use Rattle.c_text.specs.TypeText.{type_text}
use Rattle.c_writer.specs.Stages.{Puts}
use Rattle.c_writer.proofs.decl.put_further_types.Given as goal

abbrev pub invariant-loop-ty : goal.invariant-loop-ty
invariant-loop-ty g l = Puts (g.P.Pieces.stage l.initial.out) (g.P.Pieces.stage l.out) (texts (map (λ t. codes ", " ++ type_text t) (take l.ty-index l.types)))

use Rattle.std.proofs.Common.{take, ◌++◌}
use Rattle.std.specs.Prelude.{map, codes}
use Rattle.c_text.specs.TypeText.{texts}
use Rattle.c_text.specs.Spelling.{param_text}
use Rattle.c_writer.specs.Stages.{Puts}
use Rattle.c_writer.proofs.decl.put_further_params.Given as goal

abbrev pub invariant-loop-param : goal.invariant-loop-param
invariant-loop-param g l = Puts (g.P.Pieces.stage l.initial.out) (g.P.Pieces.stage l.out) (texts (map (λ p. codes ", " ++ param_text p) (take l.param-index l.params)))

use Rattle.std.proofs.Common.{◌≡◌, take}
use Rattle.std.specs.Prelude.{map}
use Rattle.c_ast.specs.View.{init_of}
use Rattle.c_text.specs.TypeText.{listed}
use Rattle.c_text.specs.ExpressionText.{init_text}
use Rattle.c_writer.specs.Separated.{has_any}
use Rattle.c_writer.specs.Stages.{Puts}
use Rattle.c_writer.proofs.init.+inits.Given as goal

abbrev pub invariant-put_inits-loop-init : goal.invariant-put_inits-loop-init
invariant-put_inits-loop-init g l = (l.more ≡ has_any (take l.init-index l.inits)) × Puts (g.P.Pieces.stage l.initial.out) (g.P.Pieces.stage l.out) (listed (map (λ i. init_text (init_of i)) (take l.init-index l.inits)))

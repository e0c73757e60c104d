use Rattle.std.proofs.Common.{ap, sym}
use Rattle.c_ast.specs.View.{init_of}
use Rattle.c_ast.proofs.View.{many_is}
use Rattle.c_text.specs.TypeText.{listed}
use Rattle.c_text.specs.ExpressionText.{init_text}
use Rattle.c_writer.proofs.Lists.{one_listed, all_listed, some_behind, inits_are}
use Rattle.c_writer.proofs.Stages.{then, as_text}
use Rattle.c_writer.proofs.init.+inits.Goals as goal

pub put_init-returns-in-Many : goal.put_init-returns-in-Many
put_init-returns-in-Many g t c = rw c.in-Many.is (rw (many_is c.in-Many.inits) (then (then c.put-in-Many.ensures (rw c.as_slice.ensures at c.put_inits.ensures)) (c.put-in-Many-2.ensures)))

pub put_inits-loop-init-preserved : goal.put_inits-loop-init-preserved
put_inits-loop-init-preserved g t c = (sym (some_behind c.args.inits.now c.loop-init.init-index c.init-item.result c.loop-init-test.true), one_listed (λ i. init_text (init_of i)) c.args.inits.now c.loop-init.init-index c.init-item.result c.loop-init.more c.loop-init-test.true c.init-item.is c.loop-init.invariant.0 c.loop-init.invariant.1 c.put_comma.ensures c.put_init.ensures)

pub put_inits-returns : goal.put_inits-returns
put_inits-returns g t c = as_text (ap listed (inits_are init_of c.args.inits.now)) (all_listed (λ i. init_text (init_of i)) c.args.inits.now c.loop-init.init-index c.loop-init-test.false c.loop-init.invariant.1)

use Rattle.c_text.specs.TypeText.{type_text}
use Rattle.c_writer.proofs.Lists.{params_put}
use Rattle.c_writer.proofs.Stages.{then}
use Rattle.c_writer.proofs.decl.put_types.Goals as goal

pub returns-in-Some : goal.returns-in-Some
returns-in-Some g c = params_put type_text c.args.types.now c.in-Some.first.now c.in-Some.rest.now (c.in-Some.ensures.cases.0) (then (then (then c.put-in-Some.ensures (c.put_type.ensures)) (c.put_further_types.ensures)) (c.put-in-Some-2.ensures))

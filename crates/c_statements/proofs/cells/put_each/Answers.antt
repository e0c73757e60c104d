use Rattle.std.proofs.Common.{sym, ◌∙◌, arith}
use Rattle.c_objects.specs.Store.{objects_of}
use Rattle.c_statements.proofs.CellLoops.{written_end}
use Rattle.c_statements.proofs.cells.put_each.Goals as goal

pub returns : goal.returns
returns c = sym c.loop-i.invariant ∙ written_end c.args.t c.args.cells.now c.args.values.now c.loop-i.i (objects_of c.loop-i.objects) (omega arith)

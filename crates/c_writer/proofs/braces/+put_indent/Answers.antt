use Rattle.std.proofs.Common.{sym}
use Rattle.c_writer.specs.Depths.{depth}
use Rattle.c_writer.proofs.Depths.{in_is}
use Rattle.c_writer.proofs.Lists.{indent_more}
use Rattle.c_writer.proofs.Stages.{then, as_text}
use Rattle.c_writer.proofs.braces.+put_indent.Goals as goal

pub returns-in-In : goal.returns-in-In
returns-in-In g t c = rw c.in-In.is (rw (in_is c.in-In.outer) (as_text (sym (indent_more (depth c.in-In.outer.now))) (then c.put_indent.ensures c.put.ensures)))

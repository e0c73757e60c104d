-- What the procedures so far stand for.
use Rattle.std.proofs.Common.{take, map}
use Rattle.std.specs.List.{AllZip}
use Rattle.ivory_tree.specs.View.{item_of}
use Rattle.first_form.specs.Stands.{ProcStands}
use Rattle.first_form.proofs.procedure.first_procs.Given as goal

abbrev pub invariant-loop-proc : goal.invariant-loop-proc
invariant-loop-proc l = AllZip (ProcStands l.imports) (map item_of (take l.proc-index l.procs)) l.firsts

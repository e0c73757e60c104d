-- What the statements so far stand for.
use Rattle.std.proofs.Common.{take, map}
use Rattle.std.specs.List.{AllZip}
use Rattle.ivory_tree.specs.View.{stmt_of}
use Rattle.first_form.specs.Stands.{StmtStands}
use Rattle.first_form.proofs.call.first_calls.Given as goal

abbrev pub invariant-loop-stmt : goal.invariant-loop-stmt
invariant-loop-stmt l = AllZip (StmtStands l.imports) (map stmt_of (take l.stmt-index l.stmts)) l.firsts

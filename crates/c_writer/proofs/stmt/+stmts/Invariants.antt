use Rattle.std.proofs.Common.{take}
use Rattle.std.specs.Prelude.{map}
use Rattle.c_ast.specs.View.{stmt_of}
use Rattle.c_text.specs.TypeText.{texts}
use Rattle.c_text.specs.StatementText.{stmt_text}
use Rattle.c_writer.specs.Depths.{depth}
use Rattle.c_writer.specs.Stages.{Puts}
use Rattle.c_writer.proofs.stmt.+stmts.Given as goal

abbrev pub invariant-put_stmts-loop-stmt : goal.invariant-put_stmts-loop-stmt
invariant-put_stmts-loop-stmt g l = Puts (g.P.Pieces.stage l.initial.out) (g.P.Pieces.stage l.out) (texts (map (λ s. stmt_text (depth l.braces) (stmt_of s)) (take l.stmt-index l.stmts)))

use Rattle.std.proofs.Common.{subst, length, ◌≤◌}
use Rattle.c_ast.specs.View.{unit_of}
use Rattle.c_reader.specs.Answers.{text_limit}
use Rattle.c_reader.proofs.Results.{spelled, read_of_kept, unread}
use Rattle.c_reader.proofs.read.read.Goals as goal

pub kept-requires : goal.kept-requires
kept-requires c = subst (λ text. length text ≤ text_limit) (spelled c.args.bytes.now (unit_of c.in-Ok.unit) c.in-Ok.ensures).spelled.is c.requires

pub returns-in-Ok : goal.returns-in-Ok
returns-in-Ok c = read_of_kept c.args.target c.args.bytes.now (unit_of c.in-Ok.unit) c.kept.result (spelled c.args.bytes.now (unit_of c.in-Ok.unit) c.in-Ok.ensures) c.kept.ensures

pub returns-in-Err : goal.returns-in-Err
returns-in-Err c = rw c.told.ensures (unread c.args.target c.args.bytes.now c.in-Err.why c.in-Err.ensures)

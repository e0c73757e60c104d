use Rattle.statement_parser.proofs.Further.{one_before}
use Rattle.statement_parser.proofs.list.behind.Goals as goal

pub returns : goal.returns
returns g c = one_before _ _ _ _ c.in_ok-first.ensures c.further.ensures

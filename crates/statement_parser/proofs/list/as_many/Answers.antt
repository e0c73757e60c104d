use Rattle.statement_parser.proofs.Further.{none_before}
use Rattle.statement_parser.proofs.list.as_many.Goals as goal

pub returns : goal.returns
returns g c = none_before _ _ _ c.new.ensures c.further.ensures

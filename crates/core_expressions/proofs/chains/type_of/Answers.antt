use Rattle.std.proofs.Common.{sym}
use Rattle.core_expressions.proofs.Types.{type_is}
use Rattle.core_expressions.proofs.chains.type_of.Goals as goal

pub returns : goal.returns
returns c = sym (type_is c.args.e.now)

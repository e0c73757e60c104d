use Rattle.std.proofs.Common.{◌++◌, [], Ok, ap, arith}
use Rattle.c_meaning.specs.Values.{on_ok}
use Rattle.c_statements.proofs.GivenParts.{too_many}
use Rattle.c_statements.proofs.numbers.no_members.Goals as goal

pub returns-else-len-eq0 : goal.returns-else-len-eq0
returns-else-len-eq0 c = ap (λ q. on_ok q (λ ns. Ok (c.args.out.now ++ ns))) (too_many c.args.t [] c.args.givens.now 0 (omega arith) (omega (arith, c.if-len-eq0.false, c.len.ensures)))

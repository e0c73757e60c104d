use Rattle.std.proofs.Common.{◌≡◌}
use Rattle.std.proofs.lemmas.Result.{IfOk-weaker}
use Rattle.c_ast.specs.View.{unit_of}
use Rattle.c_lower.specs.Compiled.{Compiled}
use Rattle.c_lower.specs.Lowered.{lowered}
use Rattle.c_lower.proofs.Compiles.{compiled}
use Rattle.c_lower.proofs.module.lower.Goals as goal

pub returns : goal.returns
returns c =
    let core = c.args.core.now in
    IfOk-weaker c.lowered.result (λ u. unit_of u ≡ lowered core) (λ u. Compiled core (unit_of u) c.args.target) (λ u is. compiled core c.requires c.args.target (unit_of u) is) c.lowered.ensures

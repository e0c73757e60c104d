use Rattle.std.proofs.Common.{◌∙◌, ap}
use Rattle.std.proofs.lemmas.Int.{to_z-of_z}
use mir.Syntax.{w128}
use Rattle.c_operators.specs.Reasons.{or_reason}
use Rattle.c_operators.proofs.Sums.{quotient_alike}
use Rattle.c_operators.proofs.arithmetic.quotient.Goals as goal

pub returns : goal.returns
returns c =
    let e = rw (to_z-of_z w128 c.args.a c.ranges.a, to_z-of_z w128 c.args.b c.ranges.b) at c.apply.ensures.exact in
    c.or_reason.ensures ∙ ap or_reason e ∙ quotient_alike c.args.kind c.args.a c.args.b c.requires.left c.requires.right

use Rattle.std.proofs.Common.{subst}
use Rattle.std.proofs.lemmas.Int.{to_z-of_z}
use mir.Syntax.{w128}
use Rattle.c_ast.specs.Targets.{table_of}
use Rattle.c_operators.specs.Values.{value_of, Gives, Never}
use Rattle.c_operators.proofs.InCommon.{usual_in_common}
use Rattle.c_operators.proofs.alike.usual_of.Goals as goal

pub returns : goal.returns
returns c =
    let given = rw (to_z-of_z w128 c.args.a c.ranges.a, to_z-of_z w128 c.args.b c.ranges.b) at c.usual_in.ensures in
    let same = usual_in_common (table_of c.args.t) c.args.k c.args.l c.args.a c.args.b c.common_type.result c.common_type.ensures c.args.op in
    subst (λ said. Gives Never value_of said c.usual_in.result) same given

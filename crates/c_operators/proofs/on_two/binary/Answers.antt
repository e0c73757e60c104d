use Rattle.std.proofs.Common.{sym, subst}
use Rattle.c_ast.specs.Targets.{table_of}
use Rattle.c_operators.specs.Values.{value_of, Gives, Never}
use Rattle.c_operators.proofs.ByClass.{binary_by_class}
use Rattle.c_operators.proofs.on_two.binary.Goals as goal

pub returns : goal.returns
returns c =
    let same = binary_by_class (table_of c.args.t) c.args.op (value_of c.args.a) (value_of c.args.b) in
    let given = rw c.class_of.ensures at c.of_class.ensures in
    subst (λ said. Gives Never value_of said c.of_class.result) (sym same) given

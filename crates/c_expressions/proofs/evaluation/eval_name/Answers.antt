use Rattle.std.proofs.Common.{ap, sym, subst, ◌∙◌}
use Rattle.c_operators.specs.Values.{Gives}
use Rattle.c_expressions.specs.Names.{place_of}
use Rattle.c_expressions.specs.Places.{Excused, lvalue_of}
use Rattle.c_expressions.specs.Programs.{program_of}
use Rattle.c_expressions.specs.State.{state_of}
use Rattle.c_expressions.proofs.Meanings.{place_is}
use Rattle.c_expressions.proofs.evaluation.eval_name.Goals as goal

pub returns : goal.returns
returns c =
    subst (λ r. Gives Excused lvalue_of r c.place_of_name.result)
    (ap (place_of c.args.program.now.unit.structs) c.look_up.ensures ∙ sym (place_is (program_of c.args.program.now) (state_of c.args.state.now) c.args.name.now))
    c.place_of_name.ensures

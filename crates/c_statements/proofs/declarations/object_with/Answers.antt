use Rattle.std.proofs.lemmas.Result.{err_from_is_err_and}
use Rattle.std.proofs.Common.{ap, ◌∙◌}
use Rattle.c_ast.specs.Structs.{tree}
use Rattle.c_expressions.specs.State.{state_of}
use Rattle.c_objects.specs.Shapes.{type_tree}
use Rattle.c_statements.specs.Given.{given_of}
use Rattle.c_statements.proofs.Making.{making_stops}
use Rattle.c_statements.proofs.declarations.object_with.Goals as goal

pub returns-in_err-numbers : goal.returns-in_err-numbers
returns-in_err-numbers c =
    let q = err_from_is_err_and c.from_residual.result c.from_residual.ensures.1 in
    let p = c.args.program.now in
    let run = c.args.run.now in
    rw (q.1, q.2) (making_stops p c.args.name.now c.args.base.now (given_of c.args.values.now) (type_tree c.type_of-ty.result) c.numbers_of.result c.in_err-numbers.field-0.0 run.world.steps run.world (state_of run.state) c.target.result c.target.ensures
    (c.type_of-ty.ensures ∙ ap (tree p.unit.structs) c.base_ref.ensures) c.numbers_of.ensures c.in_err-numbers.ensures)

use Rattle.std.proofs.Common.{ap, sym, ◌∙◌}
use Rattle.std.specs.Option.{option_map}
use Rattle.c_ast.specs.StaticTypes.{of_entity}
use Rattle.c_expressions.specs.Names.{entity_of}
use Rattle.c_expressions.specs.Programs.{program_of}
use Rattle.c_expressions.specs.State.{state_of}
use Rattle.c_expressions.proofs.Meanings.{entity_is}
use Rattle.c_expressions.proofs.typing.name_type.Goals as goal

pub returns : goal.returns
returns c =
    c.of_name.ensures
    ∙ ap (λ m. option_map (of_entity c.args.program.now.unit.structs) (entity_of m)) c.look_up.ensures
    ∙ ap (option_map (of_entity c.args.program.now.unit.structs)) (sym (entity_is (program_of c.args.program.now) (state_of c.args.state.now) c.args.name.now))

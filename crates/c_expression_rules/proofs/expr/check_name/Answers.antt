use Rattle.std.proofs.Common.{ap, ◌∙◌, None, is_some, if◌then◌else◌}
use Rattle.std.specs.Option.{option_map}
use Rattle.c_ast.specs.StaticTypes.{of_entity}
use Rattle.c_text.specs.Rules.{NameIsKnown, NameIsPlace, FileScopeHasNoNames}
use Rattle.c_scopes.specs.Scope.{names_view}
use Rattle.c_scopes.specs.StructViews.{structs_view}
use Rattle.c_expression_rules.proofs.Gates.{usable_named}
use Rattle.c_scopes.proofs.Walks.{passed, asked_here, asked_again}
use Rattle.c_expression_rules.proofs.expr.check_name.Goals as goal

pub returns-clause-walks : goal.returns-clause-walks
returns-clause-walks c =
    passed
    (asked_again FileScopeHasNoNames
    (asked_again NameIsPlace
    (asked_here NameIsKnown (rw (c.either.ensures, c.is_found-declared.ensures, c.entity-entity.ensures, c.is_function-function.ensures) at c.ask.ensures))
    (rw c.is_function-function.ensures at c.ask-2.ensures))
    (rw (c.either-2.ensures, c.in_function.ensures, c.is_found-declared.ensures, c.entity-entity.ensures) at c.ask-3.ensures))
    (rw c.as_slice.ensures at c.pass.ensures)

pub returns-clause-ty : goal.returns-clause-ty
returns-clause-ty c =
    c.place_of.ensures
    ∙ ap (λ e. option_map (of_entity (structs_view c.args.names.now.structs)) (if is_some c.args.names.now.itself then e else None)) c.entity-entity.ensures
    ∙ ap (option_map (of_entity (structs_view c.args.names.now.structs))) (usable_named (names_view c.args.names.now) c.args.name.now)

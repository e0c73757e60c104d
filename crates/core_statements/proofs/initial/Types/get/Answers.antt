use Rattle.std.proofs.Common.{sym, ap, ◌∙◌}
use Rattle.std.specs.Prelude.{slice_get}
use Rattle.std.specs.Option.{option_map}
use Rattle.std.proofs.lemmas.Option.{slice_get-map}
use Rattle.core_state.specs.Types.{written_of}
use Rattle.core_statements.specs.Initial.{types_of}
use Rattle.core_statements.proofs.Lists.{repeated_at, repeated_past}
use Rattle.core_statements.proofs.initial.Types.get.Goals as goal

pub returns-then-at-length : goal.returns-then-at-length
returns-then-at-length c = sym (repeated_at c.in-Elements.length (written_of c.in-Elements.element.now) c.args.at c.if-at-length.true) ∙ ap (λ t. slice_get (types_of t) c.args.at) (sym c.in-Elements.is)

pub returns-else-at-length : goal.returns-else-at-length
returns-else-at-length c = sym (repeated_past c.in-Elements.length (written_of c.in-Elements.element.now) c.args.at c.if-at-length.false) ∙ ap (λ t. slice_get (types_of t) c.args.at) (sym c.in-Elements.is)

pub returns-in-Fields : goal.returns-in-Fields
returns-in-Fields c = ap (option_map written_of) c.get.ensures.value ∙ sym (slice_get-map written_of c.in-Fields.fields.now c.args.at) ∙ ap (λ t. slice_get (types_of t) c.args.at) (sym c.in-Fields.is)

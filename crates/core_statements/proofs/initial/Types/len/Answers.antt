use Rattle.std.proofs.Common.{length, sym, ap, ◌∙◌}
use Rattle.core_state.specs.Types.{written_of}
use Rattle.core_statements.specs.Initial.{types_of}
use Rattle.core_statements.proofs.Lists.{repeated_length}
use Rattle.core_statements.proofs.initial.Types.len.Goals as goal

pub returns-in-Elements : goal.returns-in-Elements
returns-in-Elements c = sym (repeated_length c.in-Elements.length (written_of c.in-Elements.field-1.now)) ∙ ap (λ t. length (types_of t)) (sym c.in-Elements.is)

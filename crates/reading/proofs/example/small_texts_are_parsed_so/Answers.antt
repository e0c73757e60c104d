-- By computation.
use Rattle.std.proofs.Common.{refl}
use Rattle.reading.specs.Reader.{many}
use Rattle.reading.specs.Example.{read}
use Rattle.reading.proofs.example.small_texts_are_parsed_so.Goals as goal

pub returns-clause-names : goal.returns-clause-names
unfolding read many
returns-clause-names c = refl

pub returns-clause-one_level : goal.returns-clause-one_level
unfolding read many
returns-clause-one_level c = refl

pub returns-clause-two_levels : goal.returns-clause-two_levels
unfolding read many
returns-clause-two_levels c = refl

pub returns-clause-no_comma : goal.returns-clause-no_comma
unfolding read many
returns-clause-no_comma c = refl

pub returns-clause-ends_early : goal.returns-clause-ends_early
unfolding read many
returns-clause-ends_early c = refl

pub returns-clause-sign : goal.returns-clause-sign
unfolding read many
returns-clause-sign c = refl

pub returns-clause-operator : goal.returns-clause-operator
unfolding read many
returns-clause-operator c = refl

pub returns-clause-operator_at_end : goal.returns-clause-operator_at_end
unfolding read many
returns-clause-operator_at_end c = refl

pub returns-clause-both : goal.returns-clause-both
unfolding read many
returns-clause-both c = refl

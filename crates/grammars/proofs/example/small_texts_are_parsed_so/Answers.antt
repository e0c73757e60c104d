-- By computation.
use Rattle.std.proofs.Common.{refl}
use Rattle.reading.specs.Reader.{many}
use Rattle.grammars.specs.Reader.{in_stages, read}
use Rattle.grammars.proofs.example.small_texts_are_parsed_so.Goals as goal

pub returns-clause-stages : goal.returns-clause-stages
unfolding read many in_stages
returns-clause-stages c = refl

pub returns-clause-name_behind_number : goal.returns-clause-name_behind_number
unfolding read many in_stages
returns-clause-name_behind_number c = refl

pub returns-clause-one_level : goal.returns-clause-one_level
unfolding read many in_stages
returns-clause-one_level c = refl

pub returns-clause-two_levels : goal.returns-clause-two_levels
unfolding read many in_stages
returns-clause-two_levels c = refl

pub returns-clause-no_comma : goal.returns-clause-no_comma
unfolding read many in_stages
returns-clause-no_comma c = refl

pub returns-clause-ends_early : goal.returns-clause-ends_early
unfolding read many in_stages
returns-clause-ends_early c = refl

use Rattle.core_validity.proofs.TextLike.{names_are_of_the_text}
use Rattle.core_validity.proofs.laws.names_are_of_the_text.Goals as goal

-- src/laws.rt:1:1
pub returns : goal.returns
returns c = names_are_of_the_text
